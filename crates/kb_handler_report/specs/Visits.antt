-- The places of a path, with their costs.
use Rattle.std.specs.Prelude.{◌≡◌, ℕ, ◌*◌, suc, List, [], ◌∷◌, ◌++◌}
use Rattle.kb_code.specs.Handler.{HandlerData}
use Rattle.kb_code.specs.declared.instr.Instr.{Instr}
use Rattle.kb_verify.specs.Callable.{Commands}
use Rattle.kb_verify.specs.Costs.{capped}
use Rattle.kb_verify.specs.Paths.{cost, Steps, Path, returns, ends, goes_on, falls, jumps, repeats}
use Rattle.kb_handler_report.specs.declared.path.Visit.{Visit}

-- a place with the instruction there, where a path comes so often
abbrev pub visit_of : Commands → HandlerData → ℕ → ℕ → Instr → Visit
visit_of commands h times p i = record { place = p; instr = i; cost = cost commands h i; times = times }

-- the places of a path from a place, in order; those of a block come once, and times its iterations
abbrev pub visits_in : (commands : Commands) (h : HandlerData) (times p : ℕ) (steps : Steps) (c : ℕ)
    → Path commands h p steps c → List Visit
visits_in commands h times p steps c (returns i at e) = visit_of commands h times p i ∷ []
visits_in commands h times p steps c (ends i at e) = visit_of commands h times p i ∷ []
visits_in commands h times p steps c (goes_on {q = q} {c = d} i at e lt path) =
    visit_of commands h times p i ∷ visits_in commands h times q steps d path
visits_in commands h times p steps c (falls {q = q} {c = d} {steps = more} i at e lt path) =
    visit_of commands h times p i ∷ visits_in commands h times q more d path
visits_in commands h times p steps c (jumps {r = r} {c = d} {steps = more} i at e lt path) =
    visit_of commands h times p i ∷ visits_in commands h times r more d path
visits_in commands h times p steps c
    (repeats {q = q} {n = n} {e = end} {c = a} {d = d} {turn = turn} {rest = rest}
    i at is lt closes inner past) =
    visit_of commands h times p i ∷ visits_in commands h (capped (times * n)) q turn a inner
    ++ visits_in commands h times (suc end) rest d past

-- the places of the path with these steps are added to others, and its cost is told, as far as 64 bits go
abbrev pub IsAdded : Commands → HandlerData → ℕ → ℕ → Steps → List Visit → List Visit → ℕ → Type 0
IsAdded commands h times start path before visits told =
    (c : ℕ) (is : Path commands h start path c) →
    (visits ≡ before ++ visits_in commands h times start path c is) × (told ≡ capped c)

-- these are the places of the path with these steps from the first place, and this is its cost, as far as 64
-- bits go
abbrev pub IsListed : Commands → HandlerData → Steps → List Visit → ℕ → Type 0
IsListed commands h path visits told = IsAdded commands h 1 0 path [] visits told
