-- A list of steps as the steps of a path.
use Rattle.std.specs.Prelude.{List, [], ◌∷◌}
use Rattle.kb_verify.specs.Paths.{Steps, Nothing, Choice, Turns}
use Rattle.kb_verify.specs.declared.fault.Step.{Step, fold-Step}
use Rattle.kb_verify.specs.declared.fault.Step.TheOpen.{Step-F}

abbrev pub one_after : List (Steps → Steps) → Steps → Steps
one_after [] rest = rest
one_after (f ∷ fs) rest = f (one_after fs rest)

-- one step before others, where the steps inside are seen so already
abbrev pub step_before : Step-F (Steps → Steps) → Steps → Steps
step_before (Step-F.Choice jumped) = λ rest. Choice jumped rest
step_before (Step-F.Turns v) = λ rest. Turns (one_after v.items Nothing) rest

abbrev pub before : Step → Steps → Steps
before = fold-Step (Steps → Steps) step_before

abbrev pub all_before : List Step → Steps → Steps
all_before [] rest = rest
all_before (s ∷ ss) rest = before s (all_before ss rest)

-- the steps of a list, in order
abbrev pub route_of : List Step → Steps
route_of steps = all_before steps Nothing
