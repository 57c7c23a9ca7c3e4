-- Problems that don't say that a rule can never start.
use Rattle.std.proofs.Common.{◌≡◌, ◌∙◌, ◌++◌, List, [], ◌∷◌, Bool, false, ap, append-nil, cond}
use Rattle.std.proofs.lemmas.List.Elements.{filter-append}
use Rattle.kb_problems.specs.declared.problem.Problem.{Problem}
use Rattle.kb_problems.specs.Starts.{never_said, says_never}

-- one more changes nothing
pub other_adds : (ps : List Problem) (p : Problem) → says_never p.cause ≡ false
    → never_said (ps ++ p ∷ []) ≡ never_said ps
other_adds ps p other =
    filter-append (λ q. says_never q.cause) ps (p ∷ [])
    ∙ ap (λ (b : Bool). never_said ps ++ cond b (p ∷ []) []) other
    ∙ append-nil (never_said ps)
