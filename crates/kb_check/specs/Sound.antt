-- A rule that is said never to start can't.
use Rattle.std.specs.Prelude.{◌≡◌, ℕ, List, All, Some, slice_get}
use Rattle.kb_lints.specs.Hidden.{Hides}
use Rattle.kb_lints.specs.declared.hidden.Hiding.{Hiding}
use Rattle.kb_problems.specs.Starts.{never_said}
use Rattle.kb_problems.specs.declared.problem.Problem.{Problem}
use Rattle.kb_resolve.specs.Enablements.{Enabling}
use Rattle.kb_rules.specs.declared.rule.Rule.{Rule}

-- the problem is at a rule in force that no search chooses, as the laws of the lints say: a lower rule takes
-- its keystrokes, or the first of them, or has them and more
pub record NeverStarts (at_rule : Rule → Problem → Type 0) (enablement : Enabling) (rules : List Rule)
    (problem : Problem) : Type 0 where
  pub how : Hiding
  pub position : ℕ
  pub by : ℕ
  pub rule : Rule
  pub at : slice_get rules position ≡ Some rule
  pub placed : at_rule rule problem
  pub never : Hides how enablement rules position by

-- each problem that says that a rule can never start is at a rule that can't
abbrev pub AreSound : (Rule → Problem → Type 0) → Enabling → List Rule → List Problem → Type 0
AreSound at_rule enablement rules problems = All (NeverStarts at_rule enablement rules) (never_said problems)
