-- What is said of a removal: which rule it takes, or which one it may mean.
use Rattle.std.specs.Prelude.{◌≡◌, ⊤, ℕ, List, true, Some, slice_get}
use Rattle.kb_rules.specs.Removal.{Takes, fits_keys}
use Rattle.kb_rules.specs.declared.removal.Removal.{Removal}
use Rattle.kb_rules.specs.declared.rule.Rule.{Rule}
use Rattle.kb_lints.specs.declared.idle_removal.Taking.{Taking}
use Rattle.kb_lints.specs.declared.idle_removal.Taking.TheVariants.{Rules, ButForOrder, OtherRule, NoRule}

-- the removal takes the rule at a place
pub record TakesAt (removal : Removal) (rules : List Rule) (place : ℕ) : Type 0 where
  pub rule : Rule
  pub at : slice_get rules place ≡ Some rule
  pub takes : Takes removal rule

-- the rule at a place has a command
pub record IsOf (command : List ℕ) (rules : List Rule) (place : ℕ) : Type 0 where
  pub rule : Rule
  pub at : slice_get rules place ≡ Some rule
  pub same : command ≡ rule.command

-- the rule at a place has the command of a removal, and the keystrokes that it has
pub record IsNamed (removal : Removal) (rules : List Rule) (place : ℕ) : Type 0 where
  pub rule : Rule
  pub at : slice_get rules place ≡ Some rule
  pub same : removal.command ≡ rule.command
  pub keys : fits_keys removal.chord rule.chord ≡ true

-- what is said is so
abbrev pub IsSaid : Removal → List Rule → Taking → Type 0
IsSaid removal rules Rules = (place : ℕ) × TakesAt removal rules place
IsSaid removal rules (ButForOrder place) = IsNamed removal rules place
IsSaid removal rules (OtherRule place) = IsOf removal.command rules place
IsSaid removal rules NoRule = ⊤
