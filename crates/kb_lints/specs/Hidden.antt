-- Rules that can never start, since lower ones take their keystrokes whenever they would.
use Rattle.std.specs.Prelude.{ℕ, List}
use Rattle.kb_resolve.specs.Enablements.{Enabling}
use Rattle.kb_rules.specs.declared.rule.Rule.{Rule}
use Rattle.kb_lints.specs.CutOff.{IsCutOff}
use Rattle.kb_lints.specs.Extended.{IsExtended}
use Rattle.kb_lints.specs.Shadow.{IsShadowed}
use Rattle.kb_lints.specs.declared.hidden.Hidden.{Hidden}
use Rattle.kb_lints.specs.declared.hidden.Hiding.{Hiding}
use Rattle.kb_lints.specs.declared.hidden.Hiding.TheVariants.{SameKeys, FirstKeys, MoreKeys}

-- the rule at the second position hides that at the first one
abbrev pub Hides : Hiding → Enabling → List Rule → ℕ → ℕ → Type 0
Hides SameKeys enablement rules position by = IsShadowed enablement rules position by
Hides FirstKeys enablement rules position by = IsCutOff enablement rules position by
Hides MoreKeys enablement rules position by = IsExtended enablement rules position by

abbrev pub IsHidden : Hiding → Enabling → List Rule → Hidden → Type 0
IsHidden how enablement rules hidden = Hides how enablement rules hidden.position hidden.by
