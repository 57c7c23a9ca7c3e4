-- The rules in force.
use Rattle.std.specs.Prelude.{List, [], ◌∷◌, ◌++◌, Bool, true, false, not, filter}
use Rattle.std.specs.List.{list_any, flat_map}
use Rattle.kb_rules.specs.declared.removal.Removal.{Removal}
use Rattle.kb_rules.specs.declared.rule.Rule.{Rule}
use Rattle.kb_rules.specs.Removal.{takes}
use Rattle.kb_rules.specs.RuleList.{Listed}

-- the lists of the extensions that are enabled, in load order
abbrev pub enabled_of : List Listed → List Bool → List Listed
enabled_of [] flags = []
enabled_of (list ∷ lists) [] = []
enabled_of (list ∷ lists) (true ∷ flags) = list ∷ enabled_of lists flags
enabled_of (list ∷ lists) (false ∷ flags) = enabled_of lists flags

abbrev pub all_rules : List Listed → List Rule
all_rules lists = flat_map (λ list. list.rules) lists

abbrev pub all_removals : List Listed → List Removal
all_removals lists = flat_map (λ list. list.removals) lists

-- the rules that none of the removals takes
abbrev pub left_by : List Removal → List Rule → List Rule
left_by removals rules = filter (λ rule. not (list_any (λ removal. takes removal rule) removals)) rules

-- the rules of these lists, without what some removal takes, the user's removals among them; and then the
-- user's rules, all of them
abbrev pub rules_of : List Listed → Listed → List Rule
rules_of lists user = left_by (all_removals lists ++ user.removals) (all_rules lists) ++ user.rules

-- those of the default list and of the enabled extensions' lists count
abbrev pub rules_in_force : Listed → List Listed → List Bool → Listed → List Rule
rules_in_force defaults extensions enabled user = rules_of (defaults ∷ enabled_of extensions enabled) user
