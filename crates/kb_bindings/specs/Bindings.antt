-- The search among what binds keys.
use Rattle.std.specs.Prelude.{◌≡◌, ℕ, List, Option}
use Rattle.kb_rules.specs.RuleList.{Listed}
use Rattle.kb_rules.specs.declared.rule.Rule.{Rule}
use Rattle.kb_bindings.specs.Sources.{Sources, rules_of, enablement, with_user_rules}
use Rattle.kb_bindings.specs.Warning.{warnings_of}
use Rattle.kb_bindings.specs.declared.bindings.Renewed.{Renewed}
use Rattle.kb_base.specs.declared.note.Warning.{Warning}
use Rattle.kb_palette.specs.Command.{CommandData}
use Rattle.kb_palette_commands.specs.Palette.{palette_commands}
use Rattle.kb_when.specs.Marks.{MarkedClause}

-- the searched rules, the enablements, the palette's commands and the warnings are derived from what binds
-- keys
pub record IsSearched (sources : Sources) (rules : List Rule) (enabled : List ℕ → Option MarkedClause)
    (palette : List CommandData) (warnings : List Warning) : Type 0 where
  pub rules_are : rules ≡ rules_of sources
  pub enabled_is : enabled ≡ enablement sources
  pub palette_are : palette ≡ palette_commands sources.extensions
  pub warnings_are : warnings ≡ warnings_of sources

-- what other rules of the user make of the search
pub record IsRenewed (sources : Sources) (user : Listed) (renewed : Renewed) : Type 0 where
  pub user_is : renewed.user ≡ user
  pub rules_are : renewed.resolver ≡ rules_of (with_user_rules user sources)
  pub warnings_are : renewed.warnings ≡ warnings_of (with_user_rules user sources)
