-- What binds keys: the default rules, the extensions in load order, enabled or not, and the user's rules.
use Rattle.std.specs.Prelude.{◌≡◌, ℕ, Bool, List, [], ◌∷◌, ◌++◌, map, Option, Some, codes, slice_get}
use Rattle.std.specs.Prelude.{if◌then◌else◌}
use Rattle.std.specs.List.{flat_map}
use Rattle.std.specs.Option.{option_map_or}
use Rattle.kb_context.specs.Scopes.{ScopesData, context}
use Rattle.kb_files.specs.Enabled.{switched_at}
use Rattle.kb_files.specs.declared.extension_file.Extension.{Extension}
use Rattle.kb_keys.specs.declared.keystroke.Keystroke.{Keystroke}
use Rattle.kb_manifest.specs.declared.command_table.Named.{Named}
use Rattle.kb_resolve.specs.ChordState.{step, pressed_after}
use Rattle.kb_resolve.specs.Enablements.{enablement_of}
use Rattle.kb_resolve.specs.Pressed.{Step}
use Rattle.kb_resolve.specs.Resolved.{Resolution, found_in}
use Rattle.kb_resolve.specs.Resolver.{resolved}
use Rattle.kb_resolve.specs.declared.enablements.Contribution.{Contribution}
use Rattle.kb_resolve.specs.declared.found.Found.{Found}
use Rattle.kb_rules.specs.RuleList.{Listed}
use Rattle.kb_rules.specs.RuleSet.{rules_in_force}
use Rattle.kb_base.specs.declared.note.Origin.{Origin}
use Rattle.kb_base.specs.declared.note.Origin.TheVariants as origin
use Rattle.kb_rules.specs.declared.rule.Rule.{Rule}
use Rattle.kb_when.specs.Marks.{MarkedClause}

pub record Sources : Type 0 where
  pub defaults : Listed
  pub extensions : List Extension
  pub user : Listed

-- the rules in force, from the top down
abbrev pub rules_of : Sources → List Rule
rules_of s =
    rules_in_force s.defaults (map (λ e. e.rules) s.extensions) (map (λ e. e.enabled) s.extensions) s.user

-- what an extension contributes of its commands, if it is enabled
abbrev pub contribution_of : Named → Contribution
contribution_of named = record { command = named.name; enablement = named.command.enablement }

abbrev pub contributions_of : Extension → List Contribution
contributions_of e = if e.enabled then map contribution_of e.manifest.commands else []

-- the enablement of a command: that of its first contribution by an enabled extension, if it has one
abbrev pub enablement : Sources → List ℕ → Option MarkedClause
enablement s = enablement_of (flat_map contributions_of s.extensions)

-- the same with other rules of the user
abbrev pub with_user_rules : Listed → Sources → Sources
with_user_rules user s = record s { user = user }

-- the same with the extension at a place enabled, or not
abbrev pub with_enabled : ℕ → Bool → Sources → Sources
with_enabled place enabled s = record s { extensions = switched_at place enabled s.extensions }

-- how a file is named in messages: an extension's by the identifier, as its manifest spells it
abbrev pub source_of : Sources → Origin → List ℕ
source_of s origin.Defaults = codes "defaults"
source_of s (origin.Extension number) = option_map_or (λ e. e.manifest.id) (slice_get s.extensions number) []
source_of s origin.User = codes "user"

-- what a press does behind these keystrokes, over what the focus sees at that moment
abbrev pub pressed : List Keystroke → Keystroke → ScopesData → Sources → Step
pressed before key scopes s = step before key (context scopes) (enablement s) (rules_of s)

-- the keystrokes that are pressed after it
abbrev pub still_pressed : List Keystroke → Keystroke → ScopesData → Sources → List Keystroke
still_pressed before key scopes s = pressed_after before key (context scopes) (enablement s) (rules_of s)

-- what the search of such a press finds
abbrev pub found_behind : List Keystroke → Keystroke → ScopesData → Sources → Resolution
found_behind before key scopes s = resolved (before ++ key ∷ []) (context scopes) (enablement s) (rules_of s)

-- a position among the rules in force, or that there is none, is of what a search finds
abbrev pub IsPlaceOf : Sources → Found → Resolution → Type 0
IsPlaceOf s place resolution = found_in (rules_of s) place ≡ Some resolution
