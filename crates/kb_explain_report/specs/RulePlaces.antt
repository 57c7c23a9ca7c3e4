-- Where the elements of files of rules stand.
use Rattle.std.specs.Prelude.{◌≡◌, ◌⊎◌, ◌++◌, ℕ, suc, List, [], ◌∷◌, Bool, false, if◌then◌else◌}
use Rattle.std.specs.Prelude.{Option, None, Some, codes, is_some, length, map, min}
use Rattle.std.specs.Prelude.{option_and_then, option_map, slice_get, string_bytes, unwrap_or, Vec}
use Rattle.std.specs.declared.alloc.Global.{Global}
use Rattle.serde_json.specs.Data.{Data}
use Rattle.serde_json.specs.Find.{as_object, get}
use Rattle.serde_json.specs.View.{view}
use Rattle.kb_base.specs.declared.note.Origin.{Origin}
use Rattle.kb_base.specs.declared.note.Origin.TheVariants as origin
use Rattle.kb_jsonc.specs.Parts.{elements_of}
use Rattle.kb_manifest.specs.Points.{entries_of}
use Rattle.kb_places.specs.Open.{Opens}
use Rattle.kb_places.specs.Place.{StandsAt, StepData, member, item, step_data}
use Rattle.kb_places.specs.Position.{position_of}
use Rattle.kb_places.specs.declared.path.Step as path
use Rattle.kb_places.specs.declared.position.Position.{Position}
use Rattle.kb_places.specs.declared.source.Source.{Source}
use Rattle.kb_places.specs.declared.span.Span.{Span}
use Rattle.kb_source_files.specs.declared.source_files.ExtensionSource.{ExtensionSource}
use Rattle.kb_source_files.specs.declared.source_files.SourceFile.{SourceFile}
use Rattle.kb_source_files.specs.declared.source_files.SourceFiles.{SourceFiles}
use Rattle.kb_explain_report.specs.declared.rule_places.Home.{Home}
use Rattle.kb_explain_report.specs.declared.rule_places.Home.TheVariants.{File, Manifest}
use Rattle.kb_explain_report.specs.declared.rule_places.RulePlaces.{RulePlaces}

-- the members that lead to the list of rules
abbrev pub list_in : Home → List StepData
list_in File = []
list_in Manifest = member (codes "contributes") ∷ member (codes "keybindings") ∷ []

-- the value of the member of a manifest that has its rules
abbrev pub keybindings_of : Data → Option Data
keybindings_of d = option_and_then (get (codes "keybindings")) (get (codes "contributes") d)

-- the rules of a file as the load finds them
abbrev pub rules_held : Home → Data → Option (List Data)
rules_held File d = elements_of d
rules_held Manifest d = option_and_then entries_of (keybindings_of d)

-- one object stands in place of the list of rules
abbrev pub is_alone : Home → Data → Bool
is_alone File d = false
is_alone Manifest d = is_some (option_and_then as_object (keybindings_of d))

-- the path to the rule at a place: the item of the list, or the object in place of the list
abbrev pub path_to : Home → Data → ℕ → List StepData
path_to home d place = if is_alone home d then list_in home else list_in home ++ item place ∷ []

-- what is read from a part of a file is the rule at a place, and the part is that rule's own
pub record IsRuleAt (source : Source) (home : Home) (place : ℕ) (span : Span) : Type 0 where
  pub steps : List path.Step
  pub leads : map step_data steps ≡ path_to home (view source.value) place
  pub stands : StandsAt (string_bytes source.plain) (view source.value) steps span
  pub is_rule : option_and_then (λ rules. slice_get rules place) (rules_held home (view source.value))
      ≡ Some stands.held

-- the rule at a place begins at a position
pub record BeginsAt (source : Source) (home : Home) (place : ℕ) (position : Position) : Type 0 where
  pub span : Span
  pub rule : IsRuleAt source home place span
  pub position_is : position ≡ position_of source.bytes.now (min span.begin (length source.bytes.now))

-- the same, if the position is known
abbrev pub IsPlaced : Source → Home → ℕ → Option Position → Type 0
IsPlaced source home place None = Unit {0}
IsPlaced source home place (Some position) = BeginsAt source home place position

-- the positions of the rules from a place on
abbrev pub ArePlacedFrom : Source → Home → ℕ → List (Option Position) → Type 0
ArePlacedFrom source home place [] = Unit {0}
ArePlacedFrom source home place (position ∷ rest) =
    IsPlaced source home place position × ArePlacedFrom source home (suc place) rest

-- the positions of the rules of a file, none of one that isn't read
abbrev pub ArePlaced : List ℕ → Home → List (Option Position) → Type 0
ArePlaced file home positions = (positions ≡ [])
    ⊎ ((source : Source) × Opens file source × ArePlacedFrom source home 0 positions)

abbrev pub ArePlacedIn : Option SourceFile → List (Option Position) → Type 0
ArePlacedIn None positions = positions ≡ []
ArePlacedIn (Some file) positions = ArePlaced file.bytes.now File positions

-- the same of the manifests of extensions
abbrev pub ArePlacedInAll : List ExtensionSource → List (Vec (Option Position) Global) → Type 0
ArePlacedInAll [] [] = Unit {0}
ArePlacedInAll [] (one ∷ rest) = ⊥
ArePlacedInAll (source ∷ sources) [] = ⊥
ArePlacedInAll (source ∷ sources) (one ∷ rest) =
    ArePlaced source.package.bytes.now Manifest one.items × ArePlacedInAll sources rest

-- the positions of the rules of all files
pub record ArePlaces (files : SourceFiles) (places : RulePlaces) : Type 0 where
  pub defaults : ArePlacedIn files.defaults places.defaults.items
  pub extensions : ArePlacedInAll files.extensions.now places.extensions.items
  pub user : ArePlacedIn files.user places.user.items

-- the positions of the rules of a file
abbrev pub positions_in : RulePlaces → Origin → List (Option Position)
positions_in places origin.Defaults = places.defaults.items
positions_in places (origin.Extension number) =
    unwrap_or (option_map (λ one. one.items) (slice_get places.extensions.items number)) []
positions_in places origin.User = places.user.items

-- the position of the rule at a place of a file, if it is known
abbrev pub position_in : RulePlaces → Origin → ℕ → Option Position
position_in places origin place =
    option_and_then (λ position. position) (slice_get (positions_in places origin) place)
