-- Dependencies among extensions that are enabled or disabled. Identifiers are compared without ASCII case.
use Rattle.std.specs.Prelude.{ℕ, ◌+◌, Bool, not, ◌&&◌, List, [], ◌∷◌, Option, Some, None, option_map, find}
use Rattle.std.specs.Prelude.{if◌then◌else◌}
use Rattle.std.specs.Option.{option_or}
use Rattle.kb_base.specs.ExtensionId.{same_id}
use Rattle.kb_files.specs.declared.extension_file.Extension.{Extension}
use Rattle.kb_verify.specs.Provider.{is_needed}
use Rattle.kb_extension_code.specs.declared.dependencies.Named.{Named}

-- whether this is the extension of an identifier
abbrev pub has_id : List ℕ → Extension → Bool
has_id id e = same_id id e.manifest.id

-- an extension and its place in load order
pub record Placed : Type 0 where
  pub place : ℕ
  pub extension : Extension

-- the extension with an identifier, where the first one has this place
abbrev pub named_from : ℕ → List ℕ → List Extension → Option Placed
named_from place id [] = None
named_from place id (e ∷ es) =
    if has_id id e then Some (record { place = place; extension = e }) else named_from (place + 1) id es

abbrev pub extension_named : List ℕ → List Extension → Option Placed
extension_named id es = named_from 0 id es

-- whether this is the extension of an identifier, and it isn't enabled
abbrev pub is_disabled : List ℕ → Extension → Bool
is_disabled id e = not e.enabled && same_id e.manifest.id id

-- the identifier of the extension that an identifier names, as its manifest spells it, if it isn't enabled
abbrev pub disabled_of : List ℕ → List Extension → Option (List ℕ)
disabled_of id es = option_map (λ e. e.manifest.id) (find (is_disabled id) es)

-- the first of these dependencies that isn't enabled, as its own manifest spells it
abbrev pub missing_dependency : List (List ℕ) → List Extension → Option (List ℕ)
missing_dependency [] es = None
missing_dependency (id ∷ ids) es = option_or (disabled_of id es) (missing_dependency ids es)

-- whether this extension is enabled and depends on an identifier
abbrev pub needs : List ℕ → Extension → Bool
needs id e = e.enabled && is_needed id e.manifest.dependencies

-- the first enabled extension, in load order, that depends on an identifier
abbrev pub dependent_on : List ℕ → List Extension → Option (List ℕ)
dependent_on id es = option_map (λ e. e.manifest.id) (find (needs id) es)

-- ---- for private functions

abbrev pub placed_by : Named → Placed
placed_by n = record { place = n.place; extension = n.extension.now }
