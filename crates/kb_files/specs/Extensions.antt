-- The extensions that the files of a load hold, and the first fault of these files in load order. No fault
-- depends on the marks of patterns.
use Rattle.std.specs.Prelude.{⊤, ◌≡◌, ℕ, ◌+◌, nat_lt, List, [], ◌∷◌, length, map}
use Rattle.std.specs.Prelude.{Option, Some, None, option_map, Result, Ok, Err, if◌then◌else◌}
use Rattle.kb_base.specs.Reading.{◌>>=◌}
use Rattle.kb_base.specs.Refusal.{refused_for}
use Rattle.kb_base.specs.declared.fault.FaultKind.TheVariants.{TooLarge}
use Rattle.kb_base.specs.declared.note.EntryPattern.{EntryPattern}
use Rattle.kb_base.specs.declared.refusal.Refusal.{Refusal}
use Rattle.kb_code.specs.Handler.{HandlerData}
use Rattle.kb_keys.specs.declared.platform.Platform.{Platform}
use Rattle.kb_manifest.specs.Manifest.{Outline}
use Rattle.kb_files.specs.Extension.{outline_in, unread_in, extension_by, IsRightlyMarked}
use Rattle.kb_files.specs.Fault.{refused_file, refused_by}
use Rattle.kb_files.specs.HandlerFile.{handlers_in}
use Rattle.kb_files.specs.Identifiers.{Names, identifier_fault}
use Rattle.kb_files.specs.declared.extension_file.Extension.{Extension}
use Rattle.kb_files.specs.declared.extensions.ReadExtensions.{ReadExtensions}
use Rattle.kb_files.specs.declared.fault.LoadFault.{LoadFault}
use Rattle.kb_files.specs.declared.fault.LoadFile.TheVariants as file
use Rattle.kb_files.specs.declared.identifiers.IdentifierFault.{IdentifierFault}
use Rattle.kb_files.specs.declared.inputs.ExtensionFiles.{ExtensionFiles}

-- the files of an extension, as bytes: its manifest (`package.json`), and its `handlers.json` if it has one
pub record ExtensionBytes : Type 0 where
  pub manifest : List ℕ
  pub handlers : Option (List ℕ)

abbrev pub extension_bytes : ExtensionFiles → ExtensionBytes
extension_bytes files = record {
  manifest = files.package.now;
  handlers = option_map (λ handlers. handlers.now) files.handlers;
}

abbrev pub manifests : List ExtensionBytes → List (List ℕ)
manifests extensions = map (λ e. e.manifest) extensions

-- the handlers of a `handlers.json`, none without such a file
abbrev pub handlers_in_file : Option (List ℕ) → Result (List HandlerData) Refusal
handlers_in_file None = Ok []
handlers_in_file (Some bytes) = handlers_in bytes

-- what the files of an extension hold: the outline of its manifest, and its handlers
pub record HeldExtension : Type 0 where
  pub outline : Outline
  pub handlers : List HandlerData

-- a fault of the manifest comes before a fault of the handlers
abbrev pub extension_held : ℕ → ExtensionBytes → Result HeldExtension LoadFault
extension_held number bytes =
    refused_by (file.Package number) (outline_in bytes.manifest)
    >>= λ outline. refused_by (file.Handlers number) (handlers_in_file bytes.handlers)
    >>= λ handlers. Ok (record { outline = outline; handlers = handlers })

-- what the files of extensions hold, numbered from a number; a fault of one comes before those of the next
abbrev pub extensions_from : ℕ → List ExtensionBytes → Result (List HeldExtension) LoadFault
extensions_from number [] = Ok []
extensions_from number (bytes ∷ rest) =
    extension_held number bytes
    >>= λ held. extensions_from (number + 1) rest
    >>= λ more. Ok (held ∷ more)

abbrev pub outlines_of : List HeldExtension → List Outline
outlines_of held = map (λ e. e.outline) held

abbrev pub handlers_of : List HeldExtension → List (List HandlerData)
handlers_of held = map (λ e. e.handlers) held

abbrev pub names_in : Outline → Names
names_in outline = record { id = outline.id; dependencies = outline.dependencies }

-- an extension's manifest is refused for its identifier or its dependencies
abbrev pub refused_manifest : IdentifierFault → LoadFault
refused_manifest fault = refused_file (file.Package fault.place) (refused_for fault.kind)

abbrev pub names_fault : List Names → Option LoadFault
names_fault es = option_map refused_manifest (identifier_fault es)

abbrev pub unless_fault : {X : Type 0} → Option LoadFault → X → Result X LoadFault
unless_fault None x = Ok x
unless_fault (Some fault) x = Err fault

-- at most 100 extensions, then the faults of each one's files, and then those of identifiers
abbrev pub extensions_held : List ExtensionBytes → Result (List HeldExtension) LoadFault
extensions_held extensions =
    if nat_lt 100 (length extensions) then Err (refused_file file.Extensions (refused_for TooLarge))
    else extensions_from 0 extensions
    >>= λ held. unless_fault (names_fault (map names_in (outlines_of held))) held

-- ---- the extensions, by the patterns that aren't read

-- the extensions of these outlines, numbered from a number
abbrev pub extensions_by : List EntryPattern → Platform → ℕ → List Outline → List Extension
extensions_by unread platform number [] = []
extensions_by unread platform number (outline ∷ outlines) =
    extension_by unread number platform outline ∷ extensions_by unread platform (number + 1) outlines

-- an extension is that of an outline, for its own patterns
abbrev pub IsExtension : ℕ → Platform → Outline → Extension → Type 0
IsExtension number platform outline e = e ≡ extension_by (unread_in e) number platform outline

-- the same of each of many, numbered from a number
abbrev pub AreExtensions : ℕ → Platform → List Outline → List Extension → Type 0
AreExtensions number platform [] [] = ⊤
AreExtensions number platform [] (e ∷ es) = ⊥
AreExtensions number platform (outline ∷ outlines) [] = ⊥
AreExtensions number platform (outline ∷ outlines) (e ∷ es) =
    IsExtension number platform outline e × AreExtensions (number + 1) platform outlines es

-- the same with the handlers of an extension, and of many
pub record IsHeld (number : ℕ) (platform : Platform) (held : HeldExtension) (e : Extension)
    (handlers : List HandlerData) : Type 0 where
  pub extension_is : IsExtension number platform held.outline e
  pub handlers_are : handlers ≡ held.handlers

pub record AreHeld (platform : Platform) (held : List HeldExtension) (all : ReadExtensions) : Type 0 where
  pub extensions_are : AreExtensions 0 platform (outlines_of held) all.extensions
  pub handlers_are : all.handlers ≡ handlers_of held

-- the patterns of manifests are marked as unread exactly where `regex` rejects them
abbrev pub AllRightlyMarked : List (List ℕ) → List Extension → Type 0
AllRightlyMarked [] es = ⊤
AllRightlyMarked (bytes ∷ rest) [] = ⊤
AllRightlyMarked (bytes ∷ rest) (e ∷ es) = IsRightlyMarked bytes e × AllRightlyMarked rest es

abbrev pub names_of : Extension → Names
names_of e = record { id = e.manifest.id; dependencies = e.manifest.dependencies }
