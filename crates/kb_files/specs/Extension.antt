-- The extension that the bytes of a `package.json` hold, for the patterns that aren't read, or the refusal
-- for the first fault of the file, which doesn't depend on patterns.
use Rattle.std.specs.Prelude.{ℕ, true, List, ◌++◌, Some, Result}
use Rattle.kb_base.specs.declared.note.Origin.{Origin}
use Rattle.kb_base.specs.declared.note.Origin.TheVariants as origin
use Rattle.kb_base.specs.declared.note.EntryPattern.{EntryPattern}
use Rattle.kb_base.specs.declared.refusal.Refusal.{Refusal}
use Rattle.kb_base.specs.Reading.{◌>>=◌, seen}
use Rattle.kb_base.specs.Refusal.{refusing}
use Rattle.kb_keys.specs.declared.platform.Platform.{Platform}
use Rattle.kb_jsonc.specs.FileFault.{kind_of}
use Rattle.kb_manifest.specs.Manifest.{Outline, Stated, Told, contributed, outline_of, told_in, IsRightBy}
use Rattle.kb_rules.specs.RuleList.{listed, AreRightlyMarked}
use Rattle.kb_files.specs.declared.extension_file.Extension.{Extension}
use Rattle.kb_files.specs.Value.{data_of}

-- the outline of a manifest, before its entries are read
abbrev pub outline_in : List ℕ → Result Outline Refusal
outline_in bytes = data_of bytes >>= (λ d. refusing kind_of (outline_of d))

-- the package, for the patterns of its entries that aren't read
abbrev pub package_in : Origin → Told → List ℕ → Result Stated Refusal
package_in origin told bytes = seen (contributed origin told) (outline_in bytes)

-- the unread patterns of an extension: of its commands, its rules and its items of the palette
abbrev pub unread_in : Extension → List EntryPattern
unread_in e = e.manifest.command_notes.unread ++ (e.rules.unread ++ e.manifest.palette_notes.unread)

-- the extension of a number with this package, enabled; its keys are those of a platform
abbrev pub extension_of : List EntryPattern → ℕ → Platform → Stated → Extension
extension_of unread number platform stated = record {
  number = number;
  enabled = true;
  manifest = stated.manifest;
  rules = listed unread (origin.Extension number) (Some platform) stated.keybindings;
}

-- the extension of an outline, where these patterns aren't read
abbrev pub extension_by : List EntryPattern → ℕ → Platform → Outline → Extension
extension_by unread number platform o =
    extension_of unread number platform
    (contributed (origin.Extension number) (told_in (origin.Extension number) unread) o)

unfoldable pub extension_in : List EntryPattern → ℕ → Platform → List ℕ → Result Extension Refusal
extension_in unread number platform bytes = seen (extension_by unread number platform) (outline_in bytes)

-- all patterns of an extension are listed as unread exactly where `regex` rejects them
abbrev pub IsRightlyMarked : List ℕ → Extension → Type 0
IsRightlyMarked bytes e =
    AreRightlyMarked e.rules
    × IsRightBy (told_in (origin.Extension e.number) (unread_in e)) (outline_in bytes)
