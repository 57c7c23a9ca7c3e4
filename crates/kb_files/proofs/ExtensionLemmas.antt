-- An extension is what its package holds, for its own unread patterns.
use Rattle.std.proofs.Common.{◌≡◌, ◌∙◌, refl, sym, ap, subst, ℕ, true, List, [], ◌++◌, Some, Result, Ok, Err, append-nil}
use Rattle.serde_json.specs.Data.{Data}
use Rattle.kb_base.specs.declared.note.Origin.{Origin}
use Rattle.kb_base.specs.declared.note.Origin.TheVariants as origin
use Rattle.kb_base.specs.declared.note.Part.{Part}
use Rattle.kb_base.specs.declared.note.Part.TheVariants.{Commands, Keybindings, Palette}
use Rattle.kb_base.specs.declared.note.EntryPattern.{EntryPattern}
use Rattle.kb_base.specs.Failure.{Fails}
use Rattle.kb_base.specs.Reading.{◌>>=◌, seen}
use Rattle.kb_base.specs.Refusal.{refusing, refusing_failure}
use Rattle.kb_base.specs.declared.fault.FaultKind.{FaultKind}
use Rattle.kb_base.specs.declared.failure.Failure.{Failure}
use Rattle.kb_base.specs.declared.failure.Failure.TheVariants.{NoMemory, Fault}
use Rattle.kb_base.specs.declared.refusal.Refusal.{Refusal}
use Rattle.kb_keys.specs.declared.platform.Platform.{Platform}
use Rattle.kb_jsonc.specs.declared.file_fault.FileFault.{FileFault}
use Rattle.kb_jsonc.specs.FileFault.{kind_of}
use Rattle.kb_manifest.specs.Command as command
use Rattle.kb_manifest.specs.Manifest.{Outline, Stated, Told, contributed, package_of, outline_of, seen_package}
use Rattle.kb_manifest.specs.Manifest.{told_in, told_by, IsRightBy}
use Rattle.kb_manifest.specs.PaletteItem as item
use Rattle.kb_manifest.specs.declared.manifest.Manifest.{Manifest}
use Rattle.kb_manifest.specs.declared.manifest.Package.{Package}
use Rattle.kb_manifest.proofs.JudgedLemmas.{of_notes}
use Rattle.kb_rules.proofs.RuleListLemmas.{of_list, listed-same}
use Rattle.kb_rules.specs.RuleList.{Listed, listed}
use Rattle.kb_when.proofs.PlacedLemmas.{AllOf, AllFrom, marks_at-append, marks_at-other_part, from_of}
use Rattle.kb_when.proofs.PlacedLemmas.{all_from-append}
use Rattle.kb_when.specs.Placed.{marks_at}
use Rattle.kb_base.specs.declared.note.UnreadPattern.{UnreadPattern}
use Rattle.kb_files.specs.declared.extension_file.Extension.{Extension}
use Rattle.kb_files.specs.Extension.{outline_in, package_in, unread_in, extension_of, extension_by, extension_in}
use Rattle.kb_files.specs.Marked.{FailsForAll}
use Rattle.kb_files.specs.Value.{data_of}

-- ---- the unread patterns of three parts

-- each list is of its own part
pub record Parts (o : Origin) (commands rules palette : List EntryPattern) : Type 0 where
  pub commands_are : AllOf o Commands commands
  pub rules_are : AllOf o Keybindings rules
  pub palette_are : AllOf o Palette palette

module _ (o : Origin) (xs ys zs : List EntryPattern) (parts : Parts o xs ys zs) where
  three : (part : Part) (place : ℕ)
      → marks_at o part (xs ++ (ys ++ zs)) place
      ≡ marks_at o part xs place ++ (marks_at o part ys place ++ marks_at o part zs place)
  three part place =
      marks_at-append o part xs (ys ++ zs) place
      ∙ ap (λ l. marks_at o part xs place ++ l) (marks_at-append o part ys zs place)

  commands_own : (place : ℕ) → marks_at o Commands (xs ++ (ys ++ zs)) place ≡ marks_at o Commands xs place
  commands_own place =
      three Commands place
      ∙ (λ i. marks_at o Commands xs place
      ++ (marks_at-other_part o o Commands Keybindings place ys refl parts.rules_are i
      ++ marks_at-other_part o o Commands Palette place zs refl parts.palette_are i))
      ∙ append-nil (marks_at o Commands xs place)

  rules_own : (place : ℕ) → marks_at o Keybindings (xs ++ (ys ++ zs)) place ≡ marks_at o Keybindings ys place
  rules_own place =
      three Keybindings place
      ∙ (λ i. marks_at-other_part o o Keybindings Commands place xs refl parts.commands_are i
      ++ (marks_at o Keybindings ys place
      ++ marks_at-other_part o o Keybindings Palette place zs refl parts.palette_are i))
      ∙ append-nil (marks_at o Keybindings ys place)

  palette_own : (place : ℕ) → marks_at o Palette (xs ++ (ys ++ zs)) place ≡ marks_at o Palette zs place
  palette_own place =
      three Palette place
      ∙ (λ i. marks_at-other_part o o Palette Commands place xs refl parts.commands_are i
      ++ (marks_at-other_part o o Palette Keybindings place ys refl parts.rules_are i
      ++ marks_at o Palette zs place))

-- ---- the unread patterns of an extension

abbrev pub HasParts : Origin → Manifest → Listed → Type 0
HasParts o m rules = Parts o m.command_notes.unread rules.unread m.palette_notes.unread

parts_made : (told : Told) (outline : Outline) (unread : List EntryPattern) (number : ℕ) (platform : Platform)
    → HasParts (origin.Extension number) (contributed (origin.Extension number) told outline).manifest
    (listed unread (origin.Extension number) (Some platform) outline.points.keybindings)
parts_made told outline unread number platform = record {
  commands_are = of_notes command.judged_at told.commands (origin.Extension number) Commands 0
      outline.points.commands;
  rules_are = of_list unread (origin.Extension number) (Some platform) outline.points.keybindings;
  palette_are = of_notes item.judged_at told.palette (origin.Extension number) Palette 0 outline.points.palette;
}

-- an extension's own patterns are all of its file
pub all_from_extension : (unread : List EntryPattern) (number : ℕ) (platform : Platform) (outline : Outline)
    → AllFrom (origin.Extension number) (unread_in (extension_by unread number platform outline))
all_from_extension unread number platform outline =
    let o = origin.Extension number in
    let e = extension_by unread number platform outline in
    let parts = parts_made (told_in o unread) outline unread number platform in
    all_from-append o e.manifest.command_notes.unread (e.rules.unread ++ e.manifest.palette_notes.unread)
    (from_of o Commands e.manifest.command_notes.unread parts.commands_are)
    (all_from-append o e.rules.unread e.manifest.palette_notes.unread
    (from_of o Keybindings e.rules.unread parts.rules_are)
    (from_of o Palette e.manifest.palette_notes.unread parts.palette_are))

-- an extension depends on the patterns of its own entries alone
pub extension_by-same : (one other : List EntryPattern) (number : ℕ) (platform : Platform) (outline : Outline)
    → ((part : Part) (place : ℕ)
    → marks_at (origin.Extension number) part one place ≡ marks_at (origin.Extension number) part other place)
    → extension_by one number platform outline ≡ extension_by other number platform outline
extension_by-same one other number platform outline same =
    let o = origin.Extension number in
    let told : told_in o one ≡ told_in o other = λ i. record {
      commands = λ place. same Commands place i;
      palette = λ place. same Palette place i;
    } in
    λ i. record {
      number = number;
      enabled = true;
      manifest = (contributed o (told i) outline).manifest;
      rules = listed-same o (Some platform) one other outline.points.keybindings (same Keybindings) i;
    }

-- ---- what is read

seen_seen : {F X Y Z : Type 0} (g : Y → Z) (f : X → Y) (r : Result X F)
    → seen (λ x. g (f x)) r ≡ seen g (seen f r)
seen_seen g f (Ok x) = refl
seen_seen g f (Err e) = refl

-- what its own notes tell is what all its patterns tell
told_same : (o : Origin) (m : Manifest) (rules : Listed) → HasParts o m rules
    → told_in o (m.command_notes.unread ++ (rules.unread ++ m.palette_notes.unread)) ≡ told_by o m
told_same o m rules parts = λ i. record {
  commands = λ place. commands_own o m.command_notes.unread rules.unread m.palette_notes.unread parts place i;
  palette = λ place. palette_own o m.command_notes.unread rules.unread m.palette_notes.unread parts place i;
}

-- the extension of a package, for its own patterns
read_made : (number : ℕ) (platform : Platform) (outline : Result Outline Refusal) (stated : Stated)
    (m : Manifest) (e : Extension)
    → seen (contributed (origin.Extension number) (told_by (origin.Extension number) m)) outline ≡ Ok stated
    → stated.manifest ≡ m → e ≡ extension_of e.rules.unread number platform stated
    → HasParts (origin.Extension number) e.manifest e.rules
read_made number platform (Ok o) stated m e read same is =
    let made : contributed (origin.Extension number) (told_by (origin.Extension number) m) o ≡ stated = cc in
    subst (λ (x : Extension). HasParts (origin.Extension number) x.manifest x.rules)
    (ap (extension_of e.rules.unread number platform) made ∙ sym is)
    (parts_made (told_by (origin.Extension number) m) o e.rules.unread number platform)
read_made number platform (Err refusal) stated m e read same is = absurd (cc)

pub parts_read : (number : ℕ) (platform : Platform) (bytes : List ℕ) (p : Package) (e : Extension)
    → package_in (origin.Extension number) (told_by (origin.Extension number) p.manifest) bytes
    ≡ Ok (seen_package p)
    → e ≡ extension_of e.rules.unread number platform (seen_package p)
    → HasParts (origin.Extension number) e.manifest e.rules
parts_read number platform bytes p e read is =
    read_made number platform (outline_in bytes) (seen_package p) p.manifest e read refl is

-- all its patterns tell of its manifest what the notes of the package tell
pub told_read : (number : ℕ) (platform : Platform) (bytes : List ℕ) (p : Package) (e : Extension)
    → package_in (origin.Extension number) (told_by (origin.Extension number) p.manifest) bytes
    ≡ Ok (seen_package p)
    → e ≡ extension_of e.rules.unread number platform (seen_package p)
    → told_in (origin.Extension number) (unread_in e) ≡ told_by (origin.Extension number) p.manifest
told_read number platform bytes p e read is =
    told_same (origin.Extension number) e.manifest e.rules (parts_read number platform bytes p e read is)
    ∙ ap (λ (x : Extension). told_by (origin.Extension number) x.manifest) is

pub extension_read : (number : ℕ) (platform : Platform) (bytes : List ℕ) (p : Package) (e : Extension)
    → package_in (origin.Extension number) (told_by (origin.Extension number) p.manifest) bytes
    ≡ Ok (seen_package p)
    → e ≡ extension_of e.rules.unread number platform (seen_package p)
    → extension_in (unread_in e) number platform bytes ≡ Ok e
unfolding extension_in
extension_read number platform bytes p e read is =
    let o = origin.Extension number in
    let parts = parts_read number platform bytes p e read is in
    let rules : listed (unread_in e) o (Some platform) (seen_package p).keybindings
    ≡ listed e.rules.unread o (Some platform) (seen_package p).keybindings =
    listed-same o (Some platform) (unread_in e) e.rules.unread (seen_package p).keybindings
    (rules_own o e.manifest.command_notes.unread e.rules.unread e.manifest.palette_notes.unread parts) in
    seen_seen (extension_of (unread_in e) number platform) (contributed o (told_in o (unread_in e)))
    (outline_in bytes)
    ∙ ap (λ (told : Told). seen (extension_of (unread_in e) number platform) (package_in o told bytes))
    (told_read number platform bytes p e read is)
    ∙ ap (seen (extension_of (unread_in e) number platform)) read
    ∙ (λ i. Ok (record { number = number; enabled = true; manifest = p.manifest; rules = rules i }))
    ∙ ap Ok (sym is)

pub extension_fails : (number : ℕ) (platform : Platform) (bytes : List ℕ) (failure : Failure Refusal)
    → ((told : Told) → Fails failure (package_in (origin.Extension number) told bytes))
    → FailsForAll failure (λ unread. extension_in unread number platform bytes)
unfolding extension_in
extension_fails number platform bytes NoMemory fails = tt
extension_fails number platform bytes (Fault refusal) fails = λ unread.
    let o = origin.Extension number in
    seen_seen (extension_of unread number platform) (contributed o (told_in o unread)) (outline_in bytes)
    ∙ ap (seen (extension_of unread number platform)) (fails (told_in o unread))

pub right_still : (number : ℕ) (platform : Platform) (bytes : List ℕ) (p : Package) (e : Extension)
    → package_in (origin.Extension number) (told_by (origin.Extension number) p.manifest) bytes
    ≡ Ok (seen_package p)
    → e ≡ extension_of e.rules.unread number platform (seen_package p)
    → IsRightBy (told_by (origin.Extension number) p.manifest) (outline_in bytes)
    → IsRightBy (told_in (origin.Extension e.number) (unread_in e)) (outline_in bytes)
right_still number platform bytes p e read is right =
    subst (λ (n : ℕ). IsRightBy (told_in (origin.Extension n) (unread_in e)) (outline_in bytes))
    (sym (ap (λ (x : Extension). x.number) is))
    (subst (λ (told : Told). IsRightBy told (outline_in bytes))
    (sym (told_read number platform bytes p e read is)) right)

seen_refusing : {F X Y : Type 0} (kind_of : F → FaultKind) (f : X → Y) (r : Result X F)
    → seen f (refusing kind_of r) ≡ refusing kind_of (seen f r)
seen_refusing kind_of f (Ok x) = refl
seen_refusing kind_of f (Err e) = refl

-- what a file's value holds, the file holds
of_value : (o : Origin) (told : Told) (bytes : List ℕ) (d : Data) → data_of bytes ≡ Ok d
    → package_in o told bytes ≡ refusing kind_of (package_of o told d)
of_value o told bytes d held =
    ap (λ (r : Result Data Refusal).
    seen (contributed o told) (r >>= (λ v. refusing kind_of (outline_of v)))) held
    ∙ seen_refusing kind_of (contributed o told) (outline_of d)

pub package_read : (o : Origin) (told : Told) (bytes : List ℕ) (d : Data) (stated : Stated)
    → data_of bytes ≡ Ok d → package_of o told d ≡ Ok stated → package_in o told bytes ≡ Ok stated
package_read o told bytes d stated held read =
    of_value o told bytes d held ∙ ap (refusing kind_of) read

pub package_fails : (o : Origin) (bytes : List ℕ) (d : Data) (failure : Failure FileFault) → data_of bytes ≡ Ok d
    → ((told : Told) → Fails failure (package_of o told d))
    → (told : Told) → Fails (refusing_failure kind_of failure) (package_in o told bytes)
package_fails o bytes d NoMemory held fails told = tt
package_fails o bytes d (Fault fault) held fails told =
    of_value o told bytes d held ∙ ap (refusing kind_of) (fails told)
