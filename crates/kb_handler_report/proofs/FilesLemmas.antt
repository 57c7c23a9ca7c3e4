-- What was read of the files of extensions.
use Rattle.std.proofs.Common.{◌≡◌, ◌<◌, ◌≤◌, ◌+◌, ◌∙◌, ◌++◌, Bool, true, false, List, [], ◌∷◌, ℕ, drop, length, map, get_or, refl, sym, ap, subst, append-nil, append_assoc, arith, length-append}
use Rattle.std.proofs.lemmas.List.{drop_more, drop_all, length-map}
use Rattle.std.specs.Borrow.{Bor}
use Rattle.std.specs.Prelude.{Option, Some, None, Result, Ok, Err, option_map, unwrap_or, if◌then◌else◌}
use Rattle.std.specs.Option.{option_or}
use Rattle.kb_base.specs.declared.fault.FaultKind.TheVariants.{DuplicateExtension, MissingDependency}
use Rattle.kb_base.specs.Reading.{seen}
use Rattle.kb_base.specs.declared.note.EntryPattern.{EntryPattern}
use Rattle.kb_base.specs.declared.refusal.Refusal.{Refusal}
use Rattle.kb_code.specs.Handler.{HandlerData}
use Rattle.kb_disk.proofs.FilesLemmas.{had_if_there, had_read}
use Rattle.kb_disk.specs.CannotRead.{path_in}
use Rattle.kb_disk.specs.Files.{Held, HasManifest}
use Rattle.kb_disk.specs.Files as disk
use Rattle.kb_disk.specs.declared.cannot_read.DirFile.TheVariants.{Package, Handlers}
use Rattle.kb_files.specs.Extension.{extension_by, extension_in, outline_in}
use Rattle.kb_files.specs.Identifiers.{Names, fault_at, first_failing, identifier_fault, lacks, repeats}
use Rattle.kb_files.specs.declared.extension_file.Extension.{Extension}
use Rattle.kb_files.specs.declared.identifiers.IdentifierFault.{IdentifierFault}
use Rattle.kb_keys.specs.declared.platform.Platform.{Platform}
use Rattle.kb_manifest.specs.Manifest.{Outline}
use Rattle.kb_handler_report.specs.Extension.{names_of}
use Rattle.kb_handler_report.specs.Files.{HandlersIn, HasExtension, HasExtensions, HasHandlers, HasNames, NamesIn}
use Rattle.kb_handler_report.specs.declared.extension.ExtensionCode.{ExtensionCode}

-- the names of an extension that a manifest gives are those of its outline
by_outline : (bytes : List ℕ) (unread : List EntryPattern) (number : ℕ) (platform : Platform) (e : Extension)
    (id : List ℕ) (dependencies : List (List ℕ)) (r : Result Outline Refusal) → outline_in bytes ≡ r
    → seen (extension_by unread number platform) r ≡ Ok e → id ≡ e.manifest.id
    → dependencies ≡ e.manifest.dependencies
    → NamesIn bytes id dependencies
by_outline bytes unread number platform e id dependencies (Ok o) at is named needed = record {
  outline = o;
  outline_is = at;
  id_is = named ∙ sym (ap (id_of id) is);
  dependencies_are = needed ∙ sym (ap (needs_of dependencies) is);
}
  where
    id_of : List ℕ → Result Extension Refusal → List ℕ
    id_of other (Ok x) = x.manifest.id
    id_of other (Err f) = other

    needs_of : List (List ℕ) → Result Extension Refusal → List (List ℕ)
    needs_of other (Ok x) = x.manifest.dependencies
    needs_of other (Err f) = other
by_outline bytes unread number platform e id dependencies (Err f) at is named needed =
    absurd (let no : Bool = true in cc)

pub has_names_in : (bytes : List ℕ) (unread : List EntryPattern) (number : ℕ) (platform : Platform) (e : Extension)
    (id : List ℕ) (dependencies : List (List ℕ)) → extension_in unread number platform bytes ≡ Ok e
    → id ≡ e.manifest.id → dependencies ≡ e.manifest.dependencies → NamesIn bytes id dependencies
unfolding extension_in
has_names_in bytes unread number platform e id dependencies is named needed =
    by_outline bytes unread number platform e id dependencies (outline_in bytes) refl is named needed

-- the same of the manifest in a directory
pub has_names : {B : Type 0} (held : List ℕ → Held) (view : B → List ℕ) (dir : Bor (List ℕ)) (got : B)
    (id : List ℕ) (dependencies : List (List ℕ)) → HasManifest held view dir (Ok got)
    → NamesIn (view got) id dependencies → HasNames held dir id dependencies
has_names held view dir got id dependencies has names = record {
  bytes = view got;
  reads = had_read (held (path_in dir.now Package)) view got has;
  names = names;
}

lists : {B : Type 0} (view : B → List ℕ) (got : Option B) (handlers : Option (List HandlerData))
    → HandlersIn view got handlers → HandlersIn {B = List ℕ} (λ bytes. bytes) (option_map view got) handlers
lists view None None has = has
lists view None (Some handlers) has = has
lists view (Some got) None has = has
lists view (Some got) (Some handlers) has = has

-- the handlers in a directory
pub has_handlers : {B : Type 0} (held : List ℕ → Held) (view : B → List ℕ) (dir : Bor (List ℕ)) (got : Option B)
    (handlers : Option (List HandlerData)) → disk.HasHandlers held view dir (Ok got)
    → HandlersIn view got handlers → HasHandlers held dir handlers
has_handlers held view dir got handlers has those = record {
  bytes = option_map view got;
  reads = had_if_there (held (path_in dir.now Handlers)) view got has;
  lists = lists view got handlers those;
}

-- an extension, and then those in the later directories
pub extensions_more : (held : List ℕ → Held) (dirs : List (Bor (List ℕ))) (i : ℕ) (d : Bor (List ℕ))
    (read : List ExtensionCode) (e : ExtensionCode) → i < length dirs → HasExtension held (get_or dirs i d) e
    → ((rest : List ExtensionCode) → HasExtensions held (drop i dirs) rest
    → HasExtensions held dirs (read ++ rest))
    → (rest : List ExtensionCode) → HasExtensions held (drop (i + 1) dirs) rest
    → HasExtensions held dirs (read ++ e ∷ [] ++ rest)
extensions_more held dirs i d read e below has those rest others =
    let all = those (e ∷ rest) (rw (drop_more dirs i d below) (has, others)) in
    subst (HasExtensions held dirs) (sym (append_assoc read (e ∷ []) rest)) all

-- all extensions, if no directory is left
pub extensions_end : (held : List ℕ → Held) (dirs : List (Bor (List ℕ))) (i : ℕ) (read : List ExtensionCode)
    → length dirs ≤ i
    → ((rest : List ExtensionCode) → HasExtensions held (drop i dirs) rest
    → HasExtensions held dirs (read ++ rest))
    → HasExtensions held dirs read
extensions_end held dirs i read past those =
    subst (HasExtensions held dirs) (append-nil read) (those [] (rw (drop_all i dirs past) tt))

-- ---- the place of an identifier's fault

by_test : (fails : List Names → Names → Bool) (earlier : List Names) (e : Names) (es : List Names) (place : ℕ)
    (b : Bool) → (if b then Some (length earlier) else first_failing fails (earlier ++ e ∷ []) es) ≡ Some place
    → (first_failing fails (earlier ++ e ∷ []) es ≡ Some place → place < length (earlier ++ e ∷ []) + length es)
    → place < length earlier + length (e ∷ es)
by_test fails earlier e es place true is later =
    let same : length earlier ≡ place = ap (λ o. unwrap_or o place) is in omega (arith, same)
by_test fails earlier e es place false is later =
    let below : place < length (earlier ++ e ∷ []) + length es = later is in
    let more : length (earlier ++ e ∷ []) ≡ length earlier + length (e ∷ []) = length-append earlier (e ∷ []) in
    omega (arith, below, more)

place_below : (fails : List Names → Names → Bool) (earlier es : List Names) (place : ℕ)
    → first_failing fails earlier es ≡ Some place → place < length earlier + length es
place_below fails earlier [] place is = absurd (let no : Bool = true in cc)
place_below fails earlier (e ∷ es) place is =
    by_test fails earlier e es place (fails earlier e) is (place_below fails (earlier ++ e ∷ []) es place)

-- by which of the two tests fails
by_tests : (es : List Names) (fault : IdentifierFault) (repeating lacking : Option ℕ)
    → first_failing repeats [] es ≡ repeating → first_failing lacks [] es ≡ lacking
    → option_or (option_map (fault_at DuplicateExtension) repeating) (option_map (fault_at MissingDependency) lacking) ≡ Some fault
    → fault.place < length es
by_tests es fault (Some place) lacking one two is =
    let same : place ≡ fault.place = ap (λ o. (unwrap_or o fault).place) is in
    let below : place < 0 + length es = place_below repeats [] es place one in
    omega (arith, same, below)
by_tests es fault None (Some place) one two is =
    let same : place ≡ fault.place = ap (λ o. (unwrap_or o fault).place) is in
    let below : place < 0 + length es = place_below lacks [] es place two in
    omega (arith, same, below)
by_tests es fault None None one two is = absurd (let no : Bool = true in cc)

-- a fault is that of one of the extensions
pub fault_within : (extensions : List ExtensionCode) (fault : IdentifierFault)
    → Some fault ≡ identifier_fault (map names_of extensions) → fault.place < length extensions
fault_within extensions fault is =
    let below = by_tests (map names_of extensions) fault _ _ refl refl (sym is) in
    subst (λ n. fault.place < n) (length-map extensions names_of) below
