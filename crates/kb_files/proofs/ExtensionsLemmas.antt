-- The extensions that are read of the files of a load, by the marks that were found, are those that the files
-- hold.
use Rattle.std.proofs.Common.{◌≡◌, ◌≤◌, ◌<◌, ℕ, ◌+◌, List, [], ◌∷◌, ◌++◌, map, length, take, drop, refl, sym, ap}
use Rattle.std.proofs.Common.{◌∙◌, subst, append-nil, nat_lt, Some, None, arith, true, false, get_or, length-append}
use Rattle.std.proofs.Common.{take-append-drop}
use Rattle.std.proofs.lemmas.Bool.Decides.{nat_tests}
use Rattle.std.proofs.lemmas.List.{length-map, map-append, take_more, drop_more}
use Rattle.std.specs.List.{flat_map}
use Rattle.std.specs.Prelude.{Result, Ok, Err, Option, Bool, IfOk, MatchResult, if◌then◌else◌}
use Rattle.kb_base.specs.declared.note.Origin.{Origin}
use Rattle.kb_base.specs.declared.note.Origin.TheVariants as origin
use Rattle.kb_base.specs.declared.note.Part.{Part}
use Rattle.kb_base.specs.declared.note.EntryPattern.{EntryPattern}
use Rattle.kb_code.specs.Handler.{HandlerData}
use Rattle.kb_base.specs.Failure.{Fails, Gives}
use Rattle.kb_base.specs.Reading.{◌>>=◌}
use Rattle.kb_base.specs.Refusal.{refused_for}
use Rattle.kb_base.specs.declared.failure.Failure.{Failure}
use Rattle.kb_base.specs.declared.failure.Failure.TheVariants.{NoMemory, Fault}
use Rattle.kb_base.specs.declared.refusal.Refusal.{Refusal}
use Rattle.kb_files.specs.Extension.{unread_in, outline_in, extension_by, extension_in, IsRightlyMarked}
use Rattle.kb_files.specs.Extensions.{ExtensionBytes, HeldExtension}
use Rattle.kb_files.specs.Extensions.{extension_bytes, manifests, extension_held, extensions_from}
use Rattle.kb_files.specs.Extensions.{extensions_held, outlines_of, names_of, names_in, names_fault, unless_fault}
use Rattle.kb_files.specs.Extensions.{extensions_by, IsExtension, AreExtensions, IsHeld}
use Rattle.kb_files.specs.Extensions.{AreHeld, AllRightlyMarked}
use Rattle.kb_files.specs.Fault.{refused_by, refused_file, of_file}
use Rattle.kb_files.specs.Marked.{GivesByMarks, GivesOf}
use Rattle.kb_files.specs.declared.extension_file.Extension.{Extension}
use Rattle.kb_files.specs.declared.extensions.ReadExtensions.{ReadExtensions}
use Rattle.kb_files.specs.declared.fault.LoadFault.{LoadFault}
use Rattle.kb_files.specs.declared.fault.LoadFile.{LoadFile}
use Rattle.kb_files.specs.declared.fault.LoadFile.TheVariants as file
use Rattle.kb_files.specs.declared.inputs.ExtensionFiles.{ExtensionFiles}
use Rattle.kb_files.proofs.ExtensionLemmas.{all_from_extension, extension_by-same}
use Rattle.kb_files.proofs.FileLemmas.{made_of, named, given_of_file, right_in_file, both}
use Rattle.kb_keys.specs.declared.platform.Platform.{Platform}
use Rattle.kb_manifest.specs.Manifest.{Outline}
use Rattle.kb_when.proofs.PlacedLemmas.{AllFrom, marks_at-append, marks_at-other_file, apart}
use Rattle.kb_when.specs.Placed.{same_origin, marks_at}

-- ---- the files of one extension

pub file_of_handlers : (file : LoadFile) (held : Result (List HandlerData) Refusal)
    (r : Result (List HandlerData) (Failure Refusal)) → Gives (λ handlers. handlers) r held
    → Gives (λ handlers. handlers) (of_file file r) (refused_by file held)
file_of_handlers = given_of_file

pub extension_of_file : (number : ℕ) (platform : Platform) (bytes : List ℕ)
    (r : Result Extension (Failure Refusal))
    → GivesByMarks unread_in (λ unread. extension_in unread number platform bytes) r
    → GivesOf (IsExtension number platform) (of_file (file.Package number) r)
    (refused_by (file.Package number) (outline_in bytes))
unfolding extension_in
extension_of_file number platform bytes r h =
    named (IsExtension number platform) (file.Package number) (outline_in bytes) r
    (made_of unread_in [] (λ unread. extension_by unread number platform) (outline_in bytes) r h)

pub right_extension : (file : LoadFile) (bytes : List ℕ) (r : Result Extension (Failure Refusal))
    → IfOk r (IsRightlyMarked bytes) → IfOk (of_file file r) (IsRightlyMarked bytes)
right_extension file bytes = right_in_file (IsRightlyMarked bytes) file

pub ruleset file_of_extension = (extension_of_file, right_extension)

abbrev held_extension : Outline → List HandlerData → HeldExtension
held_extension outline handlers = record { outline = outline; handlers = handlers }

-- the two files of an extension
pub extension_with_handlers : (number : ℕ) (platform : Platform) (e : Extension) (handlers : List HandlerData)
    (outline : Result Outline LoadFault) (held : Result (List HandlerData) LoadFault)
    → MatchResult outline (λ o. IsExtension number platform o e) (λ fault. ⊥) → held ≡ Ok handlers
    → MatchResult (both outline held held_extension) (λ one. IsHeld number platform one e handlers)
    (λ fault. ⊥)
extension_with_handlers number platform e handlers (Ok o) (Ok hs) h k =
    let same : hs ≡ handlers = cc in
    record { extension_is = h; handlers_are = sym same }
extension_with_handlers number platform e handlers (Ok o) (Err f) h k = absurd (cc)
extension_with_handlers number platform e handlers (Err f) held h k = absurd h

-- ---- the extensions in turn

bind_ok : {F X : Type 0} (r : Result X F) → (r >>= λ x. Ok x) ≡ r
bind_ok (Ok x) = refl
bind_ok (Err f) = refl

abbrev Extensions : Type 0
Extensions = Result (List HeldExtension) LoadFault

abbrev joined : Extensions → Extensions → Extensions
joined first rest = first >>= λ done. rest >>= λ more. Ok (done ++ more)

joined_behind : (r : Result HeldExtension LoadFault) (first rest : Extensions)
    → (r >>= λ one. joined first rest >>= λ held. Ok (one ∷ held))
    ≡ joined (r >>= λ one. first >>= λ held. Ok (one ∷ held)) rest
joined_behind (Ok one) (Ok done) (Ok more) = refl
joined_behind (Ok one) (Ok done) (Err f) = refl
joined_behind (Ok one) (Err f) rest = refl
joined_behind (Err f) first rest = refl

extensions-append : (number place : ℕ) (done more : List ExtensionBytes) → number + length done ≡ place
    → extensions_from number (done ++ more)
    ≡ joined (extensions_from number done) (extensions_from place more)
extensions-append number place [] more e =
    let same : number ≡ place = omega (arith, e) in
    sym (bind_ok (extensions_from number more))
    ∙ ap (λ n. extensions_from n more >>= λ held. Ok held) same
extensions-append number place (bytes ∷ done) more e =
    let rest : number + 1 + length done ≡ place = omega (arith, e) in
    let r = extension_held number bytes in
    ap (λ rest. r >>= λ one. rest >>= λ held. Ok (one ∷ held))
    (extensions-append (number + 1) place done more rest)
    ∙ joined_behind r (extensions_from (number + 1) done) (extensions_from place more)

-- one extension more
abbrev pushed : ReadExtensions → Extension → List HandlerData → ReadExtensions
pushed all e handlers = record {
  extensions = all.extensions ++ e ∷ [];
  handlers = all.handlers ++ handlers ∷ [];
}

-- the extensions of the files so far
pub record Reads (platform : Platform) (all : ReadExtensions) (number : ℕ) (done : List ExtensionBytes)
    : Type 0 where
  pub made : MatchResult (extensions_from 0 done) (λ held. AreHeld platform held all) (λ fault. ⊥)
  pub count : length done ≡ number
  pub size : length all.extensions ≡ number
  pub right : AllRightlyMarked (manifests done) all.extensions

pub reads_none : (platform : Platform) → Reads platform (record { extensions = []; handlers = [] }) 0 []
reads_none platform = record {
  made = record { extensions_are = tt; handlers_are = refl };
  count = refl;
  size = refl;
  right = tt;
}

marked_next : (done : List (List ℕ)) (es : List Extension) (bytes : List ℕ) (e : Extension)
    → length done ≡ length es → AllRightlyMarked done es → IsRightlyMarked bytes e
    → AllRightlyMarked (done ++ bytes ∷ []) (es ++ e ∷ [])
marked_next [] [] bytes e len all right = (right, tt)
marked_next [] (x ∷ es) bytes e len all right = absurd (omega (arith, len))
marked_next (b ∷ done) [] bytes e len all right = absurd (omega (arith, len))
marked_next (b ∷ done) (x ∷ es) bytes e len all right =
    let rest : length done ≡ length es = omega (arith, len) in
    (all.0, marked_next done es bytes e rest all.1 right)

extensions_next : (platform : Platform) (start number : ℕ) (outlines : List Outline) (es : List Extension)
    (outline : Outline) (e : Extension) → start + length es ≡ number
    → AreExtensions start platform outlines es → IsExtension number platform outline e
    → AreExtensions start platform (outlines ++ outline ∷ []) (es ++ e ∷ [])
extensions_next platform start number [] [] outline e count are is =
    let same : number ≡ start = omega (arith, count) in
    (subst (λ (n : ℕ). IsExtension n platform outline e) same is, tt)
extensions_next platform start number [] (x ∷ es) outline e count are is = absurd are
extensions_next platform start number (o ∷ outlines) [] outline e count are is = absurd are
extensions_next platform start number (o ∷ outlines) (x ∷ es) outline e count are is =
    let rest : start + 1 + length es ≡ number = omega (arith, count) in
    (are.0, extensions_next platform (start + 1) number outlines es outline e rest are.1 is)

made_next : (platform : Platform) (all : ReadExtensions) (number : ℕ) (e : Extension)
    (handlers : List HandlerData) (first : Extensions) (next : Result HeldExtension LoadFault)
    → length all.extensions ≡ number
    → MatchResult first (λ held. AreHeld platform held all) (λ fault. ⊥)
    → MatchResult next (λ held. IsHeld number platform held e handlers) (λ fault. ⊥)
    → MatchResult (joined first (next >>= λ one. Ok (one ∷ [])))
    (λ held. AreHeld platform held (pushed all e handlers)) (λ fault. ⊥)
made_next platform all number e handlers (Err f) next size h k = absurd h
made_next platform all number e handlers (Ok held) (Err f) size h k = absurd k
made_next platform all number e handlers (Ok held) (Ok one) size h k = record {
  extensions_are = subst (λ outlines. AreExtensions 0 platform outlines (all.extensions ++ e ∷ []))
      (sym (map-append (λ (x : HeldExtension). x.outline) held (one ∷ [])))
      (extensions_next platform 0 number (outlines_of held) all.extensions one.outline e (omega (arith, size))
      h.extensions_are k.extension_is);
  handlers_are = (λ i. h.handlers_are i ++ k.handlers_are i ∷ [])
      ∙ sym (map-append (λ (x : HeldExtension). x.handlers) held (one ∷ []));
}

-- the files of one more
pub reads_next : (platform : Platform) (all : ReadExtensions) (number : ℕ)
    (done : List ExtensionBytes) (bytes : ExtensionBytes) (e : Extension) (handlers : List HandlerData)
    → Reads platform all number done
    → MatchResult (extension_held number bytes) (λ held. IsHeld number platform held e handlers)
    (λ fault. ⊥) → IsRightlyMarked bytes.manifest e
    → Reads platform (pushed all e handlers) (number + 1) (done ++ bytes ∷ [])
reads_next platform all number done bytes e handlers r h right =
    let place : 0 + length done ≡ number = omega (arith, r.count) in
    let whole : extensions_from 0 (done ++ bytes ∷ [])
    ≡ joined (extensions_from 0 done) (extension_held number bytes >>= λ one. Ok (one ∷ [])) =
    extensions-append 0 number done (bytes ∷ []) place in
    let len : length (manifests done) ≡ length all.extensions =
    length-map done (λ (b : ExtensionBytes). b.manifest) ∙ r.count ∙ sym r.size in
    record {
      made = rw whole
          (made_next platform all number e handlers (extensions_from 0 done)
          (extension_held number bytes) r.size r.made h);
      count = length-append done (bytes ∷ []) ∙ ap (λ n. n + 1) r.count;
      size = length-append all.extensions (e ∷ []) ∙ ap (λ n. n + 1) r.size;
      right = rw (map-append (λ (b : ExtensionBytes). b.manifest) done (bytes ∷ []))
          (marked_next (manifests done) all.extensions bytes.manifest e len r.right right);
    }

fails_joined : (P : List HeldExtension → Type 0) (first rest : Extensions) (f : LoadFault)
    → MatchResult first P (λ fault. ⊥) → rest ≡ Err f → joined first rest ≡ Err f
fails_joined P (Ok done) rest f h e = rw e refl
fails_joined P (Err g) rest f h e = absurd h

-- the files of an extension that are refused are the first fault
pub reads_fail : (platform : Platform) (all : ReadExtensions) (number : ℕ)
    (done rest : List ExtensionBytes) (bytes : ExtensionBytes) (failure : Failure LoadFault)
    → Reads platform all number done → Fails failure (extension_held number bytes)
    → Fails failure (extensions_from 0 (done ++ bytes ∷ rest))
reads_fail platform all number done rest bytes NoMemory r h = tt
reads_fail platform all number done rest bytes (Fault f) r h =
    let place : 0 + length done ≡ number = omega (arith, r.count) in
    let here : extensions_from number (bytes ∷ rest) ≡ Err f = rw h refl in
    extensions-append 0 number done (bytes ∷ rest) place
    ∙ fails_joined (λ held. AreHeld platform held all) (extensions_from 0 done)
    (extensions_from number (bytes ∷ rest)) f r.made here

-- ---- the files of a slice, and identifiers

abbrev bytes_of : List ExtensionFiles → List ExtensionBytes
bytes_of = map extension_bytes

one_more : (fs : List ExtensionFiles) (i : ℕ) (d : ExtensionFiles) → i < length fs
    → bytes_of (take (i + 1) fs) ≡ bytes_of (take i fs) ++ extension_bytes (get_or fs i d) ∷ []
one_more fs i d below =
    ap bytes_of (take_more fs i d below) ∙ map-append extension_bytes (take i fs) (get_or fs i d ∷ [])

all_of : (fs : List ExtensionFiles) (i : ℕ) (d : ExtensionFiles) → i < length fs
    → bytes_of fs
    ≡ bytes_of (take i fs) ++ extension_bytes (get_or fs i d) ∷ bytes_of (drop (i + 1) fs)
all_of fs i d below =
    ap bytes_of (sym (take-append-drop i fs) ∙ ap (λ rest. take i fs ++ rest) (drop_more fs i d below))
    ∙ map-append extension_bytes (take i fs) (get_or fs i d ∷ drop (i + 1) fs)

pub files_next : (platform : Platform) (fs : List ExtensionFiles) (i : ℕ) (d : ExtensionFiles)
    (all : ReadExtensions) (number : ℕ) (e : Extension) (handlers : List HandlerData)
    → i < length fs → Reads platform all number (bytes_of (take i fs))
    → MatchResult (extension_held number (extension_bytes (get_or fs i d)))
    (λ held. IsHeld number platform held e handlers) (λ fault. ⊥)
    → IsRightlyMarked (get_or fs i d).package.now e
    → Reads platform (pushed all e handlers) (number + 1) (bytes_of (take (i + 1) fs))
files_next platform fs i d all number e handlers below r h right =
    rw (one_more fs i d below)
    (reads_next platform all number (bytes_of (take i fs)) (extension_bytes (get_or fs i d)) e handlers
    r h right)

pub files_fail : (platform : Platform) (fs : List ExtensionFiles) (i : ℕ) (d : ExtensionFiles)
    (all : ReadExtensions) (number : ℕ) (failure : Failure LoadFault) → i < length fs
    → Reads platform all number (bytes_of (take i fs))
    → Fails failure (extension_held number (extension_bytes (get_or fs i d)))
    → Fails failure (extensions_from 0 (bytes_of fs))
files_fail platform fs i d all number failure below r h =
    rw (all_of fs i d below)
    (reads_fail platform all number (bytes_of (take i fs)) (bytes_of (drop (i + 1) fs))
    (extension_bytes (get_or fs i d)) failure r h)

-- what is judged of the manifests is what is judged of the extensions
judged : (platform : Platform) (number : ℕ) (outlines : List Outline) (es : List Extension)
    → AreExtensions number platform outlines es → map names_in outlines ≡ map names_of es
judged platform number [] [] are = refl
judged platform number [] (e ∷ es) are = absurd are
judged platform number (o ∷ outlines) [] are = absurd are
judged platform number (o ∷ outlines) (e ∷ es) are =
    λ i. names_of (sym are.0 i) ∷ judged platform (number + 1) outlines es are.1 i

few_enough : (n : ℕ) → n ≤ 100 → nat_lt 100 n ≡ false
few_enough n h = grind (arith, nat_tests)

held_all : (fs : List ExtensionFiles) → length fs ≤ 100
    → extensions_held (bytes_of fs)
    ≡ (extensions_from 0 (bytes_of fs)
    >>= λ held. unless_fault (names_fault (map names_in (outlines_of held))) held)
held_all fs few =
    let count : length (bytes_of fs) ≤ 100 = omega (arith, few, length-map fs extension_bytes) in
    rw (few_enough (length (bytes_of fs)) count) refl

judged_fail : (platform : Platform) (read : Extensions) (all : ReadExtensions) (fault : LoadFault)
    → MatchResult read (λ held. AreHeld platform held all) (λ f. ⊥)
    → names_fault (map names_of all.extensions) ≡ Some fault
    → (read >>= λ held. unless_fault (names_fault (map names_in (outlines_of held))) held) ≡ Err fault
judged_fail platform (Ok held) all fault h e =
    ap (λ found. unless_fault found held)
    (ap names_fault (judged platform 0 (outlines_of held) all.extensions h.extensions_are) ∙ e)
judged_fail platform (Err f) all fault h e = absurd h

pub identifiers_fail : (platform : Platform) (fs : List ExtensionFiles) (all : ReadExtensions)
    (fault : LoadFault) → length fs ≤ 100
    → MatchResult (extensions_from 0 (bytes_of fs)) (λ held. AreHeld platform held all) (λ f. ⊥)
    → names_fault (map names_of all.extensions) ≡ Some fault
    → extensions_held (bytes_of fs) ≡ Err fault
identifiers_fail platform fs all fault few h e =
    held_all fs few ∙ judged_fail platform (extensions_from 0 (bytes_of fs)) all fault h e

judged_pass : (platform : Platform) (read : Extensions) (all : ReadExtensions)
    → MatchResult read (λ held. AreHeld platform held all) (λ f. ⊥)
    → names_fault (map names_of all.extensions) ≡ None
    → MatchResult (read >>= λ held. unless_fault (names_fault (map names_in (outlines_of held))) held)
    (λ held. AreHeld platform held all) (λ f. ⊥)
judged_pass platform (Ok held) all h e =
    let passes : names_fault (map names_in (outlines_of held)) ≡ None =
    ap names_fault (judged platform 0 (outlines_of held) all.extensions h.extensions_are) ∙ e in
    rw passes h
judged_pass platform (Err f) all h e = absurd h

pub identifiers_pass : (platform : Platform) (fs : List ExtensionFiles) (all : ReadExtensions)
    → length fs ≤ 100
    → MatchResult (extensions_from 0 (bytes_of fs)) (λ held. AreHeld platform held all) (λ f. ⊥)
    → names_fault (map names_of all.extensions) ≡ None
    → MatchResult (extensions_held (bytes_of fs)) (λ held. AreHeld platform held all) (λ f. ⊥)
identifiers_pass platform fs all few h e =
    rw (held_all fs few) (judged_pass platform (extensions_from 0 (bytes_of fs)) all h e)

-- ---- the patterns of one extension among those of many

from_own : (platform : Platform) (number : ℕ) (outline : Outline) (e : Extension)
    → IsExtension number platform outline e → AllFrom (origin.Extension number) (unread_in e)
from_own platform number outline e is =
    subst (λ (x : Extension). AllFrom (origin.Extension number) (unread_in x)) (sym is)
    (all_from_extension (unread_in e) number platform outline)

none_later : (platform : Platform) (k number : ℕ) (part : Part) (place : ℕ) (outlines : List Outline)
    (es : List Extension) → k < number → AreExtensions number platform outlines es
    → marks_at (origin.Extension k) part (flat_map unread_in es) place ≡ []
none_later platform k number part place [] [] before are = refl
none_later platform k number part place [] (e ∷ es) before are = absurd are
none_later platform k number part place (o ∷ outlines) [] before are = absurd are
none_later platform k number part place (o ∷ outlines) (e ∷ es) before are =
    let other : k ≡ number → ⊥ = λ same. omega (arith, same, before) in
    let later : k < number + 1 = omega (arith, before) in
    marks_at-append (origin.Extension k) part (unread_in e) (flat_map unread_in es) place
    ∙ (λ i. marks_at-other_file (origin.Extension k) (origin.Extension number) part place (unread_in e)
    (apart k number other) (from_own platform number o e are.0) i
    ++ none_later platform k (number + 1) part place outlines es later are.1 i)

-- where a list has the patterns of all these extensions, they are the extensions for this list
pub for_all : (unread : List EntryPattern) (platform : Platform) (number : ℕ) (outlines : List Outline)
    (es : List Extension) → AreExtensions number platform outlines es
    → ((k : ℕ) → number ≤ k → (part : Part) (place : ℕ) → marks_at (origin.Extension k) part unread place
    ≡ marks_at (origin.Extension k) part (flat_map unread_in es) place)
    → es ≡ extensions_by unread platform number outlines
for_all unread platform number [] [] are agree = refl
for_all unread platform number [] (e ∷ es) are agree = absurd are
for_all unread platform number (o ∷ outlines) [] are agree = absurd are
for_all unread platform number (o ∷ outlines) (e ∷ es) are agree =
    let here : (part : Part) (place : ℕ) → marks_at (origin.Extension number) part (unread_in e) place
    ≡ marks_at (origin.Extension number) part unread place = λ part place.
    sym (agree number (omega arith) part place
    ∙ marks_at-append (origin.Extension number) part (unread_in e) (flat_map unread_in es) place
    ∙ ap (λ l. marks_at (origin.Extension number) part (unread_in e) place ++ l)
    (none_later platform number (number + 1) part place outlines es (omega arith) are.1)
    ∙ append-nil (marks_at (origin.Extension number) part (unread_in e) place)) in
    let first = are.0 ∙ extension_by-same (unread_in e) unread number platform o here in
    let others = for_all unread platform (number + 1) outlines es are.1 (λ k above part place.
    let le : number ≤ k = omega (arith, above) in
    let other : k ≡ number → ⊥ = λ same. omega (arith, same, above) in
    agree k le part place
    ∙ marks_at-append (origin.Extension k) part (unread_in e) (flat_map unread_in es) place
    ∙ ap (λ l. l ++ marks_at (origin.Extension k) part (flat_map unread_in es) place)
    (marks_at-other_file (origin.Extension k) (origin.Extension number) part place (unread_in e)
    (apart k number other) (from_own platform number o e are.0))) in
    λ i. first i ∷ others i

-- no pattern of these extensions is of a file that is no extension
pub none_of_files : (o : Origin) (platform : Platform) (number : ℕ) (part : Part) (place : ℕ)
    (outlines : List Outline) (es : List Extension)
    → ((k : ℕ) → same_origin o (origin.Extension k) ≡ false) → AreExtensions number platform outlines es
    → marks_at o part (flat_map unread_in es) place ≡ []
none_of_files o platform number part place [] [] off are = refl
none_of_files o platform number part place [] (e ∷ es) off are = absurd are
none_of_files o platform number part place (outline ∷ outlines) [] off are = absurd are
none_of_files o platform number part place (outline ∷ outlines) (e ∷ es) off are =
    marks_at-append o part (unread_in e) (flat_map unread_in es) place
    ∙ (λ i. marks_at-other_file o (origin.Extension number) part place (unread_in e) (off number)
    (from_own platform number outline e are.0) i
    ++ none_of_files o platform (number + 1) part place outlines es off are.1 i)
