-- Why the extensions in directories were not read.
use Rattle.std.proofs.Common.{◌≡◌, ◌<◌, ◌+◌, ◌∙◌, Bool, true, List, [], ℕ, drop, length, get_or, refl, sym, ap, subst, inl, inr}
use Rattle.std.proofs.lemmas.List.{drop_more}
use Rattle.std.specs.Borrow.{Bor}
use Rattle.std.specs.Prelude.{Option, Some, None, Result, Ok, Err}
use Rattle.kb_base.specs.Failure.{Gives}
use Rattle.kb_base.specs.Reading.{seen}
use Rattle.kb_base.specs.declared.failure.Failure.{Failure}
use Rattle.kb_base.specs.declared.failure.Failure.TheVariants as failure
use Rattle.kb_base.specs.declared.note.EntryPattern.{EntryPattern}
use Rattle.kb_base.specs.declared.refusal.Refusal.{Refusal}
use Rattle.kb_code.specs.Handler.{HandlerData}
use Rattle.kb_disk.proofs.FilesLemmas.{had_read}
use Rattle.kb_disk.specs.CannotRead.{path_in}
use Rattle.kb_disk.specs.Files.{Held, HasRead, FailsReadingIn}
use Rattle.kb_disk.specs.Files as disk
use Rattle.kb_disk.specs.declared.cannot_read.CannotRead as unread
use Rattle.kb_disk.specs.declared.cannot_read.CannotRead.TheVariants.{File, InDirectory}
use Rattle.kb_disk.specs.declared.cannot_read.DirFile.{DirFile}
use Rattle.kb_disk.specs.declared.cannot_read.DirFile.TheVariants.{Package, Handlers}
use Rattle.kb_files.specs.Extension.{extension_by, extension_in, outline_in}
use Rattle.kb_files.specs.HandlerFile.{handlers_in}
use Rattle.kb_files.specs.Marked.{FailsForAll}
use Rattle.kb_keys.specs.declared.platform.Platform.{Platform}
use Rattle.kb_handler_report.specs.Files.{HasExtension, HasNames}
use Rattle.kb_handler_report.specs.Stopping.{AreRefused, IsOfRefused, IsOfUnread, IsUnreadable}
use Rattle.kb_handler_report.specs.Stopping.{StopsAt, StopsAtBytes, StopsAtHandlers, StopsInDirectories, StopsInDirectory}
use Rattle.kb_handler_report.specs.declared.extension.ExtensionCode.{ExtensionCode}
use Rattle.kb_handler_report.specs.declared.stop.Stop.{Stop}
use Rattle.kb_handler_report.specs.declared.stop.Stop.TheVariants.{CannotRead, Refused, TooMany}
use Rattle.kb_handler_report.specs.declared.stop.Stop.TheVariants.{NoMemory, NotWritten}

-- ---- the bytes of a file

refused_bytes : (file : DirFile) (dir bytes : List ℕ) (refusal : Refusal) (stop : Stop)
    → AreRefused file bytes refusal → IsOfRefused (path_in dir file) (failure.Fault refusal) stop
    → StopsAtBytes file dir bytes stop
refused_bytes file dir bytes refusal stop are (inl is) =
    subst (StopsAtBytes file dir bytes) (sym is) (refl, (refusal, are, refl))
refused_bytes file dir bytes refusal stop are (inr is) = subst (StopsAtBytes file dir bytes) (sym is) tt

fault_seen : {X Y F : Type 0} (view : X → Y) (r : Result X F) (fault : F) → seen view r ≡ Err fault → r ≡ Err fault
fault_seen view (Ok x) fault is = absurd (let no : Bool = true in cc)
fault_seen view (Err other) fault is = ap (λ r. Err (fault_of other r)) is
  where
    fault_of : {Y F : Type 0} → F → Result Y F → F
    fault_of other (Ok y) = other
    fault_of other (Err f) = f

outline_fault : (bytes : List ℕ) (unread : List EntryPattern) (number : ℕ) (platform : Platform)
    (refusal : Refusal) → extension_in unread number platform bytes ≡ Err refusal
    → outline_in bytes ≡ Err refusal
unfolding extension_in
outline_fault bytes unread number platform refusal is =
    fault_seen (extension_by unread number platform) (outline_in bytes) refusal is

-- a manifest could not be parsed
pub manifest_refused : (dir bytes : List ℕ) (number : ℕ) (platform : Platform) (failed : Failure Refusal)
    (stop : Stop) → FailsForAll failed (λ unread. extension_in unread number platform bytes)
    → IsOfRefused (path_in dir Package) failed stop → StopsAtBytes Package dir bytes stop
manifest_refused dir bytes number platform failure.NoMemory stop fails is =
    subst (StopsAtBytes Package dir bytes) (sym is) tt
manifest_refused dir bytes number platform (failure.Fault refusal) stop fails is =
    refused_bytes Package dir bytes refusal stop (outline_fault bytes [] number platform refusal (fails [])) is

-- handlers could not be parsed
pub handlers_refused : {X : Type 0} (view : X → List HandlerData) (dir bytes : List ℕ) (failed : Failure Refusal)
    (stop : Stop) → Gives view (Err failed) (handlers_in bytes) → IsOfRefused (path_in dir Handlers) failed stop
    → StopsAtBytes Handlers dir bytes stop
handlers_refused view dir bytes failure.NoMemory stop fails is =
    subst (StopsAtBytes Handlers dir bytes) (sym is) tt
handlers_refused view dir bytes (failure.Fault refusal) stop fails is =
    refused_bytes Handlers dir bytes refusal stop fails is

-- ---- a file

-- a file that was read is refused
refused_file : (file : DirFile) (held : List ℕ → Held) (dir : Bor (List ℕ)) (bytes : List ℕ) (stop : Stop)
    → HasRead {B = List ℕ} (held (path_in dir.now file)) (λ got. got) (Ok bytes)
    → StopsAtBytes file dir.now bytes stop → StopsAt file held dir stop
refused_file file held dir bytes (CannotRead path) has stops = absurd stops
refused_file file held dir bytes (Refused path number) has stops =
    (stops.0, record { bytes = bytes; reads = has; refused = stops.1 })
refused_file file held dir bytes TooMany has stops = stops
refused_file file held dir bytes NoMemory has stops = stops
refused_file file held dir bytes NotWritten has stops = stops

pub manifest_stops : {B : Type 0} (held : List ℕ → Held) (view : B → List ℕ) (dir : Bor (List ℕ)) (got : B)
    (stop : Stop) → disk.HasManifest held view dir (Ok got) → StopsAtBytes Package dir.now (view got) stop
    → StopsAt Package held dir stop
manifest_stops held view dir got stop has stops =
    refused_file Package held dir (view got) stop (had_read (held (path_in dir.now Package)) view got has) stops

pub handlers_stop : {B : Type 0} (held : List ℕ → Held) (view : B → List ℕ) (dir : Bor (List ℕ))
    (got : Option B) (stop : Stop) → disk.HasHandlers held view dir (Ok got)
    → StopsAtHandlers view dir.now got stop → StopsAt Handlers held dir stop
handlers_stop held view dir None stop has stops = absurd stops
handlers_stop held view dir (Some got) stop has stops =
    refused_file Handlers held dir (view got) stop (had_read (held (path_in dir.now Handlers)) view got has) stops

-- a file that could not be read
pub unread_stops : (file : DirFile) (held : List ℕ → Held) (dir : Bor (List ℕ))
    (failed : Failure unread.CannotRead) (stop : Stop)
    → FailsReadingIn file (held (path_in dir.now file)) dir failed → IsOfUnread failed stop
    → StopsAt file held dir stop
unread_stops file held dir failure.NoMemory stop fails is = subst (StopsAt file held dir) (sym is) tt
unread_stops file held dir (failure.Fault (File path)) stop fails is = absurd fails
unread_stops file held dir (failure.Fault (InDirectory at which)) stop (same, same_file, there, (fault, has)) (inl is) =
    let path : path_in at.now which ≡ path_in dir.now file =
    ap (λ (d : Bor (List ℕ)). path_in d.now which) same ∙ ap (path_in dir.now) same_file in
    let cannot : IsUnreadable file (held (path_in dir.now file)) =
    record { there = there; fault = fault; reading = has } in
    subst (StopsAt file held dir) (sym is) (path, cannot)
unread_stops file held dir (failure.Fault (InDirectory at which)) stop fails (inr is) =
    subst (StopsAt file held dir) (sym is) tt

pub ruleset files_stop = (manifest_stops, handlers_stop, unread_stops)

-- ---- directories

-- the manifest was read, and the handlers stop the reading
pub handlers_stop_directory : (held : List ℕ → Held) (dir : Bor (List ℕ)) (id : List ℕ)
    (dependencies : List (List ℕ)) (stop : Stop) → HasNames held dir id dependencies
    → StopsAt Handlers held dir stop → StopsInDirectory held dir stop
handlers_stop_directory held dir id dependencies stop has stops =
    inr (record { id = id; dependencies = dependencies; names = has }, stops)

-- a later directory has a file that stops the reading
pub stops_later : (held : List ℕ → Held) (dirs : List (Bor (List ℕ))) (i : ℕ) (d : Bor (List ℕ))
    (e : ExtensionCode) (stop : Stop) → i < length dirs → HasExtension held (get_or dirs i d) e
    → StopsInDirectories held (drop (i + 1) dirs) stop → StopsInDirectories held (drop i dirs) stop
stops_later held dirs i d e stop below has stops = rw (drop_more dirs i d below) (inr ((e, has), stops))
