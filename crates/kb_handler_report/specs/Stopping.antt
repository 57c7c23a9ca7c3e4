-- Why the extensions in directories were not read, by what the files in them hold. Memory may be refused at
-- any file.
use Rattle.std.specs.Prelude.{◌≡◌, ◌≤◌, ◌<◌, ◌⊎◌, ⊤, ℕ, List, [], ◌∷◌, Option, Some, None, Err, Ok}
use Rattle.std.specs.Prelude.{length, map, slice_get}
use Rattle.std.specs.Borrow.{Bor}
use Rattle.kb_base.specs.declared.fault.FaultKind.{FaultKind}
use Rattle.kb_base.specs.declared.failure.Failure.{Failure}
use Rattle.kb_base.specs.declared.failure.Failure.TheVariants as failure
use Rattle.kb_base.specs.declared.refusal.Refusal.{Refusal}
use Rattle.kb_disk.specs.CannotRead.{path_in, path_of}
use Rattle.kb_disk.specs.Files.{Held, HasRead, MustRead}
use Rattle.kb_disk.specs.declared.cannot_read.CannotRead as unread
use Rattle.kb_disk.specs.declared.cannot_read.DirFile.{DirFile}
use Rattle.kb_disk.specs.declared.cannot_read.DirFile.TheVariants.{Package, Handlers}
use Rattle.kb_files.specs.Extension.{outline_in}
use Rattle.kb_files.specs.HandlerFile.{handlers_in}
use Rattle.kb_files.specs.Identifiers.{identifier_fault}
use Rattle.kb_files.specs.declared.identifiers.IdentifierFault.{IdentifierFault}
use Rattle.kb_stream.specs.declared.reading.ReadFault.{ReadFault}
use Rattle.kb_handler_report.specs.Extension.{names_of}
use Rattle.kb_handler_report.specs.Files.{HasExtension, HasExtensions, HasNames}
use Rattle.kb_handler_report.specs.declared.extension.ExtensionCode.{ExtensionCode}
use Rattle.kb_handler_report.specs.declared.stop.Stop.{Stop}
use Rattle.kb_handler_report.specs.declared.stop.Stop.TheVariants.{CannotRead, Refused, TooMany}
use Rattle.kb_handler_report.specs.declared.stop.Stop.TheVariants.{NoMemory, NotWritten}

-- ---- a file

-- a file in a directory, by what is at its path, cannot be read. Handlers that do not exist are no fault
pub record IsUnreadable (file : DirFile) (held : Held) : Type 0 where
  pub there : MustRead file held
  pub fault : ReadFault
  pub reading : HasRead {B = List ℕ} held (λ bytes. bytes) (Err (failure.Fault fault))

-- the bytes of a file are refused, for the first fault in them
abbrev pub AreRefused : DirFile → List ℕ → Refusal → Type 0
AreRefused Package bytes refusal = outline_in bytes ≡ Err refusal
AreRefused Handlers bytes refusal = handlers_in bytes ≡ Err refusal

-- the same, by the kind of the fault
abbrev pub AreRefusedFor : DirFile → List ℕ → FaultKind → Type 0
AreRefusedFor file bytes kind =
    (refusal : Refusal) × AreRefused file bytes refusal × (kind ≡ refusal.kind)

-- a file in a directory, by what is at its path, was read, and is refused
pub record IsRefused (file : DirFile) (held : Held) (kind : FaultKind) : Type 0 where
  pub bytes : List ℕ
  pub reads : HasRead {B = List ℕ} held (λ got. got) (Ok bytes)
  pub refused : AreRefusedFor file bytes kind

-- a file in a directory stops the reading, and is named by its path
abbrev pub StopsAt : DirFile → (List ℕ → Held) → Bor (List ℕ) → Stop → Type 0
StopsAt file held dir (CannotRead path) =
    (path ≡ path_in dir.now file) × IsUnreadable file (held (path_in dir.now file))
StopsAt file held dir (Refused path kind) =
    (path ≡ path_in dir.now file) × IsRefused file (held (path_in dir.now file)) kind
StopsAt file held dir TooMany = ⊥
StopsAt file held dir NoMemory = ⊤
StopsAt file held dir NotWritten = ⊥

-- ---- a directory

-- the manifest in a directory was read
pub record HasManifest (held : List ℕ → Held) (dir : Bor (List ℕ)) : Type 0 where
  pub id : List ℕ
  pub dependencies : List (List ℕ)
  pub names : HasNames held dir id dependencies

-- the manifest stops the reading; or the manifest was read, and the handlers stop the reading
abbrev pub StopsInDirectory : (List ℕ → Held) → Bor (List ℕ) → Stop → Type 0
StopsInDirectory held dir stop =
    StopsAt Package held dir stop ⊎ (HasManifest held dir × StopsAt Handlers held dir stop)

-- the first directory with a file that stops the reading
abbrev pub StopsInDirectories : (List ℕ → Held) → List (Bor (List ℕ)) → Stop → Type 0
StopsInDirectories held [] stop = ⊥
StopsInDirectories held (dir ∷ dirs) stop = StopsInDirectory held dir stop
    ⊎ (((e : ExtensionCode) × HasExtension held dir e) × StopsInDirectories held dirs stop)

-- ---- all directories

-- the file at a path is refused for a fault, or memory was refused
abbrev pub IsRefusedAt : List ℕ → FaultKind → Stop → Type 0
IsRefusedAt path kind stop = (stop ≡ Refused path kind) ⊎ (stop ≡ NoMemory)

-- the manifest of an extension, if there is one, is refused for a fault
abbrev pub IsOfExtension : Option ExtensionCode → FaultKind → Stop → Type 0
IsOfExtension None kind stop = ⊥
IsOfExtension (Some e) kind stop = IsRefusedAt (path_in e.dir Package) kind stop

-- all extensions were read, and the manifest of one is refused for the first fault of their identifiers
pub record StopsAtNames (held : List ℕ → Held) (dirs : List (Bor (List ℕ))) (stop : Stop) : Type 0 where
  pub read : List ExtensionCode
  pub extensions : HasExtensions held dirs read
  pub fault : IdentifierFault
  pub fault_is : identifier_fault (map names_of read) ≡ Some fault
  pub refuses : IsOfExtension (slice_get read fault.place) fault.kind stop

-- there are more than 100 directories, or a file in them stops the reading, or a fault of the identifiers
abbrev pub StopsReading : (List ℕ → Held) → List (Bor (List ℕ)) → Stop → Type 0
StopsReading held dirs stop = ((100 < length dirs) × (stop ≡ TooMany))
    ⊎ ((length dirs ≤ 100) × (StopsInDirectories held dirs stop ⊎ StopsAtNames held dirs stop))

-- ---- for private functions

-- the end for a file that could not be read
abbrev pub IsOfUnread : Failure unread.CannotRead → Stop → Type 0
IsOfUnread failure.NoMemory stop = stop ≡ NoMemory
IsOfUnread (failure.Fault file) stop = (stop ≡ CannotRead (path_of file)) ⊎ (stop ≡ NoMemory)

-- the end for a file at a path whose bytes could not be parsed
abbrev pub IsOfRefused : List ℕ → Failure Refusal → Stop → Type 0
IsOfRefused path failure.NoMemory stop = stop ≡ NoMemory
IsOfRefused path (failure.Fault refusal) stop = IsRefusedAt path refusal.kind stop

-- the bytes of a file in a directory stop the reading
abbrev pub StopsAtBytes : DirFile → List ℕ → List ℕ → Stop → Type 0
StopsAtBytes file dir bytes (CannotRead path) = ⊥
StopsAtBytes file dir bytes (Refused path kind) =
    (path ≡ path_in dir file) × AreRefusedFor file bytes kind
StopsAtBytes file dir bytes TooMany = ⊥
StopsAtBytes file dir bytes NoMemory = ⊤
StopsAtBytes file dir bytes NotWritten = ⊥

-- the same of the handlers, if there are any; their bytes are seen by view
abbrev pub StopsAtHandlers : {B : Type 0} → (B → List ℕ) → List ℕ → Option B → Stop → Type 0
StopsAtHandlers view dir None stop = ⊥
StopsAtHandlers view dir (Some bytes) stop = StopsAtBytes Handlers dir (view bytes) stop
