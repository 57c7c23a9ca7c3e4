-- What reading a file returns. What is at a path is known of files in memory, and not of a system's files.
use Rattle.std.specs.Prelude.{◌≡◌, ◌≤◌, ◌<◌, ⊤, ℕ, Bool, true, false, List, Option, Some, None}
use Rattle.std.specs.Prelude.{Result, Ok, Err}
use Rattle.std.specs.Prelude.{MatchResult}
use Rattle.std.specs.Prelude.{length}
use Rattle.std.specs.Borrow.{Bor}
use Rattle.std.specs.IoError.{error_kind}
use Rattle.std.specs.declared.io.Error.{Error}
use Rattle.std.specs.declared.io.ErrorKind.{ErrorKind}
use Rattle.std.specs.declared.io.ErrorKind.TheVariants.{NotFound, OutOfMemory}
use Rattle.kb_base.specs.declared.failure.Failure.{Failure}
use Rattle.kb_base.specs.declared.failure.Failure.TheVariants.{NoMemory, Fault}
use Rattle.kb_stream.specs.declared.reading.ReadFault.{ReadFault}
use Rattle.kb_stream.specs.declared.reading.ReadFault.TheVariants.{TooLong, Failed}
use Rattle.kb_disk.specs.CannotRead.{path_in}
use Rattle.kb_disk.specs.declared.cannot_read.CannotRead.{CannotRead}
use Rattle.kb_disk.specs.declared.cannot_read.CannotRead.TheVariants.{File, InDirectory}
use Rattle.kb_disk.specs.declared.cannot_read.DirFile.{DirFile}
use Rattle.kb_disk.specs.declared.cannot_read.DirFile.TheVariants.{Package, Handlers}

-- the most bytes that a file may have
abbrev pub file_limit : ℕ
file_limit = 16777216

-- what there is at a path: nothing is known, it doesn't open for a reason, or there is a file of these bytes
pub data Held : Type 0 where
  unknown : Held
  refuses : ErrorKind → Held
  holds : List ℕ → Held

-- what opening a path returns
abbrev pub Opens : {F : Type 0} → (F → Option (List ℕ)) → Held → Result F Error → Type 0
Opens remaining unknown r = ⊤
Opens remaining (refuses kind) r = MatchResult r (λ file. ⊥) (λ e. error_kind e ≡ kind)
Opens remaining (holds bytes) r = MatchResult r (λ file. remaining file ≡ Some bytes) (λ e. ⊥)

-- why a file did not open, by the kind of the system's error
abbrev pub failure_of : ErrorKind → Failure ReadFault
failure_of OutOfMemory = NoMemory
failure_of _ = Fault Failed

-- why a file of these bytes could not be read: any failure may occur, but TooLong only past the limit
abbrev pub FailsOn : List ℕ → Failure ReadFault → Type 0
FailsOn bytes NoMemory = ⊤
FailsOn bytes (Fault Failed) = ⊤
FailsOn bytes (Fault TooLong) = file_limit < length bytes

-- what reading a path returns, with the bytes seen by view
abbrev pub HasRead : {B : Type 0} → Held → (B → List ℕ) → Result B (Failure ReadFault) → Type 0
HasRead unknown view r = MatchResult r (λ got. length (view got) ≤ file_limit) (λ failed. ⊤)
HasRead (refuses kind) view r = MatchResult r (λ got. ⊥) (λ failed. failed ≡ failure_of kind)
HasRead (holds bytes) view r =
    MatchResult r (λ got. (view got ≡ bytes) × (length bytes ≤ file_limit)) (FailsOn bytes)

-- ---- a file that an option names

-- a failure to read the file at a path, with the path
abbrev pub file_failure : Bor (List ℕ) → Failure ReadFault → Failure CannotRead
file_failure path NoMemory = NoMemory
file_failure path (Fault fault) = Fault (File path)

abbrev pub failure_in : Bor (List ℕ) → DirFile → Failure ReadFault → Failure CannotRead
failure_in dir file NoMemory = NoMemory
failure_in dir file (Fault fault) = Fault (InDirectory dir file)

-- reading the file at a path fails
pub record FailsReading (held : Held) (path : Bor (List ℕ)) (failure : Failure CannotRead) : Type 0 where
  pub failed : Failure ReadFault
  pub reading : HasRead {B = List ℕ} held (λ bytes. bytes) (Err failed)
  pub failure_is : failure ≡ file_failure path failed

-- opening the file at a path fails
pub record FailsOpening (held : Held) (path : Bor (List ℕ)) (failure : Failure CannotRead) : Type 0 where
  pub error : Error
  pub opening : Opens {F = Unit {0}} (λ file. None) held (Err error)
  pub failure_is : failure ≡ file_failure path (failure_of (error_kind error))

abbrev pub GivesBytes : {B : Type 0} → Held → (B → List ℕ) → Option B → Type 0
GivesBytes held view None = ⊥
GivesBytes held view (Some got) = HasRead held view (Ok got)

abbrev pub GivesFile : {F : Type 0} → Held → (F → Option (List ℕ)) → Option F → Type 0
GivesFile held remaining None = ⊥
GivesFile held remaining (Some file) = Opens remaining held (Ok file)

-- the bytes of the file that an option names, or None if it names no file
abbrev pub NamesBytes : {B : Type 0} → (List ℕ → Held) → (B → List ℕ) → Option (Bor (List ℕ))
    → Result (Option B) (Failure CannotRead) → Type 0
NamesBytes held view None r = MatchResult r (λ got. got ≡ None) (λ failure. ⊥)
NamesBytes held view (Some path) r =
    MatchResult r (GivesBytes (held path.now) view) (FailsReading (held path.now) path)

-- the file that an option names, open for reading, or None if it names no file
abbrev pub NamesFile : {F : Type 0} → (List ℕ → Held) → (F → Option (List ℕ)) → Option (Bor (List ℕ))
    → Result (Option F) (Failure CannotRead) → Type 0
NamesFile held remaining None r = MatchResult r (λ got. got ≡ None) (λ failure. ⊥)
NamesFile held remaining (Some path) r =
    MatchResult r (GivesFile (held path.now) remaining) (FailsOpening (held path.now) path)

-- ---- a directory

-- no such file exists, by the kind of the system's error
abbrev pub is_missing : ErrorKind → Bool
is_missing NotFound = true
is_missing _ = false

-- there is no file at a path, as far as that is known
abbrev pub IsMissing : Held → Type 0
IsMissing unknown = ⊤
IsMissing (refuses kind) = is_missing kind ≡ true
IsMissing (holds bytes) = ⊥

-- there is a file at a path, as far as that is known, though it may not open
abbrev pub IsThere : Held → Type 0
IsThere unknown = ⊤
IsThere (refuses kind) = is_missing kind ≡ false
IsThere (holds bytes) = ⊤

-- the bytes of a file, or None if there is none
abbrev pub GivesIfThere : {B : Type 0} → Held → (B → List ℕ) → Option B → Type 0
GivesIfThere held view None = IsMissing held
GivesIfThere held view (Some got) = HasRead held view (Ok got)

-- what reading a file that need not exist returns
abbrev pub HasIfThere : {B : Type 0} → Held → (B → List ℕ) → Result (Option B) (Failure ReadFault) → Type 0
HasIfThere held view r = MatchResult r (GivesIfThere held view)
    (λ failed. IsThere held × HasRead {B = List ℕ} held (λ bytes. bytes) (Err failed))

-- a manifest must exist
abbrev pub MustRead : DirFile → Held → Type 0
MustRead Package held = ⊤
MustRead Handlers held = IsThere held

-- reading a file of a directory at its path fails as reading that path does
pub record FailsAt (file : DirFile) (held : Held) (dir : Bor (List ℕ)) (failure : Failure CannotRead)
    : Type 0 where
  pub must_read : MustRead file held
  pub failed : Failure ReadFault
  pub reading : HasRead {B = List ℕ} held (λ bytes. bytes) (Err failed)
  pub failure_is : failure ≡ failure_in dir file failed

-- reading a file of a directory fails, by what is at its path. Memory may always be refused, since the path
-- takes memory
abbrev pub FailsReadingIn : DirFile → Held → Bor (List ℕ) → Failure CannotRead → Type 0
FailsReadingIn file held dir NoMemory = ⊤
FailsReadingIn file held dir (Fault (InDirectory at which)) = (at ≡ dir) × (which ≡ file)
    × MustRead file held
    × ((fault : ReadFault) × HasRead {B = List ℕ} held (λ bytes. bytes) (Err (Fault fault)))
FailsReadingIn file held dir (Fault (File path)) = ⊥

-- the bytes of the manifest of a directory
abbrev pub HasManifest : {B : Type 0} → (List ℕ → Held) → (B → List ℕ) → Bor (List ℕ)
    → Result B (Failure CannotRead) → Type 0
HasManifest held view dir r =
    MatchResult r (λ got. HasRead (held (path_in dir.now Package)) view (Ok got))
    (FailsReadingIn Package (held (path_in dir.now Package)) dir)

-- the bytes of the handler file of a directory, if there is one
abbrev pub HasHandlers : {B : Type 0} → (List ℕ → Held) → (B → List ℕ) → Bor (List ℕ)
    → Result (Option B) (Failure CannotRead) → Type 0
HasHandlers held view dir r =
    MatchResult r (GivesIfThere (held (path_in dir.now Handlers)) view)
    (FailsReadingIn Handlers (held (path_in dir.now Handlers)) dir)
