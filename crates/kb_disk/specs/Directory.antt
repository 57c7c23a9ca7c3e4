-- What reading the files in directories of extensions returns.
use Rattle.std.specs.Prelude.{◌⊎◌, ⊤, ℕ, List, [], ◌∷◌, Option, Ok, Err}
use Rattle.std.specs.Borrow.{Bor}
use Rattle.kb_files.specs.Extensions.{ExtensionBytes}
use Rattle.kb_base.specs.declared.failure.Failure.{Failure}
use Rattle.kb_disk.specs.Files.{Held, HasHandlers, HasManifest}
use Rattle.kb_disk.specs.declared.cannot_read.CannotRead.{CannotRead}

-- the bytes of the manifest in a directory
abbrev pub HasPackage : (List ℕ → Held) → Bor (List ℕ) → List ℕ → Type 0
HasPackage held dir bytes = HasManifest {B = List ℕ} held (λ got. got) dir (Ok bytes)

-- the bytes of the handlers in a directory, a file that need not exist
abbrev pub HandlersRead : {B : Type 0} → (List ℕ → Held) → (B → List ℕ) → Bor (List ℕ) → Option B → Type 0
HandlersRead held view dir got = HasHandlers held view dir (Ok got)

-- the bytes of the files in an extension's directory
pub record HasDirectory (held : List ℕ → Held) (dir : Bor (List ℕ)) (bytes : ExtensionBytes) : Type 0 where
  pub manifest : HasPackage held dir bytes.manifest
  pub handlers : HandlersRead {B = List ℕ} held (λ got. got) dir bytes.handlers

-- the same of several directories, in their order
abbrev pub HasDirectories : (List ℕ → Held) → List (Bor (List ℕ)) → List ExtensionBytes → Type 0
HasDirectories held [] [] = ⊤
HasDirectories held [] (bytes ∷ rest) = ⊥
HasDirectories held (dir ∷ dirs) [] = ⊥
HasDirectories held (dir ∷ dirs) (bytes ∷ rest) =
    HasDirectory held dir bytes × HasDirectories held dirs rest

-- ---- a file that cannot be read

abbrev pub FailsAtManifest : (List ℕ → Held) → Bor (List ℕ) → Failure CannotRead → Type 0
FailsAtManifest held dir failure = HasManifest {B = List ℕ} held (λ got. got) dir (Err failure)

abbrev pub FailsAtHandlers : (List ℕ → Held) → Bor (List ℕ) → Failure CannotRead → Type 0
FailsAtHandlers held dir failure = HasHandlers {B = List ℕ} held (λ got. got) dir (Err failure)

-- the manifest of a directory cannot be read; or it was read, and the handlers cannot be read
abbrev pub FailsInDirectory : (List ℕ → Held) → Bor (List ℕ) → Failure CannotRead → Type 0
FailsInDirectory held dir failure = FailsAtManifest held dir failure
    ⊎ (((bytes : List ℕ) × HasPackage held dir bytes) × FailsAtHandlers held dir failure)

-- reading stops at the first directory with a file that cannot be read
abbrev pub FailsInDirectories : (List ℕ → Held) → List (Bor (List ℕ)) → Failure CannotRead → Type 0
FailsInDirectories held [] failure = ⊥
FailsInDirectories held (dir ∷ dirs) failure = FailsInDirectory held dir failure
    ⊎ (((bytes : ExtensionBytes) × HasDirectory held dir bytes)
    × FailsInDirectories held dirs failure)
