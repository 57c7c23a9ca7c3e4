-- What reading the files of a load returns, by what is at the paths that the options name.
use Rattle.std.specs.Prelude.{◌≡◌, ◌⊎◌, ℕ, List, [], Option, Some, None, Ok, Err}
use Rattle.std.specs.Borrow.{Bor}
use Rattle.kb_base.specs.declared.failure.Failure.{Failure}
use Rattle.kb_disk.specs.Directory.{HasDirectories, FailsInDirectories}
use Rattle.kb_disk.specs.Files.{Held, HasRead, NamesBytes}
use Rattle.kb_disk.specs.declared.cannot_read.CannotRead.{CannotRead}
use Rattle.kb_disk.specs.declared.options.Options.{Options}
use Rattle.kb_files.specs.Inputs.{Files}

-- the bytes of the file that an option names, or None if it names no file
abbrev pub HasBytes : (List ℕ → Held) → Option (Bor (List ℕ)) → Option (List ℕ) → Type 0
HasBytes held named bytes = NamesBytes {B = List ℕ} held (λ got. got) named (Ok bytes)

-- the rules in the file that an option names, or the empty text if it names no file
abbrev pub HasRules : (List ℕ → Held) → Option (Bor (List ℕ)) → List ℕ → Type 0
HasRules held None text = text ≡ []
HasRules held (Some path) text = HasRead {B = List ℕ} (held path.now) (λ got. got) (Ok text)

-- what the files of a load hold
pub record HasFiles (held : List ℕ → Held) (given : Options) (files : Files) : Type 0 where
  pub layout : HasBytes held given.layout files.layout
  pub defaults : HasRules held given.defaults files.defaults
  pub user : HasRules held given.user files.user
  pub platform : files.platform ≡ given.platform
  pub extensions : HasDirectories held given.dirs.items files.extensions

-- ---- a file that cannot be read

-- the file that an option names was read, or it names no file
abbrev pub IsHad : (List ℕ → Held) → Option (Bor (List ℕ)) → Type 0
IsHad held named = (bytes : Option (List ℕ)) × HasBytes held named bytes

-- the file that an option names cannot be read, or does not open
abbrev pub FailsAt : (List ℕ → Held) → Option (Bor (List ℕ)) → Failure CannotRead → Type 0
FailsAt held named failure = NamesBytes {B = List ℕ} held (λ got. got) named (Err failure)

-- reading stops at the first file of a load that cannot be read, in this order
abbrev pub FailsReadingFiles : (List ℕ → Held) → Options → Failure CannotRead → Type 0
FailsReadingFiles held given failure = FailsAt held given.layout failure
    ⊎ (IsHad held given.layout × (FailsAt held given.defaults failure
    ⊎ (IsHad held given.defaults × (FailsAt held given.user failure
    ⊎ (IsHad held given.user × FailsInDirectories held given.dirs.items failure)))))
