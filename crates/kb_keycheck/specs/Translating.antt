-- What `assemble` and `disassemble` read and give.
use Rattle.std.specs.Prelude.{◌≡◌, ◌⊎◌, ⊤, ℕ, List, Option, Some, None, Result, Ok, Err}
use Rattle.std.specs.Borrow.{Bor}
use Rattle.kb_base.specs.declared.failure.Failure.{Failure}
use Rattle.kb_base.specs.declared.failure.Failure.TheVariants.{NoMemory, Fault}
use Rattle.kb_disk.specs.CannotRead.{path_in}
use Rattle.kb_disk.specs.Files.{Held, unknown, refuses, holds, HasRead, failure_of}
use Rattle.kb_disk.specs.declared.cannot_read.CannotRead.{CannotRead}
use Rattle.kb_disk.specs.declared.cannot_read.CannotRead.TheVariants.{File, InDirectory}
use Rattle.kb_disk.specs.declared.cannot_read.DirFile.TheVariants.{Handlers}
use Rattle.kb_stream.specs.declared.reading.ReadFault.TheVariants.{Failed}
use Rattle.kb_assembly_report.specs.Translating.{Assembles, Disassembles}
use Rattle.kb_assembly_report.specs.declared.assembling.Translation.{Translation}
use Rattle.kb_assembly_report.specs.declared.assembling.Translation.TheVariants as made
use Rattle.kb_run.specs.declared.outcome.Stop.TheVariants as run
use Rattle.kb_keycheck.specs.declared.ending.Stop.{Stop}
use Rattle.kb_keycheck.specs.declared.ending.Stop.TheVariants.{Keys, Run, NotWritten}
use Rattle.kb_keycheck.specs.declared.request.Direction.{Direction}
use Rattle.kb_keycheck.specs.declared.request.Direction.TheVariants.{Assemble, Disassemble}

-- ---- the file

-- a file of these bytes was read
abbrev pub HasBytes : Held → List ℕ → Type 0
HasBytes held bytes = HasRead {B = List ℕ} held (λ got. got) (Ok bytes)

-- a file opens, and a read of it may fail, as that of a directory does
abbrev pub MayFail : Held → Type 0
MayFail unknown = ⊤
MayFail (refuses kind) = ⊥
MayFail (holds bytes) = ⊤

-- a file of these bytes, seen by view, was read; or it opened, and a read failed
abbrev pub HasOpened : {B : Type 0} → Held → (B → List ℕ) → Option B → Type 0
HasOpened held view (Some got) = HasRead held view (Ok got)
HasOpened held view None = MayFail held

-- a file doesn't open or can't be read
abbrev pub IsUnreadable : Held → Type 0
IsUnreadable unknown = ⊤
IsUnreadable (refuses kind) = failure_of kind ≡ Fault Failed
IsUnreadable (holds bytes) = ⊤

-- why the file at a path was not read. Memory may always be refused
abbrev pub FailsAt : Held → Bor (List ℕ) → Failure CannotRead → Type 0
FailsAt held path NoMemory = ⊤
FailsAt held path (Fault (File at)) = (at ≡ path) × IsUnreadable held
FailsAt held path (Fault (InDirectory dir file)) = ⊥

-- the file at a path, or the handlers in the directory there
abbrev pub HasEither : (List ℕ → Held) → List ℕ → List ℕ → Type 0
HasEither held path bytes =
    HasBytes (held path) bytes ⊎ (MayFail (held path) × HasBytes (held (path_in path Handlers)) bytes)

abbrev pub FailsAtEither : (List ℕ → Held) → Bor (List ℕ) → Failure CannotRead → Type 0
FailsAtEither held path NoMemory = ⊤
FailsAtEither held path (Fault (File at)) = (at ≡ path) × IsUnreadable (held path.now)
FailsAtEither held path (Fault (InDirectory dir file)) =
    (dir ≡ path) × (file ≡ Handlers) × MayFail (held path.now)

-- ---- its translation

-- the file to translate has these bytes
abbrev pub IsGivenFile : Direction → (List ℕ → Held) → List ℕ → List ℕ → Type 0
IsGivenFile Assemble held path bytes = HasBytes (held path) bytes
IsGivenFile Disassemble held path bytes = HasEither held path bytes

abbrev pub FailsAtFile : Direction → (List ℕ → Held) → Bor (List ℕ) → Failure CannotRead → Type 0
FailsAtFile Assemble held path failure = FailsAt (held path.now) path failure
FailsAtFile Disassemble held path failure = FailsAtEither held path failure

-- a file is translated to a text, or has faults
abbrev pub Translates : Direction → List ℕ → Translation → Type 0
Translates Assemble bytes made = Assembles bytes made
Translates Disassemble bytes made = Disassembles bytes made

-- the file at a path, which was read, is translated
pub record IsMade (direction : Direction) (held : List ℕ → Held) (path : List ℕ) (made : Translation)
    : Type 0 where
  pub bytes : List ℕ
  pub given : IsGivenFile direction held path bytes
  pub translates : Translates direction bytes made

-- the file at a path was read
abbrev pub IsHad : Direction → (List ℕ → Held) → List ℕ → Type 0
IsHad direction held path = (bytes : List ℕ) × IsGivenFile direction held path bytes

-- why the file at a path was not translated
abbrev pub StopsTranslating : Direction → (List ℕ → Held) → Bor (List ℕ) → Stop → Type 0
StopsTranslating direction held path (Keys fault) = ⊥
StopsTranslating direction held path (Run (run.Unread file)) = FailsAtFile direction held path (Fault file)
StopsTranslating direction held path (Run (run.Load fault)) = ⊥
StopsTranslating direction held path (Run (run.Script fault)) = ⊥
StopsTranslating direction held path (Run run.NoMemory) = ⊤
StopsTranslating direction held path NotWritten = IsHad direction held path.now

-- the end: the other file was written, or these are the faults, or it stopped
abbrev pub EndsTranslating : Direction → (List ℕ → Held) → Bor (List ℕ) → Result (Option (List ℕ)) Stop
    → Type 0
EndsTranslating direction held path (Ok None) =
    (file : List ℕ) × IsMade direction held path.now (made.File file)
EndsTranslating direction held path (Ok (Some faults)) = IsMade direction held path.now (made.Faults faults)
EndsTranslating direction held path (Err stop) = StopsTranslating direction held path stop
