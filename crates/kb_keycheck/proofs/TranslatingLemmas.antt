-- Why translations stop.
use Rattle.std.proofs.Common.{◌≡◌, ℕ, List, sym, subst}
use Rattle.std.specs.Borrow.{Bor}
use Rattle.std.specs.Prelude.{Option, Some, None, Result, Ok, Err}
use Rattle.kb_base.specs.declared.failure.Failure.{Failure}
use Rattle.kb_base.specs.declared.failure.Failure.TheVariants as failure
use Rattle.kb_disk.specs.Files.{Held}
use Rattle.kb_disk.specs.declared.cannot_read.CannotRead.{CannotRead}
use Rattle.kb_run.specs.ExitStatus.{read_stop}
use Rattle.kb_run.specs.declared.outcome.Stop.TheVariants as run
use Rattle.kb_assembly_report.specs.declared.assembling.Translation.{Translation}
use Rattle.kb_assembly_report.specs.declared.assembling.Translation.TheVariants as made
use Rattle.kb_keycheck.specs.Translating.{EndsTranslating, FailsAt, FailsAtEither, FailsAtFile, IsGivenFile}
use Rattle.kb_keycheck.specs.Translating.{IsMade, StopsTranslating, Translates}
use Rattle.kb_keycheck.specs.declared.ending.Stop.{Stop}
use Rattle.kb_keycheck.specs.declared.ending.Stop.TheVariants.{Run, NotWritten}
use Rattle.kb_keycheck.specs.declared.request.Direction.{Direction}
use Rattle.kb_keycheck.specs.declared.request.Direction.TheVariants.{Assemble, Disassemble}

pub text_stops : (held : List ℕ → Held) (path : Bor (List ℕ)) (failed : Failure CannotRead) (stop : Stop)
    → FailsAt (held path.now) path failed → stop ≡ Run (read_stop failed)
    → StopsTranslating Assemble held path stop
text_stops held path failure.NoMemory stop fails is = subst (StopsTranslating Assemble held path) (sym is) tt
text_stops held path (failure.Fault file) stop fails is =
    subst (StopsTranslating Assemble held path) (sym is) fails

pub handlers_stop : (held : List ℕ → Held) (path : Bor (List ℕ)) (failed : Failure CannotRead) (stop : Stop)
    → FailsAtEither held path failed → stop ≡ Run (read_stop failed)
    → StopsTranslating Disassemble held path stop
handlers_stop held path failure.NoMemory stop fails is =
    subst (StopsTranslating Disassemble held path) (sym is) tt
handlers_stop held path (failure.Fault file) stop fails is =
    subst (StopsTranslating Disassemble held path) (sym is) fails

pub memory_stops : (direction : Direction) (held : List ℕ → Held) (path : Bor (List ℕ)) (stop : Stop)
    → stop ≡ Run run.NoMemory → StopsTranslating direction held path stop
memory_stops direction held path stop is = subst (StopsTranslating direction held path) (sym is) tt

pub is_made : (direction : Direction) (held : List ℕ → Held) (path bytes : List ℕ) (result : Translation)
    → IsGivenFile direction held path bytes → Translates direction bytes result
    → IsMade direction held path result
is_made direction held path bytes result given translates =
    record { bytes = bytes; given = given; translates = translates }

pub file_ends : (direction : Direction) (held : List ℕ → Held) (path : Bor (List ℕ)) (file : List ℕ)
    → IsMade direction held path.now (made.File file) → EndsTranslating direction held path (Ok None)
file_ends direction held path file made = (file, made)

pub writing_stops : (direction : Direction) (held : List ℕ → Held) (path : Bor (List ℕ)) (result : Translation)
    (stop : Stop) → IsMade direction held path.now result → stop ≡ NotWritten
    → StopsTranslating direction held path stop
writing_stops direction held path result stop made is =
    subst (StopsTranslating direction held path) (sym is) (made.bytes, made.given)

pub ruleset translating = (text_stops, handlers_stop, memory_stops, is_made, file_ends, writing_stops)
