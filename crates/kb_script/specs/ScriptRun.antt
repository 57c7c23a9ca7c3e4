-- The effect of running a script: the bytes read, the changes of session and shelf, and the bytes
-- written. The script itself has no marks of patterns; `said` adds marks to each reload, those that the
-- session reports for it where it ran. They are right: a pattern is marked as `regex` reads it or not.
use Rattle.std.specs.Prelude.{◌≡◌, ◌⊎◌, ⊤, ℕ, true, false, List, map, Option, Result, Ok, Err}
use Rattle.std.specs.Prelude.{option_map, option_to_list}
use Rattle.std.specs.List.{AllByRecursion}
use Rattle.std.specs.Io.KnownBytes.{Keeps}
use Rattle.kb_base.specs.declared.failure.Failure.{Failure}
use Rattle.kb_base.specs.declared.failure.Failure.TheVariants.{NoMemory, Fault}
use Rattle.kb_base.specs.declared.note.EntryPattern.{EntryPattern}
use Rattle.kb_script.specs.declared.fault.ScriptFault.{ScriptFault}
use Rattle.kb_script.specs.declared.fault.ScriptFault.TheVariants.{Stopped, TooLong, ReadFailed, WriteFailed}
use Rattle.kb_script.specs.declared.fault.ScriptFault.TheVariants.{Trapped}
use Rattle.kb_script.specs.Script.{said_of, bare}
use Rattle.kb_script.specs.Shelf.{Stand, Said, tells, takes, move, halt, Halts}
use Rattle.kb_session.specs.State.{IsRightlyTold, Told, reload}
use Rattle.kb_stream.specs.Fold.{Traced}
use Rattle.kb_stream.specs.FoldWriting.{RunsAndWrites, StopsAndWrites, LacksLines}
use Rattle.kb_stream.specs.Reading.{IsRead, FailsToRead}
use Rattle.kb_stream.specs.declared.reading.ReadFault.{ReadFault}
use Rattle.kb_stream.specs.declared.reading.ReadFault.TheVariants as read
use Rattle.kb_stream.specs.declared.writing.WriteRefused.{WriteRefused}

-- the maximum number of bytes of a script
abbrev pub script_limit : ℕ
script_limit = 16777216

-- the patterns of each reload's rules are marked as `regex` does or doesn't read them
abbrev pub IsRightlySaid : Said → Type 0
IsRightlySaid (tells told) = IsRightlyTold told
IsRightlySaid (takes native) = ⊤

abbrev pub AreRightlySaid : List Said → Type 0
AreRightlySaid said = AllByRecursion IsRightlySaid said

-- the script was read to its end, session and shelf did all its lines, and the writer got the trace
-- lines
pub record Ran (had left : Option (List ℕ)) (old new : Traced Stand) (before after : Option (List ℕ))
    : Type 0 where
  pub script : List ℕ
  pub read : IsRead had left script_limit script
  pub was_running : old.state.state.stopped ≡ false
  pub said : List Said
  pub tells : map bare said ≡ said_of script
  pub marked : AreRightlySaid said
  pub ran : RunsAndWrites move said old new before after
  pub runs_on : new.state.state.stopped ≡ false

-- a handler trapped in one of the lines, which stopped the session, so no later line had an effect; the
-- writer got all trace lines
pub record WasTrapped (had left : Option (List ℕ)) (old new : Traced Stand) (before after : Option (List ℕ))
    : Type 0 where
  pub script : List ℕ
  pub read : IsRead had left script_limit script
  pub was_running : old.state.state.stopped ≡ false
  pub said : List Said
  pub tells : map bare said ≡ said_of script
  pub marked : AreRightlySaid said
  pub ran : RunsAndWrites move said old new before after
  pub stopped : new.state.state.stopped ≡ true

-- nothing ran and nothing was written
pub record NothingRan (old new : Traced Stand) (before after : Option (List ℕ)) : Type 0 where
  pub session : new ≡ old
  pub written : Keeps before after

-- the session was already stopped, which is checked after the script was read
pub record WasStopped (had left : Option (List ℕ)) (old new : Traced Stand) (before after : Option (List ℕ))
    : Type 0 where
  pub script : List ℕ
  pub read : IsRead had left script_limit script
  pub stopped : old.state.state.stopped ≡ true
  pub nothing : NothingRan old new before after

-- memory was refused while the script was read: nothing ran and nothing was written, and the session is
-- stopped; no byte past the limit had come
pub record ReadingRefused (had left : Option (List ℕ)) (old new : Traced Stand)
    (before after : Option (List ℕ)) : Type 0 where
  pub reader : FailsToRead NoMemory had left script_limit
  pub session : new ≡ halt old
  pub written : Keeps before after

-- memory was refused in a line: the script was read to its end, the lines before that one ran, and the writer
-- got their trace lines; the session is stopped, and a part of that line may be done
pub record LineRefused (had left : Option (List ℕ)) (old new : Traced Stand) (before after : Option (List ℕ))
    : Type 0 where
  pub script : List ℕ
  pub read : IsRead had left script_limit script
  pub was_running : old.state.state.stopped ≡ false
  pub said : List Said
  pub tells : map bare said ≡ said_of script
  pub marked : AreRightlySaid said
  pub stops : StopsAndWrites move Halts said old new before after

-- memory was refused, while the script was read or in a line
abbrev pub MemoryRefused : Option (List ℕ) → Option (List ℕ) → Traced Stand → Traced Stand
    → Option (List ℕ) → Option (List ℕ) → Type 0
MemoryRefused had left old new before after =
    ReadingRefused had left old new before after ⊎ LineRefused had left old new before after

-- the writer didn't get all trace lines of the last line that ran
pub record LinesLacked (had left : Option (List ℕ)) (old new : Traced Stand) (before after : Option (List ℕ))
    : Type 0 where
  pub script : List ℕ
  pub read : IsRead had left script_limit script
  pub was_running : old.state.state.stopped ≡ false
  pub said : List Said
  pub tells : map bare said ≡ said_of script
  pub marked : AreRightlySaid said
  pub lacks : LacksLines move said old new before after

-- the script was not read, because of a fault of the reader
pub record NotRead (fault : Failure ReadFault) (had left : Option (List ℕ)) (old new : Traced Stand)
    (before after : Option (List ℕ)) : Type 0 where
  pub reader : FailsToRead fault had left script_limit
  pub nothing : NothingRan old new before after

-- the effect of each fault
abbrev pub Fails : Failure ScriptFault → Option (List ℕ) → Option (List ℕ) → Traced Stand → Traced Stand
    → Option (List ℕ) → Option (List ℕ) → Type 0
Fails NoMemory had left old new before after = MemoryRefused had left old new before after
Fails (Fault Stopped) had left old new before after = WasStopped had left old new before after
Fails (Fault TooLong) had left old new before after =
    NotRead (Fault read.TooLong) had left old new before after
Fails (Fault ReadFailed) had left old new before after =
    NotRead (Fault read.Failed) had left old new before after
Fails (Fault WriteFailed) had left old new before after = LinesLacked had left old new before after
Fails (Fault Trapped) had left old new before after = WasTrapped had left old new before after

-- the effect of a run, by its result
abbrev pub Answers : Result (Unit {0}) (Failure ScriptFault) → Option (List ℕ) → Option (List ℕ)
    → Traced Stand → Traced Stand → Option (List ℕ) → Option (List ℕ) → Type 0
Answers (Ok done) had left old new before after = Ran had left old new before after
Answers (Err failure) had left old new before after = Fails failure had left old new before after

-- ---- one line

-- the input with these marks, if it is a reload
abbrev pub marked_told : List EntryPattern → Told → Told
marked_told marks (reload bytes none) = reload bytes marks
marked_told marks told = told

abbrev pub marked : List EntryPattern → Said → Said
marked marks (tells told) = tells (marked_told marks told)
marked marks (takes native) = takes native

-- what a line says, with these marks
abbrev pub with_marks : List EntryPattern → Option Said → List Said
with_marks marks said = option_to_list (option_map (marked marks) said)

-- ---- for private functions

-- the lines ran, with right marks for their reloads
pub record RunsSaid (lines : List Said) (old new : Traced Stand) (before after : Option (List ℕ))
    : Type 0 where
  pub said : List Said
  pub tells : map bare said ≡ lines
  pub marked : AreRightlySaid said
  pub ran : RunsAndWrites move said old new before after

-- the run of lines broke off: memory was refused, and the writer has all trace lines; or the writer
-- lacks trace lines of the last line that ran
abbrev pub BreaksOff : Failure WriteRefused → List Said → Traced Stand → Traced Stand
    → Option (List ℕ) → Option (List ℕ) → Type 0
BreaksOff NoMemory said old new before after = StopsAndWrites move Halts said old new before after
BreaksOff (Fault refused) said old new before after = LacksLines move said old new before after

-- the run of lines broke off, with right marks for their reloads
pub record BreaksSaid (failure : Failure WriteRefused) (lines : List Said) (old new : Traced Stand)
    (before after : Option (List ℕ)) : Type 0 where
  pub said : List Said
  pub tells : map bare said ≡ lines
  pub marked : AreRightlySaid said
  pub breaks : BreaksOff failure said old new before after
