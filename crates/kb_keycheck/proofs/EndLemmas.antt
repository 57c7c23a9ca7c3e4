-- Why runs stop.
use Rattle.std.proofs.Common.{◌≡◌, ℕ, Bool, true, List, inl, inr, ap, sym, subst}
use Rattle.std.specs.Borrow.{Bor}
use Rattle.std.specs.IoError.{error_kind}
use Rattle.std.specs.declared.io.Error.{Error}
use Rattle.std.specs.Prelude.{Option, Some, None, Result, Ok, Err, IfErr, IfOk}
use Rattle.kb_base.specs.declared.failure.Failure.{Failure}
use Rattle.kb_base.specs.declared.failure.Failure.TheVariants as failure
use Rattle.kb_files.specs.Inputs.{Files}
use Rattle.kb_check_report.specs.Checking as checking
use Rattle.kb_problems.specs.declared.choices.Choices.{Choices}
use Rattle.kb_core.specs.Native.{natives}
use Rattle.kb_disk.specs.Files.{FailsOpening, FailsReading, HasRead, Held, NamesFile, Opens, failure_of, holds}
use Rattle.kb_disk.specs.Files.{refuses, unknown}
use Rattle.kb_disk.specs.declared.cannot_read.CannotRead.{CannotRead}
use Rattle.kb_run.specs.ExitStatus.{load_stop, read_stop, script_stop}
use Rattle.kb_run.specs.declared.outcome.Stop as outcome
use Rattle.kb_run.specs.declared.outcome.Stop.TheVariants as run
use Rattle.kb_files.specs.declared.fault.LoadFault.{LoadFault}
use Rattle.kb_disk.specs.declared.options.Options.{Options}
use Rattle.kb_disk.specs.LoadFiles.{FailsAt, FailsReadingFiles, HasFiles, HasRules}
use Rattle.kb_report.specs.declared.output.Stop as report
use Rattle.kb_report.specs.declared.output.Stop.TheVariants as report_stops
use Rattle.kb_run.specs.Run.{FailsAtScript, FailsOpeningScript}
use Rattle.kb_script.specs.declared.fault.ScriptFault.{ScriptFault}
use Rattle.kb_script.specs.declared.fault.ScriptFault.TheVariants as script
use Rattle.kb_session.specs.Session.{Loads, Seen}
use Rattle.kb_keycheck.specs.Ends.{AreAccepted, AreChecked, AreLoaded, IsBehindLoad, StopsAnswering, StopsChecking}
use Rattle.kb_keycheck.specs.Ends.{StopsOver, report_stop}
use Rattle.kb_keycheck.specs.declared.ending.Stop.{Stop}
use Rattle.kb_keycheck.specs.declared.ending.Stop.TheVariants.{Keys, Run, NotWritten}
use Rattle.kb_keycheck.specs.declared.request.Question.{Question}
use Rattle.kb_keycheck.specs.declared.request.Wishes.{Wishes}

-- ---- behind a load

pub script_behind : (ran : Result (Unit {0}) (Failure ScriptFault)) (end : Result (Unit {0}) outcome.Stop)
    → end ≡ script_stop ran true → IfErr end (λ stop. IsBehindLoad (Run stop))
script_behind ran end is =
    subst (λ e. IfErr e (λ stop. IsBehindLoad (Run stop))) (sym is) (stops ran) where
      stops : (r : Result (Unit {0}) (Failure ScriptFault)) → IfErr (script_stop r true) (λ stop. IsBehindLoad (Run stop))
      stops (Ok done) = tt
      stops (Err failure.NoMemory) = tt
      stops (Err (failure.Fault script.Stopped)) = tt
      stops (Err (failure.Fault script.TooLong)) = tt
      stops (Err (failure.Fault script.ReadFailed)) = tt
      stops (Err (failure.Fault script.WriteFailed)) = tt
      stops (Err (failure.Fault script.Trapped)) = tt

pub said_behind : (stop : report.Stop) (made : Stop) → made ≡ report_stop stop → IsBehindLoad made
said_behind report_stops.NoMemory made is = subst IsBehindLoad (sym is) tt
said_behind report_stops.NotWritten made is = subst IsBehindLoad (sym is) tt

-- ---- over files

pub accepts : (files : Files) (session : Seen) (end : Result (Unit {0}) Stop) → Loads files natives (Ok session)
    → IfOk end (λ done. AreAccepted files)
accepts files session (Ok done) loads = record { session = session; accepted = loads }
accepts files session (Err stop) loads = tt

stops_behind : (files : Files) → AreAccepted files → (stop : Stop) → IsBehindLoad stop → StopsOver files stop
stops_behind files are (Keys fault) behind = absurd behind
stops_behind files are (Run (run.Unread file)) behind = absurd behind
stops_behind files are (Run (run.Load fault)) behind = absurd behind
stops_behind files are (Run (run.Script fault)) behind = are
stops_behind files are (Run run.NoMemory) behind = tt
stops_behind files are NotWritten behind = are

pub stops_over : (files : Files) (session : Seen) (end : Result (Unit {0}) Stop)
    → Loads files natives (Ok session) → IfErr end IsBehindLoad → IfErr end (StopsOver files)
stops_over files session (Ok done) loads behind = tt
stops_over files session (Err stop) loads behind =
    stops_behind files (record { session = session; accepted = loads }) stop behind

pub load_stops : (files : Files) (failed : Failure LoadFault) (made : Stop) → Loads files natives (Err failed)
    → made ≡ Run (load_stop failed) → StopsOver files made
load_stops files failure.NoMemory made fails is = subst (StopsOver files) (sym is) tt
load_stops files (failure.Fault fault) made fails is = subst (StopsOver files) (sym is) fails

pub ruleset over = (accepts, stops_over, load_stops)

-- ---- an answer

pub reading_stops : (held : List ℕ → Held) (given : Options) (asked : Question) (failed : Failure CannotRead)
    (made : Stop) → FailsReadingFiles held given failed → made ≡ Run (read_stop failed)
    → StopsAnswering held given asked made
reading_stops held given asked failure.NoMemory made fails is =
    subst (StopsAnswering held given asked) (sym is) tt
reading_stops held given asked (failure.Fault file) made fails is =
    subst (StopsAnswering held given asked) (sym is) (inl fails)

not_opened : {F : Type 0} (held : List ℕ → Held) (remaining : F → Option (List ℕ))
    (named : Option (Bor (List ℕ))) (failed : Failure CannotRead) → NamesFile held remaining named (Err failed)
    → FailsAtScript held named failed
not_opened held remaining None failed fails = fails
not_opened held remaining (Some path) failed fails = fails

pub opening_stops : {F : Type 0} (held : List ℕ → Held) (remaining : F → Option (List ℕ)) (given : Options)
    (asked : Question) (files : Files) (failed : Failure CannotRead) (made : Stop) → HasFiles held given files
    → NamesFile held remaining given.script (Err failed) → made ≡ Run (read_stop failed)
    → StopsAnswering held given asked made
opening_stops held remaining given asked files failure.NoMemory made had fails is =
    subst (StopsAnswering held given asked) (sym is) tt
opening_stops held remaining given asked files (failure.Fault file) made had fails is =
    subst (StopsAnswering held given asked) (sym is)
    (inr ((files, had), not_opened held remaining given.script (failure.Fault file) fails))

pub stops_answering : (held : List ℕ → Held) (given : Options) (asked : Question) (files : Files) (stop : Stop)
    → HasFiles held given files → StopsOver files stop → StopsAnswering held given asked stop
stops_answering held given asked files (Keys fault) had over = absurd over
stops_answering held given asked files (Run (run.Unread file)) had over = absurd over
stops_answering held given asked files (Run (run.Load fault)) had over =
    record { files = files; had = had; refused = over }
stops_answering held given asked files (Run (run.Script fault)) had over =
    record { files = files; had = had; accepted = over }
stops_answering held given asked files (Run run.NoMemory) had over = tt
stops_answering held given asked files NotWritten had over =
    record { files = files; had = had; accepted = over }

pub loaded : (held : List ℕ → Held) (given : Options) (files : Files) → HasFiles held given files
    → AreAccepted files → AreLoaded held given
loaded held given files had accepted = record { files = files; had = had; accepted = accepted }

pub ruleset answering = (reading_stops, opening_stops, stops_answering, loaded)

-- ---- a check

-- the file of commands does not open
open_fails : (at : Held) (error : Error) → Opens {F = Unit {0}} (λ file. None) at (Err error)
    → HasRead {B = List ℕ} at (λ bytes. bytes) (Err (failure_of (error_kind error)))
open_fails unknown error opens = tt
open_fails (refuses kind) error opens = ap failure_of opens
open_fails (holds bytes) error opens = absurd opens

pub commands_unopened : (at : Held) (path : Bor (List ℕ)) (failed : Failure CannotRead) → FailsOpening at path failed
    → FailsReading at path failed
commands_unopened at path failed fails = record {
  failed = failure_of (error_kind fails.error);
  reading = open_fails at fails.error fails.opening;
  failure_is = fails.failure_is;
}

pub ruleset reading_commands = (commands_unopened)

pub reading_checks : (held : List ℕ → Held) (given : Options) (wishes : Wishes) (failed : Failure CannotRead)
    (made : Stop) → FailsReadingFiles held given failed → made ≡ Run (read_stop failed)
    → StopsChecking held given wishes made
reading_checks held given wishes failure.NoMemory made fails is =
    subst (StopsChecking held given wishes) (sym is) tt
reading_checks held given wishes (failure.Fault file) made fails is =
    subst (StopsChecking held given wishes) (sym is) (inl fails)

pub commands_checks : (held : List ℕ → Held) (given : Options) (wishes : Wishes) (failed : Failure CannotRead)
    (made : Stop) → FailsAt held wishes.commands failed → made ≡ Run (read_stop failed)
    → StopsChecking held given wishes made
commands_checks held given wishes failure.NoMemory made fails is =
    subst (StopsChecking held given wishes) (sym is) tt
commands_checks held given wishes (failure.Fault file) made fails is =
    subst (StopsChecking held given wishes) (sym is) (inr fails)

pub check_stops : (held : List ℕ → Held) (given : Options) (wishes : Wishes) (files : Files) (stop : report.Stop)
    (made : Stop) → HasFiles held given files → made ≡ report_stop stop → StopsChecking held given wishes made
check_stops held given wishes files report_stops.NoMemory made had is =
    subst (StopsChecking held given wishes) (sym is) tt
check_stops held given wishes files report_stops.NotWritten made had is =
    subst (StopsChecking held given wishes) (sym is) (record { files = files; had = had })

pub all_checked : (held : List ℕ → Held) (given : Options) (wishes : Wishes) (files seen : Files)
    (choices : Choices) (clean : Bool) → HasFiles held given files → choices.allowed.now ≡ wishes.allowed.items
    → choices.asked.now ≡ wishes.asked.items → choices.only.now ≡ wishes.only.items → choices.level ≡ wishes.level
    → HasRules held wishes.commands choices.commands.now → seen ≡ files → checking.Checks seen choices clean
    → AreChecked held given wishes clean
all_checked held given wishes files seen choices clean had allowed asked only level commands are checks = record {
  files = files;
  had = had;
  choices = choices;
  allowed = allowed;
  asked = asked;
  only = only;
  level = level;
  commands = commands;
  checks = subst (λ (fs : Files). checking.Checks fs choices clean) are checks;
}

pub ruleset checks = (reading_checks, commands_checks, check_stops, all_checked)
