-- How a run ends: why it stopped, and its exit status.
use Rattle.std.specs.Prelude.{◌≡◌, ◌⊎◌, ⊤, ℕ, Bool, true, false, List, [], Option, Some, None}
use Rattle.std.specs.Prelude.{Result, Ok, Err, codes, map, option_map, unwrap_or}
use Rattle.std.specs.Borrow.{Bor}
use Rattle.clap.specs.Words.{Row, Text, all_of, kind_of, subcommand_rows_of}
use Rattle.clap.specs.declared.error.Error.{Error}
use Rattle.clap.specs.declared.error.kind.ErrorKind.TheVariants.{InvalidValue}
use Rattle.clap.specs.declared.parser.matches.ArgMatches.{ArgMatches}
use Rattle.kb_base.specs.declared.failure.Failure.TheVariants.{Fault}
use Rattle.kb_files.specs.Inputs.{Files}
use Rattle.kb_check_report.specs.Checking as checking
use Rattle.kb_problems.specs.declared.choices.Choices.{Choices}
use Rattle.kb_cli.specs.CommandLine.{RefusesWith, fault_by}
use Rattle.kb_cli.specs.declared.given.OptionsFault.{OptionsFault}
use Rattle.kb_cli.specs.declared.given.OptionsFault.TheVariants as options
use Rattle.kb_cli.specs.declared.given.WordsFault.{WordsFault}
use Rattle.kb_cli.specs.declared.given.WordsFault.TheVariants as words_fault
use Rattle.kb_core.specs.Native.{natives}
use Rattle.kb_disk.specs.Files.{Held, unknown}
use Rattle.kb_run.specs.declared.outcome.Stop.TheVariants as run
use Rattle.kb_files.specs.declared.fault.LoadFault.{LoadFault}
use Rattle.kb_handler_report.specs.Check as handlers
use Rattle.kb_handler_report.specs.Stop as handlers_stop
use Rattle.kb_handler_report.specs.declared.stop.Stop as handlers_end
use Rattle.kb_handler_report.specs.declared.stop.Stop.TheVariants as handlers_variants
use Rattle.kb_keys.specs.Chord.{Strokes, chord_of}
use Rattle.kb_disk.specs.declared.options.Options.{Options}
use Rattle.kb_disk.specs.LoadFiles.{FailsAt, FailsReadingFiles, HasFiles, HasRules}
use Rattle.kb_report.specs.declared.output.Stop as report
use Rattle.kb_report.specs.declared.output.Stop.TheVariants as report_stops
use Rattle.kb_run.specs.Run.{FailsOpeningScript, HasLoadFault}
use Rattle.kb_run.specs.declared.setup.Verification.TheVariants.{Verified}
use Rattle.kb_session.specs.Session.{IsOf, Seen}
use Rattle.kb_keycheck.specs.CommandLine.{AreWishes, IsAsked, IsGiven, IsMatched, path_in, subcommand_named}
use Rattle.kb_keycheck.specs.Translating.{EndsTranslating}
use Rattle.kb_keycheck.specs.declared.ending.Stop.{Stop}
use Rattle.kb_keycheck.specs.declared.ending.Stop.TheVariants.{Keys, Run, NotWritten}
use Rattle.kb_keycheck.specs.declared.request.Direction.{Direction}
use Rattle.kb_keycheck.specs.declared.request.Given.{Given}
use Rattle.kb_keycheck.specs.declared.request.Question.{Question}
use Rattle.kb_keycheck.specs.declared.request.Question.TheVariants as question
use Rattle.kb_keycheck.specs.declared.request.Subcommand.{Subcommand}
use Rattle.kb_keycheck.specs.declared.request.Subcommand.TheVariants as command
use Rattle.kb_keycheck.specs.declared.request.Topic.{Topic}
use Rattle.kb_keycheck.specs.declared.request.Wishes.{Wishes}

-- ---- statuses

abbrev pub stop_status : Stop → ℕ
stop_status (Keys fault) = 2
stop_status (Run (run.Unread file)) = 3
stop_status (Run (run.Load fault)) = 3
stop_status (Run (run.Script fault)) = 4
stop_status (Run run.NoMemory) = 4
stop_status NotWritten = 4

-- the status of a check, by whether it showed no problem
abbrev pub check_status : Result Bool Stop → ℕ
check_status (Ok true) = 0
check_status (Ok false) = 1
check_status (Err stop) = stop_status stop

-- the status of an answer
abbrev pub answer_status : Result (Unit {0}) Stop → ℕ
answer_status (Ok done) = 0
answer_status (Err stop) = stop_status stop

-- the status of a translation, by whether the file has faults
abbrev pub translation_status : Result (Option Text) Stop → ℕ
translation_status (Ok None) = 0
translation_status (Ok (Some faults)) = 1
translation_status (Err stop) = stop_status stop

abbrev pub report_stop : report.Stop → Stop
report_stop report_stops.NoMemory = Run run.NoMemory
report_stop report_stops.NotWritten = NotWritten

-- ---- a check

-- all files were read
pub record AreRead (held : List ℕ → Held) (given : Options) : Type 0 where
  pub files : Files
  pub had : HasFiles held given files

-- why a check stopped: a load that is refused is no reason
abbrev pub StopsChecking : (List ℕ → Held) → Options → Wishes → Stop → Type 0
StopsChecking held given wishes (Keys fault) = ⊥
StopsChecking held given wishes (Run (run.Unread file)) =
    FailsReadingFiles held given (Fault file) ⊎ FailsAt held wishes.commands (Fault file)
StopsChecking held given wishes (Run (run.Load fault)) = ⊥
StopsChecking held given wishes (Run (run.Script fault)) = ⊥
StopsChecking held given wishes (Run run.NoMemory) = ⊤
StopsChecking held given wishes NotWritten = AreRead held given

-- all files were read, and the load's own answer for them, with each lint that isn't silenced or is asked
-- for, has no problem that is shown exactly if the check says so
pub record AreChecked (held : List ℕ → Held) (given : Options) (wishes : Wishes) (clean : Bool) : Type 0 where
  pub files : Files
  pub had : HasFiles held given files
  pub choices : Choices
  pub allowed : choices.allowed.now ≡ wishes.allowed.items
  pub asked : choices.asked.now ≡ wishes.asked.items
  pub only : choices.only.now ≡ wishes.only.items
  pub level : choices.level ≡ wishes.level
  pub commands : HasRules held wishes.commands choices.commands.now
  pub checks : checking.Checks files choices clean

abbrev pub EndsChecking : (List ℕ → Held) → Options → Wishes → Result Bool Stop → Type 0
EndsChecking held given wishes (Ok clean) = AreChecked held given wishes clean
EndsChecking held given wishes (Err stop) = StopsChecking held given wishes stop

-- ---- an answer

-- a load accepts the files
pub record AreAccepted (files : Files) : Type 0 where
  pub session : Seen
  pub accepted : IsOf files natives session

-- all files were read, and a load accepts them
pub record AreLoaded (held : List ℕ → Held) (given : Options) : Type 0 where
  pub files : Files
  pub had : HasFiles held given files
  pub accepted : AreAccepted files

-- all files were read, and a load refuses them for this fault
pub record AreRefused (held : List ℕ → Held) (given : Options) (fault : LoadFault) : Type 0 where
  pub files : Files
  pub had : HasFiles held given files
  pub refused : HasLoadFault Verified files natives fault

-- the text of the keystrokes of a question
abbrev pub keys_asked : Question → Option Text
keys_asked (question.Press keys) = Some keys.now
keys_asked (question.Rules keys id) = option_map (λ s. s.now) keys
keys_asked question.Unbound = None
keys_asked question.Context = None
keys_asked (question.Palette query id) = None
keys_asked question.Log = None

-- the keystrokes of a text
abbrev pub strokes_in : Option Text → Strokes
strokes_in None = Ok []
strokes_in (Some keys) = chord_of keys

-- why a question was not answered
abbrev pub StopsAnswering : (List ℕ → Held) → Options → Question → Stop → Type 0
StopsAnswering held given asked (Keys fault) = strokes_in (keys_asked asked) ≡ Err fault
StopsAnswering held given asked (Run (run.Unread file)) =
    FailsReadingFiles held given (Fault file) ⊎ FailsOpeningScript held given (Fault file)
StopsAnswering held given asked (Run (run.Load fault)) = AreRefused held given fault
StopsAnswering held given asked (Run (run.Script fault)) = AreLoaded held given
StopsAnswering held given asked (Run run.NoMemory) = ⊤
StopsAnswering held given asked NotWritten = AreLoaded held given

abbrev pub EndsAnswering : (List ℕ → Held) → Options → Question → Result (Unit {0}) Stop → Type 0
EndsAnswering held given asked (Ok done) = AreLoaded held given
EndsAnswering held given asked (Err stop) = StopsAnswering held given asked stop

-- ---- a command

-- the files that the arguments name are checked for what they ask for
pub record ChecksGiven (held : List ℕ → Held) (rows : List Row) (end : Result Bool Stop) : Type 0 where
  pub given : Given
  pub is_given : IsGiven rows given
  pub wishes : Wishes
  pub are_wishes : AreWishes rows wishes
  pub ends : EndsChecking held given.options wishes end

-- the same, or memory was refused before
abbrev pub ChecksBy : (List ℕ → Held) → List Row → Result Bool Stop → Type 0
ChecksBy held rows end = (end ≡ Err (Run run.NoMemory)) ⊎ ChecksGiven held rows end

-- the question that the arguments ask is answered, over the files that they name
pub record AnswersGiven (held : List ℕ → Held) (topic : Topic) (rows : List Row)
    (end : Result (Unit {0}) Stop) : Type 0 where
  pub given : Given
  pub is_given : IsGiven rows given
  pub asked : Question
  pub is_asked : IsAsked topic rows asked
  pub ends : EndsAnswering held given.options asked end

abbrev pub AnswersBy : (List ℕ → Held) → Topic → List Row → Result (Unit {0}) Stop → Type 0
AnswersBy held topic rows end = (end ≡ Err (Run run.NoMemory)) ⊎ AnswersGiven held topic rows end

-- the end of a check of the handlers in directories
abbrev pub EndsHandlers : (List ℕ → Held) → List (Bor Text) → Result Bool handlers_end.Stop → Type 0
EndsHandlers held dirs (Ok all) = handlers.HasChecked held dirs all
EndsHandlers held dirs (Err stop) = handlers.Stops held dirs stop

-- the handlers in the directories that the arguments name are checked
pub record HandlersGiven (held : List ℕ → Held) (rows : List Row) (end : Result Bool handlers_end.Stop)
    : Type 0 where
  pub dirs : List (Bor Text)
  pub dirs_are : map (λ dir. dir.now) dirs ≡ unwrap_or (all_of (codes "dir") rows) []
  pub ends : EndsHandlers held dirs end

abbrev pub HandlersBy : (List ℕ → Held) → List Row → Result Bool handlers_end.Stop → Type 0
HandlersBy held rows end = (end ≡ Err handlers_variants.NoMemory) ⊎ HandlersGiven held rows end

-- the file that the arguments name is translated
pub record TranslatesGiven (held : List ℕ → Held) (direction : Direction) (rows : List Row)
    (end : Result (Option Text) Stop) : Type 0 where
  pub path : Bor Text
  pub path_is : path.now ≡ path_in rows
  pub ends : EndsTranslating direction held path end

-- ---- the exit status of a command over some files

pub record Checks (held : List ℕ → Held) (rows : List Row) (status : ℕ) : Type 0 where
  pub end : Result Bool Stop
  pub ends : ChecksBy held rows end
  pub status_is : status ≡ check_status end

pub record Answers (held : List ℕ → Held) (topic : Topic) (rows : List Row) (status : ℕ) : Type 0 where
  pub end : Result (Unit {0}) Stop
  pub ends : AnswersBy held topic rows end
  pub status_is : status ≡ answer_status end

pub record Handles (held : List ℕ → Held) (rows : List Row) (status : ℕ) : Type 0 where
  pub end : Result Bool handlers_end.Stop
  pub ends : HandlersBy held rows end
  pub status_is : status ≡ handlers_stop.status_of end

pub record Translates (held : List ℕ → Held) (direction : Direction) (rows : List Row) (status : ℕ)
    : Type 0 where
  pub end : Result (Option Text) Stop
  pub ends : TranslatesGiven held direction rows end
  pub status_is : status ≡ translation_status end

abbrev pub DoesCommand : (List ℕ → Held) → Subcommand → List Row → ℕ → Type 0
DoesCommand held command.Check rows status = Checks held rows status
DoesCommand held (command.Ask topic) rows status = Answers held topic rows status
DoesCommand held command.Handlers rows status = Handles held rows status
DoesCommand held (command.Translate direction) rows status = Translates held direction rows status

-- what the program does with the arguments of a command; 4 also if memory was refused before. A line without
-- a known command has the status 2
abbrev pub Does : (List ℕ → Held) → Option Subcommand → List Row → ℕ → Type 0
Does held None rows status = status ≡ 2
Does held (Some c) rows status = (status ≡ 4) ⊎ DoesCommand held c rows status

abbrev pub Obeys : (List ℕ → Held) → Option (Text × List Row) → ℕ → Type 0
Obeys held None status = status ≡ 2
Obeys held (Some named) status = Does held (subcommand_named named.0) named.1 status

-- ---- a run

-- the exit status of a command line that is refused, or asks for help or the version, or of refused memory
abbrev pub EndsWithFault : OptionsFault → ℕ → Type 0
EndsWithFault (options.Line e) status = RefusesWith (kind_of e) status
EndsWithFault options.NoMemory status = status ≡ 4

-- clap refuses the words, or they ask for help or the version
pub record RefusesLine (words : List Text) (status : ℕ) : Type 0 where
  pub error : Error
  pub by_clap : IsMatched words (Err error)
  pub ends : EndsWithFault (fault_by error) status

-- clap gives the words a meaning, and the program does what it says over these files
pub record ObeysLine (held : List ℕ → Held) (words : List Text) (status : ℕ) : Type 0 where
  pub matches : ArgMatches
  pub by_clap : IsMatched words (Ok matches)
  pub obeys : Obeys held (subcommand_rows_of matches) status

-- the exit status for these words over these files; 4 also if memory was refused
abbrev pub RunsLine : (List ℕ → Held) → List Text → ℕ → Type 0
RunsLine held words status = (status ≡ 4) ⊎ (RefusesLine words status ⊎ ObeysLine held words status)

-- the exit status of a run over the system, of whose files contracts know nothing, for some words; 2 also if
-- a word is no text, and 4 if memory was refused
abbrev pub RunsOnSystem : ℕ → Type 0
RunsOnSystem status = ((status ≡ 2) ⊎ (status ≡ 4))
    ⊎ ((words : List Text) × RunsLine (λ path. unknown) words status)

-- ---- for private functions

-- a stop behind a load that was accepted
abbrev pub IsBehindLoad : Stop → Type 0
IsBehindLoad (Keys fault) = ⊥
IsBehindLoad (Run (run.Unread file)) = ⊥
IsBehindLoad (Run (run.Load fault)) = ⊥
IsBehindLoad (Run (run.Script fault)) = ⊤
IsBehindLoad (Run run.NoMemory) = ⊤
IsBehindLoad NotWritten = ⊤

-- why an answer over these files was not given, behind their reading
abbrev pub StopsOver : Files → Stop → Type 0
StopsOver files (Keys fault) = ⊥
StopsOver files (Run (run.Unread file)) = ⊥
StopsOver files (Run (run.Load fault)) = HasLoadFault Verified files natives fault
StopsOver files (Run (run.Script fault)) = AreAccepted files
StopsOver files (Run run.NoMemory) = ⊤
StopsOver files NotWritten = AreAccepted files

-- the words could not be read: a word is no text, or memory was refused
abbrev pub IsNoWords : WordsFault → OptionsFault → Type 0
IsNoWords words_fault.NotText (options.Line e) = kind_of e ≡ InvalidValue
IsNoWords words_fault.NotText options.NoMemory = ⊥
IsNoWords words_fault.NoMemory fault = fault ≡ options.NoMemory

abbrev pub HasNoWords : OptionsFault → Type 0
HasNoWords (options.Line e) = kind_of e ≡ InvalidValue
HasNoWords options.NoMemory = ⊤

-- memory was refused, or clap's error at the words
abbrev pub IsLineFault : List Text → OptionsFault → Type 0
IsLineFault words fault = (fault ≡ options.NoMemory)
    ⊎ ((e : Error) × IsMatched words (Err e) × (fault ≡ fault_by e))
