-- What a run writes to standard error and to the trace, by its options and by what its files hold.
use Rattle.std.specs.Prelude.{◌≡◌, ◌⊎◌, ⊤, ℕ, Bool, true, false, List, [], ◌∷◌, ◌++◌, flat_map, map}
use Rattle.std.specs.Prelude.{Option, Some, None, Result, Ok, Err, option_map, unwrap_or}
use Rattle.std.specs.Borrow.{Bor}
use Rattle.std.specs.Io.KnownBytes.{Keeps, append_known}
use Rattle.kb_base.specs.declared.failure.Failure.{Failure}
use Rattle.kb_base.specs.declared.failure.Failure.TheVariants as failure
use Rattle.kb_core.specs.declared.native.Native.{Native}
use Rattle.kb_disk.specs.Files.{Held, NamesFile, Opens}
use Rattle.kb_disk.specs.declared.cannot_read.CannotRead.{CannotRead}
use Rattle.kb_base.specs.Note.{warning_line}
use Rattle.kb_run.specs.ExitStatus.{read_stop, script_stop}
use Rattle.kb_run.specs.Voice.{Heard, Says}
use Rattle.kb_run.specs.declared.outcome.Stop.{Stop}
use Rattle.kb_run.specs.declared.outcome.Stop.TheVariants.{Unread, Load, Script, NoMemory}
use Rattle.kb_disk.specs.LoadFiles.{FailsReadingFiles, HasFiles}
use Rattle.kb_run.specs.Headline.{KeepsHeadline}
use Rattle.kb_disk.specs.declared.options.Options.{Options}
use Rattle.kb_script.specs.ScriptRun.{Answers}
use Rattle.kb_script.specs.Shelf.{Stand, beside}
use Rattle.kb_script.specs.declared.fault.ScriptFault.{ScriptFault}
use Rattle.kb_bindings.specs.Load.{MarksAreRight, held_by}
use Rattle.kb_files.specs.Inputs.{Files}
use Rattle.kb_files.specs.declared.fault.LoadFault.{LoadFault}
use Rattle.kb_run.specs.declared.setup.Verification.{Verification}
use Rattle.kb_run.specs.declared.setup.Verification.TheVariants.{Verified, Raw}
use Rattle.kb_session.specs.Session.{CommandsFail, IsOf, Loads, LoadsRaw, loaded_raw, marks_by}
use Rattle.kb_session.specs.Session.{raw_load_held, with_rule_lines}
use Rattle.kb_bindings.specs.Sources.{Sources, source_of}
use Rattle.kb_session.specs.State.{State}
use Rattle.kb_bindings.specs.Warning.{warnings_of}
use Rattle.kb_base.specs.declared.note.Warning.{Warning}
use Rattle.kb_stream.specs.Fold.{Traced}

-- ---- the script

-- what a writer behind a buffer has of what was written through the buffer: everything if the buffer was
-- flushed, and otherwise everything but what is left in the buffer
abbrev pub Flushes : Bool → Option (List ℕ) → Option (List ℕ) → Type 0
Flushes true written has = Keeps written has
Flushes false written has = (left : List ℕ) × Keeps written (append_known has left)

-- The script was run, its lines were written through a buffer, and the buffer was flushed. `new` is the
-- session after the run with all trace lines. The session itself keeps no line that was written.
pub record Plays (had left : Option (List ℕ)) (old : Traced Stand) (before has : Option (List ℕ))
    (end : Result (Unit {0}) Stop) : Type 0 where
  pub ran : Result (Unit {0}) (Failure ScriptFault)
  pub is_flushed : Bool
  pub written : Option (List ℕ)
  pub new : Traced Stand
  pub answers : Answers ran had left old new before written
  pub flushes : Flushes is_flushed written has
  pub end_is : end ≡ script_stop ran is_flushed

-- the same, whichever bytes of the script are left
abbrev pub PlaysAny : Option (List ℕ) → Traced Stand → Option (List ℕ) → Option (List ℕ)
    → Result (Unit {0}) Stop → Type 0
PlaysAny script old before has end = (left : Option (List ℕ)) × Plays script left old before has end

-- ---- standard error

-- the lines of warnings, each with the name of its source
abbrev pub warning_text : Sources → List Warning → List ℕ
warning_text sources warnings =
    flat_map (λ warning. warning_line (source_of sources warning.origin) warning ++ 10 ∷ []) warnings

-- ---- the run

-- the host's closures, seen as the native commands that they stand for: those that a load registers, and
-- the shelf of the script; and whether lines of the script add rules
pub record Hosted : Type 0 where
  pub natives : List Native
  pub shelf : List Native
  pub takes_rules : Bool

abbrev pub hosted : List Native → List Native → Bool → Hosted
hosted natives shelf takes_rules = record { natives = natives; shelf = shelf; takes_rules = takes_rules }

-- standard error and the trace, before a run and after it
pub record Outputs : Type 0 where
  pub said_before : Heard
  pub said : Heard
  pub had : Option (List ℕ)
  pub has : Option (List ℕ)

-- nothing was written
pub record Silent (o : Outputs) : Type 0 where
  pub said : o.said ≡ o.said_before
  pub printed : (left : List ℕ) × (o.had ≡ append_known o.has left)

-- a session is what these files load, with closures for these native commands, for its own marks
abbrev pub IsLoaded : Verification → Files → List Native → Traced State → Type 0
IsLoaded Verified files natives session = IsOf files natives session
IsLoaded Raw files natives session = loaded_raw (marks_by session) files natives ≡ Ok session

-- the fault of a load. Unsupported patterns never change which fault is reported
abbrev pub HasLoadFault : Verification → Files → List Native → LoadFault → Type 0
HasLoadFault Verified files natives fault =
    (held_by files ≡ Err fault) ⊎ CommandsFail files natives (failure.Fault fault)
HasLoadFault Raw files natives fault = raw_load_held files natives ≡ Err fault

-- a session was loaded with the host's closures, and its patterns are marked as `regex` reads them; a line
-- was written for each of its warnings, and the script was run: what was written is the plain model's text
-- for the session and the script, as far as the run came
pub record Played (verification : Verification) (files : Files) (host : Hosted)
    (script : Option (List ℕ)) (o : Outputs) (end : Result (Unit {0}) Stop) : Type 0 where
  pub session : Traced State
  pub loaded_is : IsLoaded verification files host.natives session
  pub marked : MarksAreRight files session.state.sources
  pub warned : Says o.said_before o.said
      (warning_text session.state.sources (warnings_of session.state.sources))
  pub plays : PlaysAny script (beside (with_rule_lines host.takes_rules session) host.shelf) o.had o.has end
  pub headline : KeepsHeadline verification (with_rule_lines host.takes_rules session).state end

-- why nothing was loaded
abbrev pub FailsToLoad : Verification → Files → List Native → Stop → Type 0
FailsToLoad verification files natives (Unread file) = ⊥
FailsToLoad verification files natives (Load fault) = HasLoadFault verification files natives fault
FailsToLoad verification files natives (Script fault) = ⊥
FailsToLoad verification files natives NoMemory = ⊤

pub record NotLoaded (verification : Verification) (files : Files) (host : Hosted) (o : Outputs)
    (end : Result (Unit {0}) Stop) : Type 0 where
  pub stop : Stop
  pub end_is : end ≡ Err stop
  pub why : FailsToLoad verification files host.natives stop
  pub silent : Silent o

-- a run over what its files hold
abbrev pub Runs : Verification → Files → Hosted → Option (List ℕ) → Outputs → Result (Unit {0}) Stop
    → Type 0
Runs verification files host script o end =
    NotLoaded verification files host o end ⊎ Played verification files host script o end

-- the script's bytes, where they are known: those of its file, or of standard input if it has no file
abbrev pub script_bytes : {F : Type 0} → (F → Option (List ℕ)) → Option F → Option (List ℕ) → Option (List ℕ)
script_bytes remaining None input = input
script_bytes remaining (Some file) input = remaining file

-- ---- the files

-- the bytes of the script: of the file that an option names, or of standard input
abbrev pub HasScript : (List ℕ → Held) → Option (Bor (List ℕ)) → Option (List ℕ) → Option (List ℕ) → Type 0
HasScript held None input script = script ≡ input
HasScript held (Some path) input script =
    Opens {F = Option (List ℕ)} (λ known. known) (held path.now) (Ok script)

-- all files were read or opened, and the script was run over what they hold
pub record FilesRun (verification : Verification) (held : List ℕ → Held) (given : Options)
    (host : Hosted) (input : Option (List ℕ)) (o : Outputs) (end : Result (Unit {0}) Stop)
    : Type 0 where
  pub files : Files
  pub script : Option (List ℕ)
  pub files_had : HasFiles held given files
  pub script_had : HasScript held given.script input script
  pub runs : Runs verification files host script o end

-- ---- a file that cannot be read

-- the file of the script does not open
abbrev pub FailsAtScript : (List ℕ → Held) → Option (Bor (List ℕ)) → Failure CannotRead → Type 0
FailsAtScript held named failure = NamesFile {F = Unit {0}} held (λ file. None) named (Err failure)

-- all other files were read, and the script's file does not open
abbrev pub FailsOpeningScript : (List ℕ → Held) → Options → Failure CannotRead → Type 0
FailsOpeningScript held given failure =
    ((files : Files) × HasFiles held given files) × FailsAtScript held given.script failure

-- a file cannot be read or opened
pub record FileMissing (held : List ℕ → Held) (given : Options) (o : Outputs)
    (end : Result (Unit {0}) Stop) : Type 0 where
  pub failure : Failure CannotRead
  pub end_is : end ≡ Err (read_stop failure)
  pub why : FailsReadingFiles held given failure ⊎ FailsOpeningScript held given failure
  pub silent : Silent o

abbrev pub CarriesOut : Verification → (List ℕ → Held) → Options → Hosted → Option (List ℕ) → Outputs
    → Result (Unit {0}) Stop → Type 0
CarriesOut verification held given host input o end =
    FileMissing held given o end ⊎ FilesRun verification held given host input o end

-- ---- for private functions

-- a load returned a session, or its fault, or was refused memory
abbrev pub LoadsBy : Verification → Files → List Native → Result (Traced State) (Failure LoadFault) → Type 0
LoadsBy Verified files natives result = Loads files natives result
LoadsBy Raw files natives result = LoadsRaw files natives result
