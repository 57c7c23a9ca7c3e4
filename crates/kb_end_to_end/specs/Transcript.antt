-- What a script writes in a session that is loaded for it, and why there may be no such text.
use Rattle.std.specs.Prelude.{◌≡◌, ◌⊎◌, ⊤, ℕ, List, map, Err, ◌<◌, length}
use Rattle.kb_base.specs.declared.failure.Failure.{Failure}
use Rattle.kb_base.specs.declared.failure.Failure.TheVariants.{NoMemory, Fault}
use Rattle.kb_core.specs.declared.native.Native.{Native}
use Rattle.kb_files.specs.declared.fault.LoadFault.{LoadFault}
use Rattle.kb_end_to_end.specs.declared.TranscriptFault.{TranscriptFault}
use Rattle.kb_end_to_end.specs.declared.TranscriptFault.TheVariants.{Load, Script}
use Rattle.kb_script.specs.Script.{said_of, bare}
use Rattle.kb_script.specs.ScriptRun.{AreRightlySaid}
use Rattle.kb_script.specs.Shelf.{Said, move, stand}
use Rattle.kb_script.specs.declared.fault.ScriptFault.{ScriptFault}
use Rattle.kb_script.specs.declared.fault.ScriptFault.TheVariants as script
use Rattle.kb_bindings.specs.Load.{MarksAreRight, held_by}
use Rattle.kb_files.specs.Inputs.{Files}
use Rattle.kb_session.specs.Session.{CommandsFail, IsOf}
use Rattle.kb_session.specs.State.{State}
use Rattle.kb_stream.specs.Fold.{Traced}
use Rattle.kb_stream.specs.FoldWriting.{text_of}

-- the text that the model defines for a script, in a session that is loaded with these files and with
-- closures for these natives, beside a shelf of closures for more natives; the patterns of the load and of
-- each reload are marked as `regex` does or doesn't read them
pub record IsTranscript (files : Files) (natives shelf : List Native) (text out : List ℕ) : Type 0 where
  pub session : Traced State
  pub loaded_is : IsOf files natives session
  pub loaded_marked : MarksAreRight files session.state.sources
  pub said : List Said
  pub tells : map bare said ≡ said_of text
  pub marked : AreRightlySaid said
  pub out_is : out ≡ text_of move said (stand session.state shelf)

-- the faults of a script over memory, in a session that was loaded for it: the session is neither stopped
-- nor trapped
abbrev pub FailsToRun : ScriptFault → List ℕ → Type 0
FailsToRun script.Stopped text = ⊥
FailsToRun script.TooLong text = 16777216 < length text
FailsToRun script.ReadFailed text = ⊤
FailsToRun script.WriteFailed text = ⊤
FailsToRun script.Trapped text = ⊥

-- the failure of a load, and that of a script, as one of a transcript
abbrev pub of_load : Failure LoadFault → Failure TranscriptFault
of_load NoMemory = NoMemory
of_load (Fault fault) = Fault (Load fault)

abbrev pub of_script : Failure ScriptFault → Failure TranscriptFault
of_script NoMemory = NoMemory
of_script (Fault fault) = Fault (Script fault)

-- the failures of a transcript: that of the load, that of the script, or refused memory
abbrev pub FailsToGive : Files → List Native → List ℕ → Failure TranscriptFault → Type 0
FailsToGive files natives text NoMemory = ⊤
FailsToGive files natives text (Fault (Load fault)) =
    (held_by files ≡ Err fault) ⊎ CommandsFail files natives (Fault fault)
FailsToGive files natives text (Fault (Script fault)) = FailsToRun fault text
