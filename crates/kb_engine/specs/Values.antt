-- What contracts see of an engine: its files, its session with the shelf beside it, the notice of the last
-- load, what the last event or look-up took, and the keystrokes that were looked up last.
use Rattle.std.specs.Prelude.{ℕ, List, Option}
use Rattle.kb_files.specs.Inputs.{Files}
use Rattle.kb_core.specs.declared.native.Native.{Native}
use Rattle.kb_engine.specs.declared.taken.Taken.{Taken}
use Rattle.kb_session.specs.Session.{Seen}

-- a session, whose trace is that of the last event alone; the natives of the commands that aren't registered;
-- and the number of the last line of a script
pub record RunningData : Type 0 where
  pub session : Seen
  pub shelf : List Native
  pub number : ℕ

pub record EngineData : Type 0 where
  pub files : Files
  pub running : Option RunningData
  pub notice : List ℕ
  pub taken : Taken
  pub shown : List ℕ
