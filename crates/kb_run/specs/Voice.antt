-- What is written to standard error.
use Rattle.std.specs.Prelude.{◌≡◌, ℕ, Bool, true, false, List, Option}
use Rattle.std.specs.Io.KnownBytes.{Appends}
use Rattle.kb_run.specs.declared.voice.Voice.{Voice}

-- whether all lines so far were written, what was written, where that is known, and whether the console may
-- have failed
pub record Heard : Type 0 where
  pub whole : Bool
  pub said : Option (List ℕ)
  pub broken : Bool

abbrev pub heard_by : {C : Type 0} → (C → Option (List ℕ)) → (C → Bool) → Voice C → Heard
heard_by said broken voice = record {
  whole = voice.heard;
  said = said voice.console;
  broken = broken voice.console;
}

-- this text was appended to what was written before, if all lines were written; a line is lost only by a
-- console that failed, and what failed once counts as failed from then on
pub record Says (before now : Heard) (text : List ℕ) : Type 0 where
  pub written : now.whole ≡ true → (before.whole ≡ true) × Appends before.said now.said text
  pub lost : before.whole ≡ true → now.whole ≡ false → now.broken ≡ true
  pub stays : before.broken ≡ true → now.broken ≡ true
