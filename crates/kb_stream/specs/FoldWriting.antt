-- A fold that writes its lines to a writer as they are added.
use Rattle.std.specs.Prelude.{◌≡◌, ℕ, List, [], ◌∷◌, ◌++◌, Option}
use Rattle.std.specs.Io.KnownBytes.{Appends}
use Rattle.kb_stream.specs.Fold.{Out, Traced, fold, after_all, StopsAmong}
use Rattle.kb_stream.specs.Writing.{text_of_lines, AppendsPart}

module _ {X S : Type 0} (step : X → S → Out S) where
  abbrev pub text_of : List X → S → List ℕ
  text_of told s = text_of_lines (fold step told s).lines

-- the whole list was done, and the writer got all its lines
pub record RunsAndWrites {X S : Type 0} (step : X → S → Out S) (told : List X) (old new : Traced S)
    (before now : Option (List ℕ)) : Type 0 where
  pub session : new ≡ after_all step told old
  pub written : Appends before now (text_of step told old.state)

-- a prefix of the list was done, the writer got its lines, and then a stop came
pub record StopsAndWrites {X S : Type 0} (step : X → S → Out S) (Halts : S → S → Type 0)
    (told : List X) (old new : Traced S) (before now : Option (List ℕ)) : Type 0 where
  pub among : StopsAmong step Halts told old new
  pub written : Appends before now (text_of step among.done old.state)

-- A prefix of the list was done. The writer got all lines of its inputs except the last one, and a proper
-- prefix of the text of the last one's lines.
pub record LacksLines {X S : Type 0} (step : X → S → Out S) (told : List X) (old new : Traced S)
    (before now : Option (List ℕ)) : Type 0 where
  pub done : List X
  pub last : X
  pub rest : List X
  pub whole : told ≡ done ++ last ∷ rest
  pub session : new ≡ after_all step (done ++ last ∷ []) old
  pub written : Option (List ℕ)
  pub lines_done : Appends before written (text_of step done old.state)
  pub part_of_last : AppendsPart written now (text_of_lines (step last (after_all step done old).state).lines)
