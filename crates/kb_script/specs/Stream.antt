-- A run of a script whose session keeps all trace lines, or only those that were not written. Both runs have
-- the same states and write the same text.
use Rattle.std.specs.Prelude.{◌≡◌, ℕ, List, ◌++◌, take, Option, Result, Ok, Err}
use Rattle.kb_base.specs.declared.failure.Failure.{Failure}
use Rattle.kb_base.specs.declared.failure.Failure.TheVariants.{NoMemory, Fault}
use Rattle.kb_script.specs.declared.fault.ScriptFault.{ScriptFault}
use Rattle.kb_script.specs.declared.fault.ScriptFault.TheVariants.{Stopped, TooLong, ReadFailed, WriteFailed}
use Rattle.kb_script.specs.declared.fault.ScriptFault.TheVariants.{Trapped}
use Rattle.kb_script.specs.declared.script_run.Kept.{Kept}
use Rattle.kb_script.specs.declared.script_run.Kept.TheVariants.{All, Unwritten}
use Rattle.kb_script.specs.ScriptRun.{Answers, RunsSaid, BreaksSaid}
use Rattle.kb_script.specs.Shelf.{Stand, Said}
use Rattle.kb_stream.specs.Fold.{Traced}
use Rattle.kb_stream.specs.declared.writing.WriteRefused.{WriteRefused}

-- the same state, with another trace
abbrev pub with_trace : List (List ℕ) → Traced Stand → Traced Stand
with_trace trace s = record { state = s.state; trace = trace }

-- Lines before a run and all lines after it are given. What is left is those before it, and the last ones of
-- the run, which may be none.
pub record EndIsLeft (before all left : List (List ℕ)) : Type 0 where
  pub dropped : List (List ℕ)
  pub last : List (List ℕ)
  pub all_are : all ≡ before ++ (dropped ++ last)
  pub left_are : left ≡ before ++ last

-- which lines are left after a run whose lines were all written
abbrev pub IsLeft : Kept → List (List ℕ) → List (List ℕ) → List (List ℕ) → Type 0
IsLeft All before all left = left ≡ all
IsLeft Unwritten before all left = left ≡ before

-- which lines are left after a run that broke off
abbrev pub IsLeftBroken : Kept → List (List ℕ) → List (List ℕ) → List (List ℕ) → Type 0
IsLeftBroken All before all left = left ≡ all
IsLeftBroken Unwritten before all left = EndIsLeft before all left

-- which lines are left, by the result of a run: a trap doesn't keep its line from being written
abbrev pub IsLeftBy : Kept → Result (Unit {0}) (Failure ScriptFault) → List (List ℕ) → List (List ℕ)
    → List (List ℕ) → Type 0
IsLeftBy kept (Ok done) before all left = IsLeft kept before all left
IsLeftBy kept (Err (Fault Trapped)) before all left = IsLeft kept before all left
IsLeftBy kept (Err (Fault Stopped)) before all left = IsLeftBroken kept before all left
IsLeftBy kept (Err (Fault TooLong)) before all left = IsLeftBroken kept before all left
IsLeftBy kept (Err (Fault ReadFailed)) before all left = IsLeftBroken kept before all left
IsLeftBy kept (Err (Fault WriteFailed)) before all left = IsLeftBroken kept before all left
IsLeftBy kept (Err NoMemory) before all left = IsLeftBroken kept before all left

-- A script was run. With the trace `all` the session is the one that a run with all lines leaves; its own
-- trace is what is left of them.
pub record Streams (kept : Kept) (ran : Result (Unit {0}) (Failure ScriptFault)) (had left : Option (List ℕ))
    (old new : Traced Stand) (before after : Option (List ℕ)) : Type 0 where
  pub all : List (List ℕ)
  pub answers : Answers ran had left old (with_trace all new) before after
  pub trace : IsLeftBy kept ran old.trace all new.trace

-- ---- for private functions

-- the lines that are left once all are written
abbrev pub left_of : Kept → ℕ → List (List ℕ) → List (List ℕ)
left_of All mark lines = lines
left_of Unwritten mark lines = take mark lines

-- lines ran, with right marks for their reloads
pub record StreamsSaid (kept : Kept) (lines : List Said) (old new : Traced Stand)
    (before after : Option (List ℕ)) : Type 0 where
  pub all : List (List ℕ)
  pub runs : RunsSaid lines old (with_trace all new) before after
  pub trace : IsLeft kept old.trace all new.trace

-- the run of lines broke off, with right marks for their reloads
pub record StreamBreaks (kept : Kept) (failure : Failure WriteRefused) (lines : List Said)
    (old new : Traced Stand) (before after : Option (List ℕ)) : Type 0 where
  pub all : List (List ℕ)
  pub breaks : BreaksSaid failure lines old (with_trace all new) before after
  pub trace : IsLeftBroken kept old.trace all new.trace
