-- Fold of a step function over a list of inputs. Each step changes a state and adds lines to a trace.
-- Sessions and scripts are folds of their own steps.
use Rattle.std.specs.Prelude.{◌≡◌, ℕ, List, [], ◌∷◌, ◌++◌}

-- the state after a step or a run, and the lines that it adds
pub record Out (S : Type 0) : Type 0 where
  pub state : S
  pub lines : List (List ℕ)

-- a state and the trace so far
pub record Traced (S : Type 0) : Type 0 where
  pub state : S
  pub trace : List (List ℕ)

-- the state and the trace after a step
abbrev pub after : {S : Type 0} → Out S → Traced S → Traced S
after out old = record { state = out.state; trace = old.trace ++ out.lines }

-- the outputs of two steps in sequence
abbrev pub joined : {S : Type 0} → Out S → Out S → Out S
joined first rest = record { state = rest.state; lines = first.lines ++ rest.lines }

abbrev pub nothing : {S : Type 0} → S → Out S
nothing s = record { state = s; lines = [] }

abbrev pub fold : {X S : Type 0} → (X → S → Out S) → List X → S → Out S
fold step [] s = nothing s
fold step (x ∷ xs) s = joined (step x s) (fold step xs (step x s).state)

abbrev pub after_all : {X S : Type 0} → (X → S → Out S) → List X → Traced S → Traced S
after_all step told old = after (fold step told old.state) old

-- A prefix of the list was done, and then a stop came at the next input, of which a part may be done.
pub record StopsAmong {X S : Type 0} (step : X → S → Out S) (Halts : S → S → Type 0)
    (told : List X) (old new : Traced S) : Type 0 where
  pub done : List X
  pub stopped_at : X
  pub rest : List X
  pub whole : told ≡ done ++ stopped_at ∷ rest
  pub halts : Halts (after_all step done old).state new.state
  pub trace : new.trace ≡ (after_all step done old).trace
