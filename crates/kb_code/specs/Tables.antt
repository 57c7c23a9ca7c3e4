-- The tables of the blocks of code.
use Rattle.std.specs.Prelude.{◌≡◌, ◌<◌, ℕ, List, length, Option, Some, None, slice_set, slice_index}
use Rattle.std.specs.Prelude.{slice_index_or}
use Rattle.kb_code.specs.declared.instr.Instr.{Instr}
use Rattle.kb_code.specs.declared.instr.Instr.TheVariants as i
use Rattle.kb_code.specs.Blocks.{block_of, Closes}

-- for each place below a bound its block
pub record AreStarts (code : List Instr) (starts : List (Option ℕ)) (bound : ℕ) : Type 0 where
  pub size : length starts ≡ bound
  pub each : (p : ℕ) → p < bound → slice_index_or starts p None ≡ block_of code p

-- for each `Repeat` its `End`, of those below a bound
pub record AreEnds (code : List Instr) (ends : List ℕ) (bound : ℕ) : Type 0 where
  pub size : length ends ≡ length code
  pub each : (q e : ℕ) → e < bound → Closes code q e → slice_index ends q ≡ e

-- the table with the `End` at a place, if the instruction there is one
abbrev pub with_end : List ℕ → Option ℕ → ℕ → Instr → List ℕ
with_end ends (Some q) p i.End = slice_set ends q p
with_end ends _ p _ = ends
