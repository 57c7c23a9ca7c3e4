-- Code without blocks, as all code of version 1 is.
use Rattle.std.specs.Prelude.{◌≡◌, ◌↔◌, ℕ, Bool, true, false, List, Some, None, slice_get}
use Rattle.kb_code.specs.declared.instr.Instr.{Instr}
use Rattle.kb_code.specs.declared.instr.Instr.TheVariants as i
use Rattle.kb_code.specs.declared.version.Version.TheVariants.{One}
use Rattle.kb_code.specs.Blocks.{block_of, same_block, Closes}
use Rattle.kb_code.specs.Code.{code_fault}

-- an instruction neither opens a block nor ends an iteration
abbrev pub is_plain : Instr → Bool
is_plain (i.Repeat n) = false
is_plain i.End = false
is_plain _ = true

abbrev pub IsPlain : List Instr → Type 0
IsPlain code = (p : ℕ) (instr : Instr) → slice_get code p ≡ Some instr → is_plain instr ≡ true

-- no place is inside a block, so all places have the same block, and no `End` closes one
pub record HasNoBlocks (code : List Instr) : Type 0 where
  pub outside : (p : ℕ) → block_of code p ≡ None
  pub together : (p q : ℕ) → same_block code p q ≡ true
  pub open_end : (q e : ℕ) → Closes code q e → ⊥

abbrev pub PlainHasNoBlocks : Type 0
PlainHasNoBlocks = (code : List Instr) → IsPlain code → HasNoBlocks code

-- the code of version 1 is the code without blocks
abbrev pub VersionOneIsPlain : Type 0
VersionOneIsPlain = (code : List Instr) → (code_fault One code ≡ None) ↔ IsPlain code
