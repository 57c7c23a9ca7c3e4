-- Runs of code without blocks.
use Rattle.std.proofs.Common.{◌≡◌, ℕ, zero, suc, Bool, true, false, List, Option, Some, None, refl, ap, if◌then◌else◌}
use Rattle.std.specs.Prelude.{nat_lt, ◌&&◌, slice_get}
use Rattle.kb_core.specs.declared.arg.Arg.{Arg}
use Rattle.kb_code.specs.declared.instr.Instr.{Instr}
use Rattle.kb_code.specs.Blocks.{same_block}
use Rattle.kb_code.specs.Commands.{Table}
use Rattle.kb_code.specs.Handler.{HandlerData}
use Rattle.kb_code.specs.Plain.{IsPlain}
use Rattle.kb_code.proofs.PlainLemmas.{plain_has_no_blocks}
use Rattle.kb_vm.specs.declared.trap.Trap.TheVariants.{BadCode}
use Rattle.kb_vm.specs.Effect.{Effect, Goto, effect}
use Rattle.kb_vm.specs.Meaning.{Runner, World, core_of, Stuck, with_step, fetched, follow}
use Rattle.kb_vm.specs.Plain.{plain_follow, PlainSteps}
use Rattle.kb_vm.specs.Position.{Position, moved}

and_so : (a b : Bool) → b ≡ true → (a && b) ≡ a
and_so true b e = e
and_so false b e = refl

module _ (run : Runner) (h : HandlerData) (plain : IsPlain h.code) (args : List Arg) (at : Position) where
  follow_plain : (left : ℕ) (w : World) (e : Effect) → follow run h args left at w e ≡ plain_follow run h args left at w e
  follow_plain left w (Goto to operands) =
      ap (λ b. if b then run h args left (moved at to operands) w else Stuck BadCode h.command at.place w)
      (and_so (nat_lt at.place to) (same_block h.code at.place to) ((plain_has_no_blocks h.code plain).together at.place to))
  follow_plain left w e = refl

  fetched_plain : (table : Table) (w : World) (o : Option Instr) (left : ℕ)
      → fetched o left (λ trap. Stuck trap h.command at.place w) (λ instr rest.
      let e = effect table h args (core_of w) at.operands instr in
      follow run h args rest at (with_step instr rest e w) e)
      ≡ fetched o left (λ trap. Stuck trap h.command at.place w) (λ instr rest.
      let e = effect table h args (core_of w) at.operands instr in
      plain_follow run h args rest at (with_step instr rest e w) e)
  fetched_plain table w None left = refl
  fetched_plain table w (Some instr) zero = refl
  fetched_plain table w (Some instr) (suc left) =
      let e = effect table h args (core_of w) at.operands instr in
      follow_plain left (with_step instr left e w) e

pub plain_steps : PlainSteps
plain_steps table run h plain args left at w =
    fetched_plain run h plain args at table w (slice_get h.code at.place) left
