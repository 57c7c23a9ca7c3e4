-- Runs of code without blocks, as all code of version 1 is.
use Rattle.std.specs.Prelude.{◌≡◌, ℕ, nat_lt, if◌then◌else◌, List, slice_get}
use Rattle.kb_core.specs.declared.arg.Arg.{Arg}
use Rattle.kb_code.specs.Commands.{Table}
use Rattle.kb_code.specs.Handler.{HandlerData}
use Rattle.kb_code.specs.Plain.{IsPlain}
use Rattle.kb_vm.specs.declared.trap.Trap.TheVariants.{BadCode}
use Rattle.kb_vm.specs.Effect.{Effect, Goto, effect}
use Rattle.kb_vm.specs.Meaning.{Runner, World, core_of, Answer, Stuck, with_step, fetched, follow, step}
use Rattle.kb_vm.specs.Position.{Position, moved}

-- what follows from an effect where a jump may go to each later place
abbrev pub plain_follow : Runner → HandlerData → List Arg → ℕ → Position → World → Effect → Answer
plain_follow run h args left at w (Goto to operands) =
    if nat_lt at.place to then run h args left (moved at to operands) w
    else Stuck BadCode h.command at.place w
plain_follow run h args left at w e = follow run h args left at w e

abbrev pub plain_step : Table → Runner → Runner
plain_step table run h args left at w =
    fetched (slice_get h.code at.place) left (λ trap. Stuck trap h.command at.place w) (λ instr rest.
    let e = effect table h args (core_of w) at.operands instr in
    plain_follow run h args rest at (with_step instr rest e w) e)

-- code without `Repeat` and `End` runs as in version 1, whatever runs the rest
abbrev pub PlainSteps : Type 0
PlainSteps = (table : Table) (run : Runner) (h : HandlerData) → IsPlain h.code → (args : List Arg) (left : ℕ)
    (at : Position) (w : World) → step table run h args left at w ≡ plain_step table run h args left at w
