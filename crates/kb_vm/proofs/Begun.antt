-- The start of a handler, with and without code.
use Rattle.std.proofs.Common.{◌≡◌, ◌∙◌, ◌≤◌, ℕ, zero, suc, true, List, [], ◌∷◌, ◌++◌, Option, Some, None}
use Rattle.std.proofs.Common.{sym, ap, subst, refl, arith, false, length, nat_eq}
use Rattle.std.proofs.Common.{true≢false}
use Rattle.std.proofs.lemmas.Bool.Decides.{Decides-eqb}
use Rattle.std.specs.Prelude.{slice_get, is_ok}
use Rattle.kb_core.specs.declared.arg.Arg.{Arg}
use Rattle.kb_code.specs.declared.instr.Instr.{Instr}
use Rattle.kb_code.specs.Handler.{HandlerData}
use Rattle.kb_code.specs.Commands.{Table}
use Rattle.kb_vm.specs.declared.trap.Trap.TheVariants.{BadCode}
use Rattle.kb_vm.specs.Effect.{effect}
use Rattle.kb_vm.specs.Meaning.{Event, StepBegun, LineWritten, NativeRun, Step, World, core_of, steps_among}
use Rattle.kb_vm.specs.Meaning.{after_event, Answer, Done, Stuck, fetched, follow, with_step, run}
use Rattle.kb_vm.specs.Memory.{IsBegun}
use Rattle.kb_vm.specs.Outcome.{Precedes, world_of}
use Rattle.kb_vm.specs.Position.{outset}
use Rattle.kb_vm.specs.State.{fetched_at}
use Rattle.kb_vm.proofs.Bound.{run_step}
use Rattle.kb_vm.proofs.Frames.{follow_keeps, run_keeps}

grows : (xs : List Step) (s : Step) → xs ++ s ∷ [] ≡ [] → ⊥
grows [] s e = cc
grows (x ∷ xs) s e = cc

-- a step is among all events that come after it
stays : (later : List Event) (s : Step) (past : List Event) → steps_among (later ++ StepBegun s ∷ past) ≡ [] → ⊥
stays [] s past e = grows (steps_among past) s e
stays (StepBegun t ∷ later) s past e = grows (steps_among (later ++ StepBegun s ∷ past)) t e
stays (LineWritten name args ∷ later) s past e = stays later s past e
stays (NativeRun native args ∷ later) s past e = stays later s past e

begun_after : (a : Answer) (s : Step) (w : World) → Precedes (after_event (StepBegun s) w) (world_of a) → IsBegun a
begun_after (Done v) s w p = tt
begun_after (Stuck trap command place v) s w p =
    λ none. stays p.past.0 s w.past (sym (ap steps_among p.past.1) ∙ none)

empty : (code : List Instr) → nat_eq (length code) 0 ≡ true → code ≡ []
empty [] none = refl
empty (instr ∷ rest) none =
    let e : suc (length rest) ≡ 0 = (Decides-eqb (suc (length rest)) 0).0 none in absurd (omega arith)

module _ (table : Table) (h : HandlerData) (args : List Arg) (w : World) where
  abbrev at_first : Option Instr → ℕ → Answer
  at_first o left =
      fetched o left (λ trap. Stuck trap h.command 0 w) (λ instr rest.
      let e = effect table h args (core_of w) [] instr in
      follow (run table) h args rest outset (with_step instr rest e w) e)

  begun_by : (o : Option Instr) (left : ℕ) → is_ok (fetched_at o left) ≡ true → IsBegun (at_first o left)
  begun_by None left ok = absurd (true≢false (sym ok))
  begun_by (Some instr) zero ok = absurd (true≢false (sym ok))
  begun_by (Some instr) (suc left) ok =
      let e = effect table h args (core_of w) [] instr in
      begun_after _ (record { instr = instr; left = left; effect = e }) w
      (follow_keeps (run table) (run_keeps table) h args left outset (with_step instr left e w) e)

  -- a first instruction is begun
  pub first_begun : is_ok (fetched_at (slice_get h.code 0) h.signature.budget) ≡ true
      → IsBegun (run table h args h.signature.budget outset w)
  first_begun ok =
      subst IsBegun (sym (run_step table h args h.signature.budget outset w))
      (begun_by (slice_get h.code 0) h.signature.budget ok)

  -- without code the handler traps
  pub no_code : nat_eq (length h.code) 0 ≡ true → run table h args h.signature.budget outset w ≡ Stuck BadCode h.command 0 w
  no_code none =
      run_step table h args h.signature.budget outset w
      ∙ ap (λ code. at_first (slice_get code 0) h.signature.budget) (empty h.code none)

-- a handler with code and a budget has a first instruction that can be paid for
pub some_code : (code : List Instr) (left : ℕ) → nat_eq (length code) 0 ≡ false → 1 ≤ left
    → is_ok (fetched_at (slice_get code 0) left) ≡ true
some_code [] left some paid = absurd (true≢false some)
some_code (instr ∷ rest) zero some paid = absurd (omega arith)
some_code (instr ∷ rest) (suc left) some paid = refl
