-- The steps at which memory may be refused.
use Rattle.std.proofs.Common.{◌≡◌, ◌⊎◌, inl, inr, ◌||◌, ℕ, Bool, true, false, List, [], ◌∷◌, Option}
use Rattle.std.proofs.Common.{Some, None}
use Rattle.std.proofs.Common.{refl, sym, ap, ◌∙◌, true≢false, if◌then◌else◌, length}
use Rattle.std.specs.Prelude.{nat_lt, slice_get, option_map, pos}
use Rattle.kb_core.specs.declared.arg.Arg.{Arg}
use Rattle.kb_core.specs.declared.arg.Arg.TheVariants.{Text, Number, Truth}
use Rattle.kb_core.specs.Core.{Core}
use Rattle.kb_code.specs.declared.instr.Instr.{Instr}
use Rattle.kb_code.specs.declared.instr.Instr.TheVariants as i
use Rattle.kb_code.specs.Handler.{HandlerData}
use Rattle.kb_code.specs.Commands.{Table}
use Rattle.kb_vm.specs.declared.trap.Trap.TheVariants.{BadCode}
use Rattle.kb_vm.specs.declared.values.One.{One}
use Rattle.kb_vm.specs.declared.values.One.TheVariants as one
use Rattle.kb_vm.specs.declared.values.Two.{Two}
use Rattle.kb_vm.specs.declared.values.Two.TheVariants as two
use Rattle.kb_vm.specs.Action.{is_stop}
use Rattle.kb_vm.specs.Effect.{Effect, Stop, Leave, Next, Goto, Open, Turn, Enter, effect, pushed, pushed_at}
use Rattle.kb_vm.specs.Effect.{pushed_context}
use Rattle.kb_vm.specs.Effect.{dropped, doubled, swapped, made, with_one, with_two, branched}
use Rattle.kb_vm.specs.Meaning.{World, steps_of, with_step}
use Rattle.kb_vm.specs.Memory.{makes_text, is_call, asks_memory, goes_on, RefusedLast}
use Rattle.kb_vm.specs.State.{is_enter}
use Rattle.kb_vm.specs.Values.{one_of, two_of, size_of}

pushed_if : (b : Bool) (v : Arg) (operands : List Arg)
    → is_enter (if b then Next (v ∷ operands) else Stop BadCode) ≡ false
pushed_if true v operands = refl
pushed_if false v operands = refl

pushes : (v : Arg) (operands : List Arg) → is_enter (pushed v operands) ≡ false
pushes v operands = pushed_if (nat_lt (length operands) 64) v operands

pushes_at : (o : Option Arg) (operands : List Arg) → is_enter (pushed_at o operands) ≡ false
pushes_at None operands = refl
pushes_at (Some v) operands = pushes v operands

pushes_context : (core : Core) (o : Option (List ℕ)) (operands : List Arg)
    → is_enter (pushed_context core o operands) ≡ false
pushes_context core None operands = refl
pushes_context core (Some key) operands = pushes _ operands

drops : (operands : List Arg) → is_enter (dropped operands) ≡ false
drops [] = refl
drops (x ∷ operands) = refl

doubles : (operands : List Arg) → is_enter (doubled operands) ≡ false
doubles [] = refl
doubles (x ∷ operands) = pushes x (x ∷ operands)

swaps : (operands : List Arg) → is_enter (swapped operands) ≡ false
swaps [] = refl
swaps (y ∷ []) = refl
swaps (y ∷ x ∷ operands) = refl

makes : (o : Option Arg) (operands : List Arg) → is_enter (made o operands) ≡ false
makes None operands = refl
makes (Some v) operands = refl

takes_one : (what : One) (operands : List Arg) → is_enter (with_one what operands) ≡ false
takes_one what [] = refl
takes_one what (x ∷ operands) = makes (one_of what x) operands

takes_two : (what : Two) (operands : List Arg) → is_enter (with_two what operands) ≡ false
takes_two what [] = refl
takes_two what (y ∷ []) = refl
takes_two what (y ∷ x ∷ operands) = makes (two_of what x y) operands

branches : (to : ℕ) (operands : List Arg) → is_enter (branched to operands) ≡ false
branches to [] = refl
branches to (Truth true ∷ operands) = refl
branches to (Truth false ∷ operands) = refl
branches to (Text text ∷ operands) = refl
branches to (Number n ∷ operands) = refl

-- only a call instruction calls a command
only_calls : (table : Table) (h : HandlerData) (args : List Arg) (core : Core) (operands : List Arg) (instr : Instr)
    → (is_enter (effect table h args core operands instr) ≡ false)
    ⊎ ((is_call instr ≡ true) × (makes_text instr ≡ false))
only_calls table h args core operands i.Return = inl refl
only_calls table h args core operands (i.Text n) = inl (pushes_at (option_map Text (slice_get h.texts n)) operands)
only_calls table h args core operands (i.Num n) = inl (pushes (Number (pos n)) operands)
only_calls table h args core operands (i.Truth truth) = inl (pushes (Truth truth) operands)
only_calls table h args core operands (i.Arg n) = inl (pushes_at (slice_get args n) operands)
only_calls table h args core operands i.Drop = inl (drops operands)
only_calls table h args core operands i.Dup = inl (doubles operands)
only_calls table h args core operands i.Swap = inl (swaps operands)
only_calls table h args core operands i.Add = inl (takes_two two.Add operands)
only_calls table h args core operands i.Sub = inl (takes_two two.Sub operands)
only_calls table h args core operands i.Less = inl (takes_two two.Less operands)
only_calls table h args core operands i.Same = inl (takes_two two.Same operands)
only_calls table h args core operands i.Not = inl (takes_one one.Not operands)
only_calls table h args core operands i.Join = inl (takes_two two.Join operands)
only_calls table h args core operands i.Show = inl (takes_one one.Show operands)
only_calls table h args core operands i.Size = inl (takes_one one.Size operands)
only_calls table h args core operands i.IsTrue = inl (takes_one one.IsTrue operands)
only_calls table h args core operands i.Number = inl (takes_one one.AsNumber operands)
only_calls table h args core operands (i.Jump to) = inl refl
only_calls table h args core operands (i.JumpIfFalse to) = inl (branches to operands)
only_calls table h args core operands (i.Call n) = inr (refl, refl)
only_calls table h args core operands (i.Context n) = inl (pushes_context core (slice_get h.texts n) operands)
only_calls table h args core operands i.Before = inl (pushes (Number (pos (size_of core.buffer.before))) operands)
only_calls table h args core operands i.After = inl (pushes (Number (pos (size_of core.buffer.after))) operands)
only_calls table h args core operands (i.Repeat n) = inl refl
only_calls table h args core operands i.End = inl refl

either_asks : (a b : Bool) → b ≡ true → a || b ≡ true
either_asks true b e = refl
either_asks false b e = e

first_asks : (a b : Bool) → a ≡ true → a || b ≡ true
first_asks a b e = ap (λ a. a || b) e

goes_by : (left : ℕ) (e : Effect) → is_stop e ≡ false → is_enter e ≡ false → goes_on left e ≡ true
goes_by left (Stop trap) stays calm = absurd (true≢false stays)
goes_by left Leave stays calm = refl
goes_by left (Next operands) stays calm = refl
goes_by left (Goto to operands) stays calm = refl
goes_by left (Open n operands) stays calm = refl
goes_by left (Turn operands) stays calm = refl
goes_by left (Enter name callee args operands) stays calm = absurd (true≢false calm)

refused_last : (instr : Instr) (left : ℕ) (e : Effect) (w : World) → asks_memory instr ≡ true
    → goes_on left e ≡ true → RefusedLast (with_step instr left e w)
refused_last instr left e w asks goes =
    (steps_of w, record { instr = instr; left = left; effect = e }, refl, record { asks = asks; goes = goes })

module _ (table : Table) (h : HandlerData) (args : List Arg) (core : Core) (operands : List Arg) (instr : Instr)
    (left : ℕ) (w : World) where
  abbrev its : Effect
  its = effect table h args core operands instr

  -- memory may be refused at a call of a command
  pub call_refused : is_enter its ≡ true → goes_on left its ≡ true → RefusedLast (with_step instr left its w)
  call_refused enters goes =
      refused_last instr left its w (asks (only_calls table h args core operands instr)) goes
    where
      asks : (is_enter its ≡ false) ⊎ ((is_call instr ≡ true) × (makes_text instr ≡ false))
          → asks_memory instr ≡ true
      asks (inl calm) = absurd (true≢false (sym enters ∙ calm))
      asks (inr call) = either_asks (makes_text instr) (is_call instr) call.0

  -- and at an instruction that creates a text
  pub text_refused : makes_text instr ≡ true → is_stop its ≡ false → RefusedLast (with_step instr left its w)
  text_refused makes_one stays =
      refused_last instr left its w (first_asks (makes_text instr) (is_call instr) makes_one)
      (goes (only_calls table h args core operands instr))
    where
      goes : (is_enter its ≡ false) ⊎ ((is_call instr ≡ true) × (makes_text instr ≡ false))
          → goes_on left its ≡ true
      goes (inl calm) = goes_by left its stays calm
      goes (inr call) = absurd (true≢false (sym makes_one ∙ call.1))
