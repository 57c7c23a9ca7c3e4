-- The run of a frame, instruction by instruction.
use Rattle.std.proofs.Common.{◌≡◌, ◌<◌, ◌≤◌, ℕ, zero, suc, ◌+◌, ◌-◌, Bool, List, [], ◌∷◌, Option, Some, None}
use Rattle.std.proofs.Common.{true, false, true≢false, refl, sym, ap, subst, ◌∙◌, arith, if◌then◌else◌}
use Rattle.std.specs.Prelude.{slice_get, nat_lt, ◌&&◌, length, ◌^◌, Result, Ok, Err, is_ok}
use Rattle.std.proofs.lemmas.List.{length-append}
use Rattle.kb_core.specs.declared.arg.Arg.{Arg}
use Rattle.kb_core.specs.Core.{Core}
use Rattle.kb_code.specs.declared.instr.Instr.{Instr}
use Rattle.kb_code.specs.declared.instr.Instr.TheVariants as i
use Rattle.kb_code.specs.Handler.{HandlerData}
use Rattle.kb_code.specs.Commands.{Table}
use Rattle.kb_base.specs.Reading.{or_fault}
use Rattle.kb_code.specs.Blocks.{block_of, same_block}
use Rattle.kb_vm.specs.declared.action.Action.{Action}
use Rattle.kb_vm.specs.declared.action.Action.TheVariants as action
use Rattle.kb_vm.specs.declared.machine.Pause.{Pause}
use Rattle.kb_vm.specs.declared.machine.Pause.TheVariants as pause
use Rattle.kb_vm.specs.declared.machine.Paused.{Paused}
use Rattle.kb_vm.specs.declared.trap.Trap.{Trap}
use Rattle.kb_vm.specs.declared.trap.Trap.TheVariants.{BadCode}
use Rattle.kb_vm.specs.Action.{Does, MayLackMemory}
use Rattle.kb_vm.specs.Effect.{Effect, effect}
use Rattle.kb_vm.specs.Meaning.{Step, World, core_of, steps_of, Answer, Done, Stuck, fetched, follow, resumed, run, with_step}
use Rattle.kb_vm.specs.Outcome.{Precedes, world_of}
use Rattle.kb_vm.specs.Position.{Position, standing, turned}
use Rattle.kb_vm.specs.State.{Begun, PausedFrom, Pauses, IsPaid, fetched_at, next_of}
use Rattle.kb_vm.proofs.Bound.{run_step}
use Rattle.kb_vm.proofs.Frames.{follow_keeps, run_keeps}
use Rattle.kb_vm.proofs.Refusals.{call_refused, text_refused}

instr_in : Instr → Result Instr Trap → Instr
instr_in instr (Ok i) = i
instr_in instr (Err trap) = instr

unfoldable pub trap_in : Trap → Result Instr Trap → Trap
trap_in trap (Ok i) = trap
trap_in trap (Err t) = t

some_fetched : (o : Option Instr) (left : ℕ) (instr : Instr) → Ok instr ≡ fetched_at o left
    → (o ≡ Some instr) × (left ≡ suc (left - 1))
unfolding instr_in
some_fetched None left instr e = absurd (true≢false (ap is_ok e))
some_fetched (Some i) zero instr e = absurd (true≢false (ap is_ok e))
some_fetched (Some i) (suc left) instr e = (ap Some (sym (ap (instr_in instr) e)), omega arith)

module _ (table : Table) (h : HandlerData) (args : List Arg) (at : Position) (w : World) where
  -- the answer, by the instruction at the place and the remaining budget
  at_place : Option Instr → ℕ → Answer
  at_place o left = fetched o left (λ trap. Stuck trap h.command at.place w) (λ instr rest. let e = effect table h args (core_of w) at.operands instr in follow (run table) h args rest at (with_step instr rest e w) e)

  run_at : (left : ℕ) → run table h args left at w ≡ at_place (slice_get h.code at.place) left
  unfolding at_place
  run_at left = run_step table h args left at w

  begun_run : (left : ℕ) (instr : Instr) → Ok instr ≡ fetched_at (slice_get h.code at.place) left
      → run table h args left at w
      ≡ follow (run table) h args (left - 1) at
      (with_step instr (left - 1) (effect table h args (core_of w) at.operands instr) w)
      (effect table h args (core_of w) at.operands instr)
  unfolding at_place
  begun_run left instr is =
      let found = some_fetched _ left instr is in
      run_at left ∙ ap (λ o. at_place o left) found.0 ∙ ap (at_place (Some instr)) found.1

  stuck_at : (o : Option Instr) (left : ℕ) (trap : Trap) → Err trap ≡ fetched_at o left
      → at_place o left ≡ Stuck trap h.command at.place w
  unfolding at_place trap_in
  stuck_at None left trap e = ap (λ t. Stuck t h.command at.place w) (sym (ap (trap_in trap) e))
  stuck_at (Some i) zero trap e = ap (λ t. Stuck t h.command at.place w) (sym (ap (trap_in trap) e))
  stuck_at (Some i) (suc left) trap e = absurd (true≢false (sym (ap is_ok e)))

  stuck_run : (left : ℕ) (trap : Trap) → Err trap ≡ fetched_at (slice_get h.code at.place) left
      → run table h args left at w ≡ Stuck trap h.command at.place w
  stuck_run left trap is = run_at left ∙ stuck_at _ left trap is

-- one more instruction
begun_more : (n m : ℕ) (w u : World) (instr : Instr) (left : ℕ) (e : Effect) → Begun n w u → m ≡ n + 1
    → Begun m w (with_step instr left e u)
begun_more n m w u instr left e b is =
    let s : Step = record { instr = instr; left = left; effect = e } in
    record {
      core = b.core;
      lines = b.lines;
      natives = b.natives;
      steps = omega (arith, length-append (steps_of u) (s ∷ []), b.steps, is);
    }

module _ (table : Table) (h : HandlerData) (args : List Arg) (left place : ℕ) (v : World) where
  -- the answer, by where an action leads
  abbrev answered : Result Position Pause → Answer
  answered (Ok next) = run table h args left next v
  answered (Err (pause.Stop trap)) = Stuck trap h.command place v
  answered (Err why) = Done v

  chosen : (next : Position) (b : Bool)
      → (if b then run table h args left next v else Stuck BadCode h.command place v)
      ≡ answered (if b then Ok next else Err (pause.Stop BadCode))
  chosen next true = refl
  chosen next false = refl

  again : (turns : List ℕ) (operands : List Arg) (o : Option Position)
      → resumed (run table) h args left (standing place turns operands) v o
      ≡ answered (or_fault (pause.Stop BadCode) o)
  again turns operands None = refl
  again turns operands (Some next) = refl

module _ (table : Table) (h : HandlerData) (args : List Arg) (left place : ℕ) (turns : List ℕ)
    (operands after : List Arg) (v : World) where
  abbrev by_effect : Effect → Answer
  by_effect e = follow (run table) h args left (standing place turns operands) v e

  led : (action : Action) (e : Effect) → Does e action after
      → by_effect e ≡ answered table h args left place v (next_of h.code (standing place turns after) action)
  led (action.Stop trap) e does = ap by_effect does
  led action.Leave e does = ap by_effect does
  led action.Next e does = ap by_effect does
  led (action.Goto to) e does =
      ap by_effect does
      ∙ chosen table h args left place v (standing to turns after) (nat_lt place to && same_block h.code place to)
  led (action.Open n) e does =
      ap by_effect does
      ∙ chosen table h args left place v (standing (place + 1) (n ∷ turns) after) (nat_lt (length turns) 8)
  led action.Turn e does =
      ap by_effect does
      ∙ again table h args left place v turns operands (turned place after (block_of h.code place) turns)

module _ (table : Table) (h : HandlerData) (args : List Arg) (left place : ℕ) (v : World)
    (turns open_blocks : List ℕ) (after : List Arg) where
  abbrev PausesBy : Result Position Pause → Type 0
  PausesBy r = (why : Pause) → r ≡ Err why
      → PausedFrom table h args (standing place open_blocks after) (answered table h args left place v r) v left why

  stop_by : (trap : Trap) → PausesBy (Err (pause.Stop trap))
  stop_by trap why e =
      let s : pause.Stop trap ≡ why = cc in
      subst (PausedFrom table h args (standing place open_blocks after) (Stuck trap h.command place v) v left) s refl

  leave_by : PausesBy (Err pause.Leave)
  leave_by why e =
      let s : pause.Leave ≡ why = cc in
      subst (PausedFrom table h args (standing place open_blocks after) (Done v) v left) s refl

  never_by : (next : Position) → PausesBy (Ok next)
  never_by next why e = absurd (cc)

  chosen_by : (next : Position) (b : Bool) → PausesBy (if b then Ok next else Err (pause.Stop BadCode))
  chosen_by next true = never_by next
  chosen_by next false = stop_by BadCode

  again_by : (o : Option Position) → PausesBy (or_fault (pause.Stop BadCode) o)
  again_by None = stop_by BadCode
  again_by (Some next) = never_by next

  paused_by : (action : Action) → PausesBy (next_of h.code (standing place turns after) action)
  paused_by (action.Stop trap) = stop_by trap
  paused_by action.Leave = leave_by
  paused_by action.Next = never_by (standing (place + 1) turns after)
  paused_by (action.Goto to) = chosen_by (standing to turns after) (nat_lt place to && same_block h.code place to)
  paused_by (action.Open n) = chosen_by (standing (place + 1) (n ∷ turns) after) (nat_lt (length turns) 8)
  paused_by action.Turn = again_by (turned place after (block_of h.code place) turns)

module _ (h : HandlerData) (args : List Arg) (core : Core) (first : Position) (before : ℕ) where
  -- the rest of a frame's run, from a place with a remaining budget, open blocks and operands
  abbrev pub Far : ℕ → ℕ → List ℕ → List Arg → Type 0
  Far place left turns operands =
      (table : Table) (w : World) → core_of w ≡ core → (v : World) × Begun (before - left) w v
      × (run table h args before first w ≡ run table h args left (standing place turns operands) v)

  pub far_first : Far first.place before first.turns first.operands
  far_first table w same = (
    w,
    record { core = refl; lines = refl; natives = refl; steps = omega arith },
    refl,
  )

  -- there is no instruction, or it can't be paid for
  pub stops : (place left : ℕ) (turns : List ℕ) (operands : List Arg) (trap : Trap) (p : Paused)
      → Far place left turns operands → Err trap ≡ fetched_at (slice_get h.code place) left
      → p ≡ record { place = place; left = left; why = pause.Stop trap }
      → Pauses h args core first before turns operands p
  stops place left turns operands trap p far is same =
      subst (Pauses h args core first before turns operands) (sym same)
      (λ table w known.
      let f = far table w known in
      (f.0, f.1, f.2 ∙ stuck_run table h args (standing place turns operands) f.0 left trap is))

  module _ (place left : ℕ) (turns : List ℕ) (operands : List Arg) (far : Far place left turns operands)
      (instr : Instr) (is : Ok instr ≡ fetched_at (slice_get h.code place) left) (le : left ≤ before) where
    abbrev its : Table → Effect
    its table = effect table h args core operands instr

    -- one more instruction is begun
    more : (table : Table) (w : World) → core_of w ≡ core → (u : World)
        × Begun (before - (left - 1)) w (with_step instr (left - 1) (its table) u)
        × (run table h args before first w
        ≡ follow (run table) h args (left - 1) (standing place turns operands) (with_step instr (left - 1) (its table) u) (its table))
    more table w known =
        let f = far table w known in
        let u = f.0 in
        let found = some_fetched _ left instr is in
        let kept : core_of u ≡ core = f.1.core ∙ known in (
          u,
          begun_more (before - left) (before - (left - 1)) w u instr (left - 1) (its table) f.1
              (omega (arith, found.1, le)),
          f.2
              ∙ begun_run table h args (standing place turns operands) u left instr is
              ∙ ap (λ c. let e = effect table h args c operands instr in follow (run table) h args (left - 1) (standing place turns operands) (with_step instr (left - 1) e u) e) kept,
        )

    module _ (action : Action) (after : List Arg) (does : (table : Table) → Does (its table) action after) where
      -- it goes on at the next place
      pub goes : (next : ℕ) (open_blocks : List ℕ)
          → next_of h.code (standing place turns after) action ≡ Ok (standing next open_blocks after)
          → Far next (left - 1) open_blocks after
      goes next open_blocks leads table w known =
          let m = more table w known in
          let v = with_step instr (left - 1) (its table) m.0 in (
            v,
            m.1,
            m.2 ∙ led table h args (left - 1) place turns operands after v action (its table) (does table)
                ∙ ap (answered table h args (left - 1) place v) leads,
          )

      -- it pauses
      pub pauses : (why : Pause) (open_blocks : List ℕ) (p : Paused)
          → next_of h.code (standing place turns after) action ≡ Err why
          → p ≡ record { place = place; left = left - 1; why = why }
          → Pauses h args core first before open_blocks after p
      pauses why open_blocks p leads same =
          subst (Pauses h args core first before open_blocks after) (sym same)
          (λ table w known.
          let m = more table w known in
          let v = with_step instr (left - 1) (its table) m.0 in
          let done = m.2 ∙ led table h args (left - 1) place turns operands after v action (its table) (does table) in (
            v,
            m.1,
            subst (λ a. PausedFrom table h args (standing place open_blocks after) a v (left - 1) why) (sym done)
                (paused_by table h args (left - 1) place v turns open_blocks after action why leads),
          ))

    pub lacks : (p : Paused) (after : List Arg) → ((table : Table) → MayLackMemory instr (its table))
        → p ≡ record { place = place; left = left - 1; why = pause.NoMemory }
        → Pauses h args core first before turns after p
    lacks p after may same =
        subst (Pauses h args core first before turns after) (sym same)
        (λ table w known.
        let m = more table w known in
        let v = with_step instr (left - 1) (its table) m.0 in
        let keeps = follow_keeps (run table) (run_keeps table) h args (left - 1) (standing place turns operands) v (its table) in (
          v,
          m.1,
          (
            subst (λ a. Precedes v (world_of a)) (sym m.2) keeps,
            text_refused table h args core operands instr (left - 1) m.0 (may table).asks (may table).goes_on,
          ),
        ))

  pub calls : (place left : ℕ) (turns : List ℕ) (operands : List Arg) (index : ℕ) (instr : Instr) (p : Paused)
      → Far place left turns operands → Ok instr ≡ fetched_at (slice_get h.code place) left → left ≤ before
      → instr ≡ i.Call index → p ≡ record { place = place; left = left - 1; why = pause.Call index }
      → Pauses h args core first before turns operands p
  calls place left turns operands index instr p far is le call same =
      let is' : Ok (i.Call index) ≡ fetched_at (slice_get h.code place) left = ap Ok (sym call) ∙ is in
      subst (Pauses h args core first before turns operands) (sym same)
      (λ table w known.
      let m = more place left turns operands far (i.Call index) is' le table w known in
      let v = with_step (i.Call index) (left - 1) (effect table h args core operands (i.Call index)) m.0 in
      (v, m.1, (call_refused table h args core operands (i.Call index) (left - 1) m.0, m.2)))

-- whatever it pauses for, an instruction was paid for
pub is_paid : (before place left : ℕ) (why : Pause) → left < before → place + 1 < 2 ^ 64
    → IsPaid before place left why
is_paid before place left (pause.Stop trap) less fits = tt
is_paid before place left pause.Leave less fits = less
is_paid before place left (pause.Call index) less fits = (less, fits)
is_paid before place left pause.NoMemory less fits = less
