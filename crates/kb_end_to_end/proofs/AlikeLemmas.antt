-- Two runs of the same inputs from the same state: one trace is the beginning of the other.
use Rattle.std.proofs.Common.{◌≡◌, ◌⊎◌, inl, inr, ⊎_elim, List, [], ◌∷◌, ◌++◌, ℕ, refl, sym, ap, subst, ◌∙◌}
use Rattle.std.proofs.Common.{append-nil, append_assoc, true, false}
use Rattle.std.specs.Prelude.{Result, Ok, Err, OnOk, IfOk, IfErr, Option, map}
use Rattle.kb_end_to_end.specs.Alike.{OneBegins, RunsOrBreaks, ScriptsAlike, HadMemory, WithMemory}
use Rattle.kb_end_to_end.specs.Alike.{unread_rules, with_native, numbered}
use Rattle.kb_script.specs.Shelf.{Said, Stand, Halts, move}
use Rattle.kb_session.specs.Session.{Answers, FailsAmong, FailsAt, RefusesAt, Seen, Takes, answered, is_late}
use Rattle.kb_session.specs.Session.{took}
use Rattle.kb_session.specs.State.{Answered, State, Told, did, halted, next, refused, reload, register, dispose, step}
use Rattle.kb_session.specs.State.{ticket, gave}
use Rattle.kb_core.specs.declared.native.Native.{Native}
use Rattle.kb_registry.specs.declared.registry.Ticket.{Ticket}
use Rattle.kb_session.specs.declared.fault.SessionFault.{SessionFault}
use Rattle.kb_session.specs.declared.fault.SessionFault.TheVariants.{Refused, NoMemory, Stopped}
use Rattle.kb_stream.specs.Fold.{Out, Traced, fold, after_all}
use Rattle.kb_stream.specs.FoldWriting.{RunsAndWrites, StopsAndWrites, LacksLines}
use Rattle.kb_stream.specs.Lines.{Begins}
use Rattle.kb_stream.proofs.FoldLemmas.{after_all-append}
use Rattle.kb_stream.proofs.Undoing.{begins_more}
use Rattle.kb_trace.specs.declared.event.Answer.{Answer}
use Rattle.kb_trace.specs.declared.event.Answer.TheVariants as answer

-- the trace of the first inputs
record CameTo {X S : Type 0} (step : X → S → Out S) (told : List X) (old : Traced S) (trace : List (List ℕ))
    : Type 0 where
  done : List X
  rest : List X
  whole : told ≡ done ++ rest
  is : trace ≡ (after_all step done old).trace

-- of two lists that begin the same list, one begins the other
fork : {X : Type 0} (a b c d : List X) → a ++ b ≡ c ++ d
    → ((m : List X) × (c ≡ a ++ m)) ⊎ ((m : List X) × (a ≡ c ++ m))
fork [] b c d e = inl (c, refl)
fork (x ∷ a) b [] d e = inr (x ∷ a, refl)
fork (x ∷ a) b (y ∷ c) d e =
    let first : x ≡ y = cc in
    let behind : a ++ b ≡ c ++ d = cc in
    ⊎_elim
    (λ p. inl (p.0, ap (λ z. z ∷ c) (sym first) ∙ ap (λ l. x ∷ l) p.1))
    (λ p. inr (p.0, ap (λ z. z ∷ a) first ∙ ap (λ l. y ∷ l) p.1))
    (fork a b c d behind)

module _ {X S : Type 0} (step : X → S → Out S) (old : Traced S) where
  further : (done more : List X) (one other : List (List ℕ)) → one ≡ (after_all step done old).trace
      → other ≡ (after_all step (done ++ more) old).trace → Begins one other
  further done more one other is then =
      begins_more one other (fold step more (after_all step done old).state).lines
      (then ∙ ap (λ (t : Traced S). t.trace) (after_all-append step done more old)
      ∙ ap (λ (lines : List (List ℕ)). lines ++ (fold step more (after_all step done old).state).lines) (sym is))

  one_begins : (told : List X) (one other : List (List ℕ)) → CameTo step told old one → CameTo step told old other
      → OneBegins one other
  one_begins told one other p q = ⊎_elim
      (λ m. inl (further p.done m.0 one other p.is
      (q.is ∙ ap (λ done. (after_all step done old).trace) m.1)))
      (λ m. inr (further q.done m.0 other one q.is
      (p.is ∙ ap (λ done. (after_all step done old).trace) m.1)))
      (fork p.done p.rest q.done q.rest (sym p.whole ∙ q.whole))

  came_whole : (told : List X) (new : Traced S) → new ≡ after_all step told old → CameTo step told old new.trace
  came_whole told new is = record {
    done = told;
    rest = [];
    whole = sym (append-nil told);
    is = ap (λ (t : Traced S). t.trace) is;
  }

-- ---- sessions

came_by : (result : Result (Unit {0}) SessionFault) (told : List Told) (old new : Seen)
    → OnOk result (new ≡ after_all next told old) → IfErr result (λ fault. FailsAmong fault told old new)
    → CameTo next told old new.trace
came_by (Ok done) told old new ok err = came_whole next old told new ok
came_by (Err (Refused r)) told old new ok err = absurd err
came_by (Err NoMemory) told old new ok err =
    let stops = err.1 in record {
      done = stops.done;
      rest = stops.stopped_at ∷ stops.rest;
      whole = stops.whole;
      is = stops.trace;
    }
came_by (Err Stopped) told old new ok err = came_whole next old told new err.1

-- two runs of the same events in sessions with equal states and traces
pub runs_alike : (one other : Result (Unit {0}) SessionFault) (told same : List Told) (old alike new newer : Seen)
    → old ≡ alike → same ≡ told → OnOk one (new ≡ after_all next told old)
    → IfErr one (λ fault. FailsAmong fault told old new) → OnOk other (newer ≡ after_all next same alike)
    → IfErr other (λ fault. FailsAmong fault same alike newer) → OneBegins new.trace newer.trace
runs_alike one other told same old alike new newer states inputs ok err then fails =
    let second : CameTo next same alike newer.trace = came_by other same alike newer then fails in
    one_begins next old told new.trace newer.trace (came_by one told old new ok err)
    (subst (λ (inputs : List Told). CameTo next inputs old newer.trace) inputs
    (subst (λ (s : Seen). CameTo next same s newer.trace) (sym states) second))

-- of two runs of the same events neither of which was refused memory, both were stopped too early or neither was
ends_alike : (one other : Result (Unit {0}) SessionFault) (told same : List Told) (old alike new newer : Seen)
    → old ≡ alike → same ≡ told → OnOk one (is_late told old.state ≡ false)
    → OnOk one (new ≡ after_all next told old) → IfErr one (λ fault. FailsAmong fault told old new)
    → OnOk other (is_late same alike.state ≡ false) → OnOk other (newer ≡ after_all next same alike)
    → IfErr other (λ fault. FailsAmong fault same alike newer)
    → HadMemory one → HadMemory other → (one ≡ other) × (new ≡ newer)
ends_alike (Ok done) (Ok over) told same old alike new newer states inputs early ok err sooner then fails m n =
    (refl, ok ∙ ap (λ s. after_all next told s) states ∙ ap (λ told. after_all next told alike) (sym inputs) ∙ sym then)
ends_alike (Ok done) (Err Stopped) told same old alike new newer states inputs early ok err sooner then fails m n =
    absurd (let no : false ≡ true = sym early ∙ ap (λ (s : Seen). is_late told s.state) states
    ∙ ap (λ told. is_late told alike.state) (sym inputs) ∙ fails.0 in cc)
ends_alike (Ok done) (Err (Refused r)) told same old alike new newer states inputs early ok err sooner then fails m n =
    absurd fails
ends_alike (Ok done) (Err NoMemory) told same old alike new newer states inputs early ok err sooner then fails m n =
    absurd n
ends_alike (Err (Refused r)) other told same old alike new newer states inputs early ok err sooner then fails m n =
    absurd err
ends_alike (Err NoMemory) other told same old alike new newer states inputs early ok err sooner then fails m n =
    absurd m
ends_alike (Err Stopped) (Ok over) told same old alike new newer states inputs early ok err sooner then fails m n =
    absurd (let no : true ≡ false = sym err.0 ∙ ap (λ (s : Seen). is_late told s.state) states
    ∙ ap (λ told. is_late told alike.state) (sym inputs) ∙ sooner in cc)
ends_alike (Err Stopped) (Err (Refused r)) told same old alike new newer states inputs early ok err sooner then fails m n =
    absurd fails
ends_alike (Err Stopped) (Err NoMemory) told same old alike new newer states inputs early ok err sooner then fails m n =
    absurd n
ends_alike (Err Stopped) (Err Stopped) told same old alike new newer states inputs early ok err sooner then fails m n = (
  refl,
  err.1 ∙ ap (λ s. after_all next told s) states ∙ ap (λ told. after_all next told alike) (sym inputs)
      ∙ sym fails.1,
)

pub run_results : (one other : Result (Unit {0}) SessionFault) (told same : List Told) (old alike new newer : Seen)
    → old ≡ alike → same ≡ told → OnOk one (is_late told old.state ≡ false)
    → OnOk one (new ≡ after_all next told old) → IfErr one (λ fault. FailsAmong fault told old new)
    → OnOk other (is_late same alike.state ≡ false) → OnOk other (newer ≡ after_all next same alike)
    → IfErr other (λ fault. FailsAmong fault same alike newer) → WithMemory one other (one ≡ other)
run_results one other told same old alike new newer states inputs early ok err sooner then fails m n =
    (ends_alike one other told same old alike new newer states inputs early ok err sooner then fails m n).0

pub run_sessions : (one other : Result (Unit {0}) SessionFault) (told same : List Told) (old alike new newer : Seen)
    → old ≡ alike → same ≡ told → OnOk one (is_late told old.state ≡ false)
    → OnOk one (new ≡ after_all next told old) → IfErr one (λ fault. FailsAmong fault told old new)
    → OnOk other (is_late same alike.state ≡ false) → OnOk other (newer ≡ after_all next same alike)
    → IfErr other (λ fault. FailsAmong fault same alike newer) → WithMemory one other (new ≡ newer)
run_sessions one other told same old alike new newer states inputs early ok err sooner then fails m n =
    (ends_alike one other told same old alike new newer states inputs early ok err sooner then fails m n).1

pub ruleset runs = (runs_alike, run_results, run_sessions)

-- ---- single calls

-- an answer is known by what the model answers
same_answer : (one other : Answer) → answered one ≡ answered other → one ≡ other
same_answer answer.Did answer.Did e = refl
same_answer answer.Did (answer.Refused r) e = cc
same_answer (answer.Refused r) answer.Did e = cc
same_answer (answer.Refused r) (answer.Refused q) e = cc

-- what the model answers to a call of this result, of which it gives what is seen; refused memory has no answer
abbrev answer_by : {A : Type 0} → (A → Answered) → Result A SessionFault → Answered
answer_by seen (Ok a) = seen a
answer_by seen (Err (Refused r)) = refused r
answer_by seen (Err NoMemory) = halted
answer_by seen (Err Stopped) = halted

-- what the model answers to an input in equal sessions, and what becomes of them
module _ (told same : Told) (old alike new newer : Seen) (states : old ≡ alike) (inputs : same ≡ told) where
  same_steps : (one other : Answered) → Answers told old one new → Answers same alike other newer
      → (one ≡ other) × (new ≡ newer)
  same_steps one other p q = (
    sym p.1 ∙ ap (λ (s : Seen). (step told s.state).answer) states
        ∙ ap (λ told. (step told alike.state).answer) (sym inputs) ∙ q.1,
    p.2 ∙ ap (λ (s : Seen). took told s) states ∙ ap (λ told. took told alike) (sym inputs) ∙ sym q.2,
  )

  never_both : {X : Type 0} → old.state.stopped ≡ false → alike.state.stopped ≡ true → X
  never_both p q = absurd (let no : false ≡ true = sym p ∙ ap (λ (s : Seen). s.state.stopped) states ∙ q in cc)

  never_other : {X : Type 0} → old.state.stopped ≡ true → alike.state.stopped ≡ false → X
  never_other p q = absurd (let no : true ≡ false = sym p ∙ ap (λ (s : Seen). s.state.stopped) states ∙ q in cc)

  -- whatever inputs the failing calls name
  takes_alike : (bad worse : Told) (one other : Result Answer SessionFault) → IfOk one (λ a. Takes told old a new)
      → IfErr one (λ fault. FailsAt fault bad old new) → IfOk other (λ a. Takes same alike a newer)
      → IfErr other (λ fault. FailsAt fault worse alike newer) → HadMemory one → HadMemory other
      → (one ≡ other) × (new ≡ newer)
  takes_alike bad worse (Ok a) (Ok b) ok err then fails m n =
      let both = same_steps (answered a) (answered b) ok then in (ap Ok (same_answer a b both.0), both.1)
  takes_alike bad worse (Ok a) (Err (Refused r)) ok err then fails m n = absurd fails
  takes_alike bad worse (Ok a) (Err NoMemory) ok err then fails m n = absurd n
  takes_alike bad worse (Ok a) (Err Stopped) ok err then fails m n = never_both ok.0 fails.0
  takes_alike bad worse (Err (Refused r)) other ok err then fails m n = absurd err
  takes_alike bad worse (Err NoMemory) other ok err then fails m n = absurd m
  takes_alike bad worse (Err Stopped) (Ok b) ok err then fails m n = never_other err.0 then.0
  takes_alike bad worse (Err Stopped) (Err (Refused r)) ok err then fails m n = absurd fails
  takes_alike bad worse (Err Stopped) (Err NoMemory) ok err then fails m n = absurd n
  takes_alike bad worse (Err Stopped) (Err Stopped) ok err then fails m n =
      (refl, err.1 ∙ states ∙ sym fails.1)

  -- the same for a call that returns a refusal as a fault, and gives something of each closure
  gives_alike : {A B : Type 0} (seen : A → Answered) (shown : B → Answered) (one : Result A SessionFault)
      (other : Result B SessionFault) → IfOk one (λ a. Answers told old (seen a) new)
      → IfErr one (λ fault. RefusesAt fault told old new) → IfOk other (λ b. Answers same alike (shown b) newer)
      → IfErr other (λ fault. RefusesAt fault same alike newer) → HadMemory one → HadMemory other
      → (answer_by seen one ≡ answer_by shown other) × (new ≡ newer)
  gives_alike seen shown (Ok a) (Ok b) ok err then fails m n = same_steps (seen a) (shown b) ok then
  gives_alike seen shown (Ok a) (Err (Refused r)) ok err then fails m n =
      same_steps (seen a) (refused r) ok fails
  gives_alike seen shown (Ok a) (Err NoMemory) ok err then fails m n = absurd n
  gives_alike seen shown (Ok a) (Err Stopped) ok err then fails m n = never_both ok.0 fails.0
  gives_alike seen shown (Err (Refused r)) (Ok b) ok err then fails m n = same_steps (refused r) (shown b) err then
  gives_alike seen shown (Err (Refused r)) (Err (Refused q)) ok err then fails m n =
      same_steps (refused r) (refused q) err fails
  gives_alike seen shown (Err (Refused r)) (Err NoMemory) ok err then fails m n = absurd n
  gives_alike seen shown (Err (Refused r)) (Err Stopped) ok err then fails m n = never_both err.0 fails.0
  gives_alike seen shown (Err NoMemory) other ok err then fails m n = absurd m
  gives_alike seen shown (Err Stopped) (Ok b) ok err then fails m n = never_other err.0 then.0
  gives_alike seen shown (Err Stopped) (Err (Refused r)) ok err then fails m n = never_other err.0 fails.0
  gives_alike seen shown (Err Stopped) (Err NoMemory) ok err then fails m n = absurd n
  gives_alike seen shown (Err Stopped) (Err Stopped) ok err then fails m n =
      (refl, err.1 ∙ states ∙ sym fails.1)

-- tickets and native commands are known by what the model answers
same_ticket : (one other : Result ℕ SessionFault) → HadMemory one → HadMemory other
    → answer_by ticket one ≡ answer_by ticket other → one ≡ other
same_ticket (Ok a) (Ok b) m n e = ap Ok (let same : a ≡ b = cc in same)
same_ticket (Ok a) (Err (Refused r)) m n e = cc
same_ticket (Ok a) (Err NoMemory) m n e = absurd n
same_ticket (Ok a) (Err Stopped) m n e = cc
same_ticket (Err (Refused r)) (Ok b) m n e = cc
same_ticket (Err (Refused r)) (Err (Refused q)) m n e = ap Err (ap Refused (let same : r ≡ q = cc in same))
same_ticket (Err (Refused r)) (Err NoMemory) m n e = absurd n
same_ticket (Err (Refused r)) (Err Stopped) m n e = cc
same_ticket (Err NoMemory) other m n e = absurd m
same_ticket (Err Stopped) (Ok b) m n e = cc
same_ticket (Err Stopped) (Err (Refused q)) m n e = cc
same_ticket (Err Stopped) (Err NoMemory) m n e = absurd n
same_ticket (Err Stopped) (Err Stopped) m n e = refl

same_native : (one other : Result Native SessionFault) → HadMemory one → HadMemory other
    → answer_by gave one ≡ answer_by gave other → one ≡ other
same_native (Ok a) (Ok b) m n e = ap Ok (let same : a ≡ b = cc in same)
same_native (Ok a) (Err (Refused r)) m n e = cc
same_native (Ok a) (Err NoMemory) m n e = absurd n
same_native (Ok a) (Err Stopped) m n e = cc
same_native (Err (Refused r)) (Ok b) m n e = cc
same_native (Err (Refused r)) (Err (Refused q)) m n e = ap Err (ap Refused (let same : r ≡ q = cc in same))
same_native (Err (Refused r)) (Err NoMemory) m n e = absurd n
same_native (Err (Refused r)) (Err Stopped) m n e = cc
same_native (Err NoMemory) other m n e = absurd m
same_native (Err Stopped) (Ok b) m n e = cc
same_native (Err Stopped) (Err (Refused q)) m n e = cc
same_native (Err Stopped) (Err NoMemory) m n e = absurd n
same_native (Err Stopped) (Err Stopped) m n e = refl

pub takes_results : (told same bad worse : Told) (one other : Result Answer SessionFault) (old alike new newer : Seen)
    → old ≡ alike → same ≡ told → IfOk one (λ a. Takes told old a new)
    → IfErr one (λ fault. FailsAt fault bad old new) → IfOk other (λ a. Takes same alike a newer)
    → IfErr other (λ fault. FailsAt fault worse alike newer) → WithMemory one other (one ≡ other)
takes_results told same bad worse one other old alike new newer states inputs ok err then fails m n =
    (takes_alike told same old alike new newer states inputs bad worse one other ok err then fails m n).0

pub takes_sessions : (told same bad worse : Told) (one other : Result Answer SessionFault)
    (old alike new newer : Seen) → old ≡ alike → same ≡ told → IfOk one (λ a. Takes told old a new)
    → IfErr one (λ fault. FailsAt fault bad old new) → IfOk other (λ a. Takes same alike a newer)
    → IfErr other (λ fault. FailsAt fault worse alike newer) → WithMemory one other (new ≡ newer)
takes_sessions told same bad worse one other old alike new newer states inputs ok err then fails m n =
    (takes_alike told same old alike new newer states inputs bad worse one other ok err then fails m n).1

pub ruleset answers_alike = (takes_results, takes_sessions)

-- a reload, whose marks are those that the session found
pub reload_results : (bytes : List ℕ) (bad worse : Told) (one other : Result Answer SessionFault)
    (old alike new newer : Seen) → old ≡ alike → IfOk one (λ a. Takes (reload bytes (unread_rules new)) old a new)
    → IfErr one (λ fault. FailsAt fault bad old new)
    → IfOk other (λ a. Takes (reload bytes (unread_rules newer)) alike a newer)
    → IfErr other (λ fault. FailsAt fault worse alike newer)
    → unread_rules new ≡ unread_rules newer → WithMemory one other (one ≡ other)
reload_results bytes bad worse one other old alike new newer states ok err then fails same =
    takes_results (reload bytes (unread_rules new)) (reload bytes (unread_rules newer)) bad worse one other old alike
    new newer states (ap (reload bytes) (sym same)) ok err then fails

pub reload_sessions : (bytes : List ℕ) (bad worse : Told) (one other : Result Answer SessionFault)
    (old alike new newer : Seen) → old ≡ alike → IfOk one (λ a. Takes (reload bytes (unread_rules new)) old a new)
    → IfErr one (λ fault. FailsAt fault bad old new)
    → IfOk other (λ a. Takes (reload bytes (unread_rules newer)) alike a newer)
    → IfErr other (λ fault. FailsAt fault worse alike newer)
    → unread_rules new ≡ unread_rules newer → WithMemory one other (new ≡ newer)
reload_sessions bytes bad worse one other old alike new newer states ok err then fails same =
    takes_sessions (reload bytes (unread_rules new)) (reload bytes (unread_rules newer)) bad worse one other old alike
    new newer states (ap (reload bytes) (sym same)) ok err then fails

pub ruleset reloads_alike = (reload_results, reload_sessions)

-- a registration, by its ticket's number, without the closure that comes back
plain_ok : {C : Type 0} (one : Result Ticket (C × SessionFault)) (Q : ℕ → Type 0) → IfOk one (λ made. Q made.0)
    → IfOk (numbered one) Q
plain_ok (Ok made) Q ok = ok
plain_ok (Err e) Q ok = ok

plain_err : {C : Type 0} (one : Result Ticket (C × SessionFault)) (Q : SessionFault → Type 0)
    → IfErr one (λ e. Q e.1) → IfErr (numbered one) Q
plain_err (Ok made) Q err = err
plain_err (Err e) Q err = err

registers_alike : {C D : Type 0} (native same : Native) (one : Result Ticket (C × SessionFault))
    (other : Result Ticket (D × SessionFault)) (old alike new newer : Seen) → old ≡ alike → same ≡ native
    → IfOk one (λ made. Answers (register native) old (ticket made.0) new)
    → IfErr one (λ e. RefusesAt e.1 (register native) old new)
    → IfOk other (λ made. Answers (register same) alike (ticket made.0) newer)
    → IfErr other (λ e. RefusesAt e.1 (register same) alike newer)
    → HadMemory (numbered one) → HadMemory (numbered other)
    → (answer_by ticket (numbered one) ≡ answer_by ticket (numbered other)) × (new ≡ newer)
registers_alike native same one other old alike new newer states inputs ok err then fails m n =
    gives_alike (register native) (register same) old alike new newer states (ap register inputs)
    ticket ticket (numbered one) (numbered other)
    (plain_ok one (λ n. Answers (register native) old (ticket n) new) ok)
    (plain_err one (λ fault. RefusesAt fault (register native) old new) err)
    (plain_ok other (λ n. Answers (register same) alike (ticket n) newer) then)
    (plain_err other (λ fault. RefusesAt fault (register same) alike newer) fails) m n

pub register_results : {C D : Type 0} (native same : Native) (one : Result Ticket (C × SessionFault))
    (other : Result Ticket (D × SessionFault)) (old alike new newer : Seen) → old ≡ alike → same ≡ native
    → IfOk one (λ made. Answers (register native) old (ticket made.0) new)
    → IfErr one (λ e. RefusesAt e.1 (register native) old new)
    → IfOk other (λ made. Answers (register same) alike (ticket made.0) newer)
    → IfErr other (λ e. RefusesAt e.1 (register same) alike newer)
    → WithMemory (numbered one) (numbered other) (numbered one ≡ numbered other)
register_results native same one other old alike new newer states inputs ok err then fails m n =
    same_ticket (numbered one) (numbered other) m n
    (registers_alike native same one other old alike new newer states inputs ok err then fails m n).0

pub register_sessions : {C D : Type 0} (native same : Native) (one : Result Ticket (C × SessionFault))
    (other : Result Ticket (D × SessionFault)) (old alike new newer : Seen) → old ≡ alike → same ≡ native
    → IfOk one (λ made. Answers (register native) old (ticket made.0) new)
    → IfErr one (λ e. RefusesAt e.1 (register native) old new)
    → IfOk other (λ made. Answers (register same) alike (ticket made.0) newer)
    → IfErr other (λ e. RefusesAt e.1 (register same) alike newer)
    → WithMemory (numbered one) (numbered other) (new ≡ newer)
register_sessions native same one other old alike new newer states inputs ok err then fails m n =
    (registers_alike native same one other old alike new newer states inputs ok err then fails m n).1

pub ruleset tickets_alike = (register_results, register_sessions)

-- the end of a registration, with the native command of the closure that comes back
of_native : {C : Type 0} (stands_for : C → Native) (one : Result C SessionFault)
    → answer_by gave (with_native stands_for one) ≡ answer_by (λ c. gave (stands_for c)) one
of_native stands_for (Ok closure) = refl
of_native stands_for (Err (Refused r)) = refl
of_native stands_for (Err NoMemory) = refl
of_native stands_for (Err Stopped) = refl

had_too : {C : Type 0} (stands_for : C → Native) (one : Result C SessionFault) → HadMemory one
    → HadMemory (with_native stands_for one)
had_too stands_for (Ok closure) m = tt
had_too stands_for (Err (Refused r)) m = tt
had_too stands_for (Err NoMemory) m = absurd m
had_too stands_for (Err Stopped) m = tt

module _ {C D : Type 0} (stands_for : C → Native) (stands_too : D → Native) (number : ℕ)
    (one : Result C SessionFault) (other : Result D SessionFault) (old alike new newer : Seen) (states : old ≡ alike)
    (ok : IfOk one (λ c. Answers (dispose number) old (gave (stands_for c)) new))
    (err : IfErr one (λ fault. RefusesAt fault (dispose number) old new))
    (then : IfOk other (λ d. Answers (dispose number) alike (gave (stands_too d)) newer))
    (fails : IfErr other (λ fault. RefusesAt fault (dispose number) alike newer)) where
  disposes_alike : HadMemory one → HadMemory other
      → (answer_by (λ c. gave (stands_for c)) one ≡ answer_by (λ d. gave (stands_too d)) other) × (new ≡ newer)
  disposes_alike m n =
      gives_alike (dispose number) (dispose number) old alike new newer states refl
      (λ c. gave (stands_for c)) (λ d. gave (stands_too d)) one other ok err then fails m n

  pub dispose_results : WithMemory one other (with_native stands_for one ≡ with_native stands_too other)
  dispose_results m n =
      same_native (with_native stands_for one) (with_native stands_too other) (had_too stands_for one m)
      (had_too stands_too other n)
      (of_native stands_for one ∙ (disposes_alike m n).0 ∙ sym (of_native stands_too other))

  pub dispose_sessions : WithMemory one other (new ≡ newer)
  dispose_sessions m n = (disposes_alike m n).1

pub ruleset natives_alike = (dispose_results, dispose_sessions)

-- ---- scripts

came_or_broke : (said : List Said) (old new : Traced Stand) (before now : Option (List ℕ))
    → RunsOrBreaks said old new before now → CameTo move said old new.trace
came_or_broke said old new before now (inl ran) = came_whole move old said new ran.session
came_or_broke said old new before now (inr (inl stopped)) =
    let stops = stopped.among in record {
      done = stops.done;
      rest = stops.stopped_at ∷ stops.rest;
      whole = stops.whole;
      is = stops.trace;
    }
came_or_broke said old new before now (inr (inr lacks)) = record {
  done = lacks.done ++ lacks.last ∷ [];
  rest = lacks.rest;
  whole = lacks.whole ∙ sym (append_assoc lacks.done (lacks.last ∷ []) lacks.rest);
  is = ap (λ (t : Traced Stand). t.trace) lacks.session;
}

pub scripts_alike : ScriptsAlike
scripts_alike = record {
  whole = λ said old one other a b c d first second. first.session ∙ sym second.session;
  broken = λ said old one other a b c d first second.
      one_begins move old said one.trace other.trace (came_or_broke said old one a b first)
      (came_or_broke said old other c d second);
}
