-- Runs of a script whose session keeps all trace lines, or only those that were not written.
use Rattle.std.proofs.Common.{◌≡◌, true, false, ℕ, ◌+◌, List, [], ◌∷◌, ◌++◌, refl, sym, ap, ◌∙◌, subst}
use Rattle.std.proofs.Common.{append_assoc, append-nil, length, take, map}
use Rattle.std.specs.Prelude.{Option, option_to_list, Result, Ok, Err}
use Rattle.kb_base.specs.declared.failure.Failure.{Failure}
use Rattle.kb_base.specs.declared.failure.Failure.TheVariants.{NoMemory, Fault}
use Rattle.kb_core.specs.declared.native.Native.{Native}
use Rattle.kb_script.specs.declared.fault.ScriptFault.{ScriptFault}
use Rattle.kb_script.specs.declared.fault.ScriptFault.TheVariants as fault
use Rattle.kb_script.specs.declared.script_run.Kept.{Kept}
use Rattle.kb_script.specs.declared.script_run.Kept.TheVariants.{All, Unwritten}
use Rattle.kb_script.specs.Script.{line_said, said_from, said_of}
use Rattle.kb_script.specs.ScriptRun.{Answers, RunsSaid, BreaksOff, BreaksSaid, script_limit}
use Rattle.kb_script.specs.Shelf.{Stand, Said, move, Halts, beside}
use Rattle.kb_script.specs.Stream.{with_trace, EndIsLeft, IsLeft, IsLeftBroken, IsLeftBy, Streams, left_of}
use Rattle.kb_script.specs.Stream.{StreamsSaid, StreamBreaks}
use Rattle.kb_script.proofs.ScriptRuns.{RunsUpTo, up_to_start, up_to_step, up_to_end, up_to_halt, up_to_fail}
use Rattle.kb_script.proofs.ScriptRuns.{keeps_same, refuse_reading, refuse_line}
use Rattle.kb_session.specs.Session.{halt}
use Rattle.kb_session.specs.State.{State}
use Rattle.kb_stream.specs.Fold.{Traced, after_all, fold}
use Rattle.kb_stream.specs.FoldWriting.{RunsAndWrites, StopsAndWrites, LacksLines}
use Rattle.kb_stream.specs.Reading.{IsRead, FailsToRead}
use Rattle.kb_stream.specs.declared.reading.ReadFault.TheVariants as read
use Rattle.kb_stream.specs.declared.writing.WriteRefused.{WriteRefused}

take_before : {A : Type 0} (xs ys : List A) → take (length xs) (xs ++ ys) ≡ xs
take_before [] ys = refl
take_before (x ∷ xs) ys = ap (λ l. x ∷ l) (take_before xs ys)

-- ---- a run doesn't depend on the trace before it

-- the lines of a run
abbrev lines_of_run : List Said → Traced Stand → List (List ℕ)
lines_of_run said s = (fold move said s.state).lines

other_state : (said : List Said) (now new : Traced Stand) (t : List (List ℕ)) → new ≡ after_all move said now
    → with_trace (t ++ lines_of_run said now) new ≡ after_all move said (with_trace t now)
other_state said now new t e =
    ap (λ (s : Traced Stand). with_trace (t ++ lines_of_run said now) s) e

run_on : (lines : List Said) (now new : Traced Stand) (b c : Option (List ℕ)) (h : RunsSaid lines now new b c)
    (t : List (List ℕ))
    → RunsSaid lines (with_trace t now) (with_trace (t ++ lines_of_run h.said now) new) b c
run_on lines now new b c h t = record {
  said = h.said;
  tells = h.tells;
  marked = h.marked;
  ran = record { session = other_state h.said now new t h.ran.session; written = h.ran.written };
}

-- a run that broke off added some lines, and does so behind any trace
record Grows (failure : Failure WriteRefused) (said : List Said) (now new : Traced Stand)
    (b c : Option (List ℕ)) : Type 0 where
  more : List (List ℕ)
  trace : new.trace ≡ now.trace ++ more
  breaks : (t : List (List ℕ)) → BreaksOff failure said (with_trace t now) (with_trace (t ++ more) new) b c

grows : (failure : Failure WriteRefused) (said : List Said) (now new : Traced Stand) (b c : Option (List ℕ))
    → BreaksOff failure said now new b c → Grows failure said now new b c
grows NoMemory said now new b c p = record {
  more = lines_of_run p.among.done now;
  trace = p.among.trace;
  breaks = λ t. record {
    among = record {
      done = p.among.done;
      stopped_at = p.among.stopped_at;
      rest = p.among.rest;
      whole = p.among.whole;
      halts = p.among.halts;
      trace = refl;
    };
    written = p.written;
  };
}
grows (Fault refused) said now new b c p =
    let said_so_far = p.done ++ p.last ∷ [] in
    record {
      more = lines_of_run said_so_far now;
      trace = ap (λ (s : Traced Stand). s.trace) p.session;
      breaks = λ t. record {
        done = p.done;
        last = p.last;
        rest = p.rest;
        whole = p.whole;
        session = other_state said_so_far now new t p.session;
        written = p.written;
        lines_done = p.lines_done;
        part_of_last = p.part_of_last;
      };
    }

-- ---- the lines so far

-- the first lines ran, the others remain, and of the trace lines those are left that are to be kept
pub record StreamsUpTo (kept : Kept) (said : List Said) (old now : Traced Stand)
    (before written : Option (List ℕ)) (rest : List Said) : Type 0 where
  pub all : List (List ℕ)
  pub runs : RunsUpTo said old (with_trace all now) before written rest
  pub trace : IsLeft kept old.trace all now.trace

start_left : (kept : Kept) (lines : List (List ℕ)) → IsLeft kept lines lines lines
start_left All lines = refl
start_left Unwritten lines = refl

pub stream_start : (kept : Kept) (said : List Said) (old : Traced Stand) (a : Option (List ℕ))
    → StreamsUpTo kept said old old a a said
stream_start kept said old a = record {
  all = old.trace;
  runs = up_to_start said old a;
  trace = start_left kept old.trace;
}

next_left : (kept : Kept) (before all now more new next : List (List ℕ)) (mark : ℕ) → mark ≡ length before
    → IsLeft kept before all now → new ≡ now ++ more → next ≡ left_of kept mark new
    → IsLeft kept before (all ++ more) next
next_left All before all now more new next mark m left grown cut =
    cut ∙ grown ∙ ap (λ l. l ++ more) left
next_left Unwritten before all now more new next mark m left grown cut =
    cut ∙ ap (take mark) (grown ∙ ap (λ l. l ++ more) left)
    ∙ ap (λ n. take n (before ++ more)) m ∙ take_before before more

pub stream_step : (kept : Kept) (said : List Said) (old now new next : Traced Stand) (a b c : Option (List ℕ))
    (number mark : ℕ) (lines more : List (List ℕ)) (line : List ℕ)
    → StreamsUpTo kept said old now a b (said_from number lines) → lines ≡ line ∷ more
    → RunsSaid (option_to_list (line_said number line)) now new b c → mark ≡ length old.trace
    → next.state ≡ new.state → next.trace ≡ left_of kept mark new.trace
    → StreamsUpTo kept said old next a c (said_from (number + 1) more)
stream_step kept said old now new next a b c number mark lines more line p e q m same cut =
    let added = lines_of_run q.said now in
    record {
      all = p.all ++ added;
      runs = subst (λ (s : Stand). RunsUpTo said old (record { state = s; trace = p.all ++ added }) a c
          (said_from (number + 1) more)) (sym same)
          (up_to_step said old (with_trace p.all now) (with_trace (p.all ++ added) new) a b c number lines more
          line p.runs e (run_on (option_to_list (line_said number line)) now new b c q p.all));
      trace = next_left kept old.trace p.all now.trace added new.trace next.trace mark m p.trace
          (ap (λ (s : Traced Stand). s.trace) q.ran.session) cut;
    }

pub stream_end : (kept : Kept) (said : List Said) (old now : Traced Stand) (a b : Option (List ℕ))
    → StreamsUpTo kept said old now a b [] → StreamsSaid kept said old now a b
stream_end kept said old now a b p = record {
  all = p.all;
  runs = up_to_end said old (with_trace p.all now) a b p.runs;
  trace = p.trace;
}

pub stream_halt : (kept : Kept) (said : List Said) (old now : Traced Stand) (a b : Option (List ℕ)) (number : ℕ)
    (more : List (List ℕ)) → StreamsUpTo kept said old now a b (said_from number more)
    → now.state.state.stopped ≡ true → StreamsSaid kept said old now a b
stream_halt kept said old now a b number more p stopped = record {
  all = p.all;
  runs = up_to_halt said old (with_trace p.all now) a b number more p.runs stopped;
  trace = p.trace;
}

broken_left : (kept : Kept) (before all now more new done : List (List ℕ)) → IsLeft kept before all now
    → all ≡ before ++ done → new ≡ now ++ more → IsLeftBroken kept before (all ++ more) new
broken_left All before all now more new done left so_far grown = grown ∙ ap (λ l. l ++ more) left
broken_left Unwritten before all now more new done left so_far grown = record {
  dropped = done;
  last = more;
  all_are = ap (λ l. l ++ more) so_far ∙ append_assoc before done more;
  left_are = grown ∙ ap (λ l. l ++ more) left;
}

pub stream_fail : (kept : Kept) (said : List Said) (old now new : Traced Stand) (a b c : Option (List ℕ))
    (number : ℕ) (lines more : List (List ℕ)) (line : List ℕ) (failure : Failure WriteRefused)
    → StreamsUpTo kept said old now a b (said_from number lines) → lines ≡ line ∷ more
    → BreaksSaid failure (option_to_list (line_said number line)) now new b c
    → StreamBreaks kept failure said old new a c
stream_fail kept said old now new a b c number lines more line failure p e q =
    let g = grows failure q.said now new b c q.breaks in
    record {
      all = p.all ++ g.more;
      breaks = up_to_fail said old (with_trace p.all now) (with_trace (p.all ++ g.more) new) a b c number lines
          more line failure p.runs e (record {
            said = q.said;
            tells = q.tells;
            marked = q.marked;
            breaks = g.breaks p.all;
          });
      trace = broken_left kept old.trace p.all now.trace g.more new.trace (lines_of_run p.runs.done old) p.trace
          (ap (λ (s : Traced Stand). s.trace) p.runs.ran.session) g.trace;
    }

pub ruleset progress = (stream_start)

-- ---- a whole script

same_left : (kept : Kept) (lines : List (List ℕ)) → IsLeftBroken kept lines lines lines
same_left All lines = refl
same_left Unwritten lines = record {
  dropped = [];
  last = [];
  all_are = sym (append-nil lines);
  left_are = sym (append-nil lines);
}

pub reading_refused : (kept : Kept) (had left : Option (List ℕ)) (old new : Traced State) (shelf : List Native)
    (a : Option (List ℕ)) → FailsToRead NoMemory had left script_limit → new ≡ halt old
    → Streams kept (Err NoMemory) had left (beside old shelf) (beside new shelf) a a
reading_refused kept had left old new shelf a reader is = record {
  all = new.trace;
  answers = refuse_reading had left old new shelf a reader is;
  trace = subst (λ (l : List (List ℕ)). IsLeftBroken kept old.trace l l)
      (sym (ap (λ (s : Traced State). s.trace) is)) (same_left kept old.trace);
}

pub too_long : (kept : Kept) (had left : Option (List ℕ)) (old : Traced Stand) (a : Option (List ℕ))
    → FailsToRead (Fault read.TooLong) had left script_limit
    → Streams kept (Err (Fault fault.TooLong)) had left old old a a
too_long kept had left old a reader = record {
  all = old.trace;
  answers = record { reader = reader; nothing = record { session = refl; written = keeps_same a } };
  trace = same_left kept old.trace;
}

pub reading_failed : (kept : Kept) (had left : Option (List ℕ)) (old : Traced Stand) (a : Option (List ℕ))
    → FailsToRead (Fault read.Failed) had left script_limit
    → Streams kept (Err (Fault fault.ReadFailed)) had left old old a a
reading_failed kept had left old a reader = record {
  all = old.trace;
  answers = record { reader = reader; nothing = record { session = refl; written = keeps_same a } };
  trace = same_left kept old.trace;
}

pub was_stopped : (kept : Kept) (had left : Option (List ℕ)) (script : List ℕ) (old : Traced Stand)
    (a : Option (List ℕ)) → IsRead had left script_limit script → old.state.state.stopped ≡ true
    → Streams kept (Err (Fault fault.Stopped)) had left old old a a
was_stopped kept had left script old a is_read stopped = record {
  all = old.trace;
  answers = record {
    script = script;
    read = is_read;
    stopped = stopped;
    nothing = record { session = refl; written = keeps_same a };
  };
  trace = same_left kept old.trace;
}

pub ran_whole : (kept : Kept) (had left : Option (List ℕ)) (script : List ℕ) (old new : Traced Stand)
    (a b : Option (List ℕ)) → IsRead had left script_limit script → old.state.state.stopped ≡ false
    → StreamsSaid kept (said_of script) old new a b → new.state.state.stopped ≡ false
    → Streams kept (Ok tt) had left old new a b
ran_whole kept had left script old new a b is_read running p runs_on = record {
  all = p.all;
  answers = record {
    script = script;
    read = is_read;
    was_running = running;
    said = p.runs.said;
    tells = p.runs.tells;
    marked = p.runs.marked;
    ran = p.runs.ran;
    runs_on = runs_on;
  };
  trace = p.trace;
}

pub was_trapped : (kept : Kept) (had left : Option (List ℕ)) (script : List ℕ) (old new : Traced Stand)
    (a b : Option (List ℕ)) → IsRead had left script_limit script → old.state.state.stopped ≡ false
    → StreamsSaid kept (said_of script) old new a b → new.state.state.stopped ≡ true
    → Streams kept (Err (Fault fault.Trapped)) had left old new a b
was_trapped kept had left script old new a b is_read running p stopped = record {
  all = p.all;
  answers = record {
    script = script;
    read = is_read;
    was_running = running;
    said = p.runs.said;
    tells = p.runs.tells;
    marked = p.runs.marked;
    ran = p.runs.ran;
    stopped = stopped;
  };
  trace = p.trace;
}

pub line_refused : (kept : Kept) (had left : Option (List ℕ)) (script : List ℕ) (old new : Traced Stand)
    (a b : Option (List ℕ)) → IsRead had left script_limit script → old.state.state.stopped ≡ false
    → StreamBreaks kept NoMemory (said_of script) old new a b → Streams kept (Err NoMemory) had left old new a b
line_refused kept had left script old new a b is_read running p = record {
  all = p.all;
  answers = refuse_line had left script old (with_trace p.all new) a b is_read running p.breaks;
  trace = p.trace;
}

pub lines_lacked : (kept : Kept) (had left : Option (List ℕ)) (script : List ℕ) (old new : Traced Stand)
    (a b : Option (List ℕ)) (refused : WriteRefused) → IsRead had left script_limit script
    → old.state.state.stopped ≡ false → StreamBreaks kept (Fault refused) (said_of script) old new a b
    → Streams kept (Err (Fault fault.WriteFailed)) had left old new a b
lines_lacked kept had left script old new a b refused is_read running p = record {
  all = p.all;
  answers = record {
    script = script;
    read = is_read;
    was_running = running;
    said = p.breaks.said;
    tells = p.breaks.tells;
    marked = p.breaks.marked;
    lacks = p.breaks.breaks;
  };
  trace = p.trace;
}

pub ruleset refusing = (
  reading_refused,
  too_long,
  reading_failed,
  was_stopped,
  ran_whole,
  was_trapped,
  line_refused,
  lines_lacked,
)

-- a session that keeps all lines has them
has_all : (ran : Result (Unit {0}) (Failure ScriptFault)) (before all left : List (List ℕ))
    → IsLeftBy All ran before all left → left ≡ all
has_all (Ok done) before all left h = h
has_all (Err NoMemory) before all left h = h
has_all (Err (Fault fault.Stopped)) before all left h = h
has_all (Err (Fault fault.TooLong)) before all left h = h
has_all (Err (Fault fault.ReadFailed)) before all left h = h
has_all (Err (Fault fault.WriteFailed)) before all left h = h
has_all (Err (Fault fault.Trapped)) before all left h = h

pub all_kept : (ran : Result (Unit {0}) (Failure ScriptFault)) (had left : Option (List ℕ))
    (old new : Traced Stand) (a b : Option (List ℕ)) → Streams All ran had left old new a b
    → Answers ran had left old new a b
all_kept ran had left old new a b p =
    subst (λ (l : List (List ℕ)). Answers ran had left old (with_trace l new) a b)
    (sym (has_all ran old.trace p.all new.trace p.trace)) p.answers

pub ruleset whole = (all_kept)
