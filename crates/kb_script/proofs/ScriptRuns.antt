-- Lines of a script that run one after the other.
use Rattle.std.proofs.Common.{◌≡◌, true, false, ℕ, ◌+◌, List, [], ◌∷◌, ◌++◌, refl, sym, ap, ◌∙◌, subst}
use Rattle.std.proofs.Common.{inl, inr}
use Rattle.std.proofs.Common.{append_assoc, append-nil, length, drop, map, arith}
use Rattle.std.proofs.Math.Seq.{drop-append_seam}
use Rattle.std.specs.Prelude.{Option, Some, None, option_map, option_to_list, IsSome}
use Rattle.std.specs.Io.KnownBytes.{Appends, Keeps}
use Rattle.kb_base.specs.declared.failure.Failure.{Failure}
use Rattle.kb_base.specs.declared.failure.Failure.TheVariants.{NoMemory, Fault}
use Rattle.kb_base.specs.declared.note.EntryPattern.{EntryPattern}
use Rattle.kb_core.specs.declared.native.Native.{Native}
use Rattle.kb_script.specs.Script.{line_said, said_from, said_of, bare}
use Rattle.kb_script.specs.ScriptRun.{AreRightlySaid, RunsSaid, BreaksOff, BreaksSaid, MemoryRefused}
use Rattle.kb_script.specs.ScriptRun.{marked, script_limit, with_marks}
use Rattle.kb_script.specs.Shelf.{Stand, Said, move, move_unless, Halts, beside}
use Rattle.kb_script.proofs.BareLemmas.{bare_line, bare_from, bare_marked}
use Rattle.kb_script.proofs.RightLemmas.{all_right-append, right_line, right_line-bare, right_lines}
use Rattle.kb_script.proofs.RightLemmas.{right_lines-bare, right_said}
use Rattle.kb_session.specs.Session.{halt}
use Rattle.kb_session.specs.State.{State}
use Rattle.kb_stream.specs.Fold.{Traced, after_all, fold, nothing}
use Rattle.kb_stream.specs.FoldWriting.{RunsAndWrites, StopsAndWrites, LacksLines}
use Rattle.kb_stream.specs.Reading.{IsRead, FailsToRead}
use Rattle.kb_stream.specs.Writing.{text_of_lines, AppendsPart}
use Rattle.kb_stream.specs.declared.writing.WriteRefused.{WriteRefused}
use Rattle.std.proofs.lemmas.List.{length-append, map-append}
use Rattle.kb_stream.proofs.FoldLemmas.{after_all-one, fold-one, fold-still}
use Rattle.kb_stream.proofs.FoldWritingLemmas as f

-- some lines ran, and then the run broke off in later ones
fail_later : (failure : Failure WriteRefused) (xs ys : List Said) (old mid new : Traced Stand)
    (a b c : Option (List ℕ)) → RunsAndWrites move xs old mid a b → BreaksOff failure ys mid new b c
    → BreaksOff failure (xs ++ ys) old new a c
fail_later NoMemory xs ys old mid new a b c p q = f.stop_later move Halts xs ys old mid new a b c p q
fail_later (Fault refused) xs ys old mid new a b c p q = f.lack_later move xs ys old mid new a b c p q

-- later lines don't matter
fail_before : (failure : Failure WriteRefused) (xs ys : List Said) (old new : Traced Stand)
    (a b : Option (List ℕ)) → BreaksOff failure xs old new a b → BreaksOff failure (xs ++ ys) old new a b
fail_before NoMemory xs ys old new a b p = f.stop_before move Halts xs ys old new a b p
fail_before (Fault refused) xs ys old new a b p = f.lack_before move xs ys old new a b p

-- the first lines ran, with right marks for their reloads, and the others remain
pub record RunsUpTo (said : List Said) (old now : Traced Stand) (before written : Option (List ℕ))
    (rest : List Said) : Type 0 where
  pub done : List Said
  pub whole : said ≡ map bare done ++ rest
  pub marked : AreRightlySaid done
  pub ran : RunsAndWrites move done old now before written

pub up_to_start : (said : List Said) (old : Traced Stand) (a : Option (List ℕ)) → RunsUpTo said old old a a said
up_to_start said old a = record { done = []; whole = refl; marked = tt; ran = f.write_none move old a }

line_first : (number : ℕ) (lines : List (List ℕ)) (line : List ℕ) (more : List (List ℕ)) → lines ≡ line ∷ more
    → said_from number lines ≡ option_to_list (line_said number line) ++ said_from (number + 1) more
line_first number lines line more e = ap (λ (ls : List (List ℕ)). said_from number ls) e

pub up_to_step : (said : List Said) (old now new : Traced Stand) (a b c : Option (List ℕ)) (number : ℕ)
    (lines more : List (List ℕ)) (line : List ℕ) → RunsUpTo said old now a b (said_from number lines)
    → lines ≡ line ∷ more → RunsSaid (option_to_list (line_said number line)) now new b c
    → RunsUpTo said old new a c (said_from (number + 1) more)
up_to_step said old now new a b c number lines more line p e q =
    let here = option_to_list (line_said number line) in
    let after = said_from (number + 1) more in
    record {
      done = p.done ++ q.said;
      whole = p.whole ∙ ap (λ (xs : List Said). map bare p.done ++ xs) (line_first number lines line more e)
          ∙ sym (append_assoc (map bare p.done) here after)
          ∙ ap (λ (xs : List Said). (map bare p.done ++ xs) ++ after) (sym q.tells)
          ∙ ap (λ (xs : List Said). xs ++ after) (sym (map-append bare p.done q.said));
      marked = all_right-append p.done q.said p.marked q.marked;
      ran = f.write_more move p.done q.said old now new a b c p.ran q.ran;
    }

pub up_to_end : (said : List Said) (old now : Traced Stand) (a b : Option (List ℕ))
    → RunsUpTo said old now a b [] → RunsSaid said old now a b
up_to_end said old now a b p = record {
  said = p.done;
  tells = sym (p.whole ∙ append-nil (map bare p.done));
  marked = p.marked;
  ran = p.ran;
}

-- lines that don't run have right marks too
right_from : (number : ℕ) (lines : List (List ℕ))
    → map bare (map right_said (said_from number lines)) ≡ said_from number lines
right_from number lines = right_lines-bare (said_from number lines) ∙ bare_from number lines

-- a stopped session ignores all lines
move_stopped : (said : List Said) (s : Stand) → s.state.stopped ≡ true → fold move said s ≡ nothing s
move_stopped = fold-still move (λ s. s.state.stopped ≡ true) (λ x s h. ap (λ b. move_unless b x s) h)

-- so it did all lines, if it was stopped on the way
pub up_to_halt : (said : List Said) (old now : Traced Stand) (a b : Option (List ℕ)) (number : ℕ)
    (more : List (List ℕ)) → RunsUpTo said old now a b (said_from number more)
    → now.state.state.stopped ≡ true → RunsSaid said old now a b
up_to_halt said old now a b number more p stopped =
    let rest = map right_said (said_from number more) in
    record {
      said = p.done ++ rest;
      tells = map-append bare p.done rest
          ∙ ap (λ (xs : List Said). map bare p.done ++ xs) (right_from number more) ∙ sym p.whole;
      marked = all_right-append p.done rest p.marked (right_lines (said_from number more));
      ran = f.write_rest move p.done rest old now a b p.ran (move_stopped rest now.state stopped);
    }

pub up_to_fail : (said : List Said) (old now new : Traced Stand) (a b c : Option (List ℕ)) (number : ℕ)
    (lines more : List (List ℕ)) (line : List ℕ) (failure : Failure WriteRefused)
    → RunsUpTo said old now a b (said_from number lines) → lines ≡ line ∷ more
    → BreaksSaid failure (option_to_list (line_said number line)) now new b c
    → BreaksSaid failure said old new a c
up_to_fail said old now new a b c number lines more line failure p e q =
    let here = option_to_list (line_said number line) in
    let after = map right_said (said_from (number + 1) more) in
    record {
      said = p.done ++ (q.said ++ after);
      tells = map-append bare p.done (q.said ++ after)
          ∙ ap (λ (xs : List Said). map bare p.done ++ xs) (map-append bare q.said after)
          ∙ ap (λ (xs : List Said). map bare p.done ++ (xs ++ map bare after)) q.tells
          ∙ ap (λ (xs : List Said). map bare p.done ++ (here ++ xs)) (right_from (number + 1) more)
          ∙ ap (λ (xs : List Said). map bare p.done ++ xs) (sym (line_first number lines line more e))
          ∙ sym p.whole;
      marked = all_right-append p.done (q.said ++ after) p.marked
          (all_right-append q.said after q.marked (right_lines (said_from (number + 1) more)));
      breaks = fail_later failure p.done (q.said ++ after) old now new a b c p.ran
          (fail_before failure q.said after now new b c q.breaks);
    }

pub ruleset progress = (up_to_start, up_to_step)

-- the new lines of the trace
new_lines : (said : List Said) (old new : Traced Stand) (n : ℕ) → new ≡ after_all move said old
    → n ≡ length old.trace → drop n new.trace ≡ (fold move said old.state).lines
new_lines said old new n session before =
    rw (before, session) (drop-append_seam old.trace (fold move said old.state).lines)

-- the meaning of a line, with these marks
abbrev said_at : List EntryPattern → ℕ → List ℕ → List Said
said_at marks number line = with_marks marks (line_said number line)

-- a line ran, and its trace lines are written
pub line_on : (marks : List EntryPattern) (number : ℕ) (line : List ℕ) (read : Option Said)
    (old new : Traced Stand) (a b : Option (List ℕ)) (n : ℕ) → read ≡ line_said number line
    → new ≡ after_all move (with_marks marks read) old → AreRightlySaid (with_marks marks read)
    → n ≡ length old.trace → Appends a b (text_of_lines (drop n new.trace))
    → RunsSaid (option_to_list (line_said number line)) old new a b
line_on marks number line read old new a b n is moved right before written =
    let said = said_at marks number line in
    let session : new ≡ after_all move said old =
    moved ∙ ap (λ (o : Option Said). after_all move (with_marks marks o) old) is in
    record {
      said = said;
      tells = bare_marked marks (line_said number line) ∙ bare_line number line;
      marked = subst (λ (o : Option Said). AreRightlySaid (with_marks marks o)) is right;
      ran = record {
        session = session;
        written = subst (λ (l : List (List ℕ)). Appends a b (text_of_lines l))
            (new_lines said old new n session before) written;
      };
    }

none_lacks : {A : Type 0} (old new : Option (List ℕ)) → AppendsPart old new [] → A
none_lacks old new part =
    let empty : 0 ≡ length (part.part ++ part.rest) = ap length part.whole in
    absurd (omega (arith, simp length-append at empty, part.missing))

lacks : (said : Option Said) (old new : Traced Stand) (a b : Option (List ℕ)) (n : ℕ)
    → new ≡ after_all move (option_to_list said) old → n ≡ length old.trace
    → AppendsPart a b (text_of_lines (drop n new.trace)) → LacksLines move (option_to_list said) old new a b
lacks None old new a b n session before part =
    none_lacks a b (subst (λ (l : List (List ℕ)). AppendsPart a b (text_of_lines l))
    (new_lines [] old new n session before) part)
lacks (Some said) old new a b n session before part =
    f.lack_one move said old new a b (session ∙ after_all-one move said old)
    (subst (λ (l : List (List ℕ)). AppendsPart a b (text_of_lines l))
    (new_lines (said ∷ []) old new n session before ∙ ap (λ o. o.lines) (fold-one move said old.state)) part)

-- a line ran, and its trace lines are not all written
pub line_lacks : (marks : List EntryPattern) (number : ℕ) (line : List ℕ) (read : Option Said)
    (old new : Traced Stand) (a b : Option (List ℕ)) (n : ℕ) (refused : WriteRefused)
    → read ≡ line_said number line → new ≡ after_all move (with_marks marks read) old
    → AreRightlySaid (with_marks marks read) → n ≡ length old.trace
    → AppendsPart a b (text_of_lines (drop n new.trace))
    → BreaksSaid (Fault refused) (option_to_list (line_said number line)) old new a b
line_lacks marks number line read old new a b n refused is moved right before part =
    let session : new ≡ after_all move (said_at marks number line) old =
    moved ∙ ap (λ (o : Option Said). after_all move (with_marks marks o) old) is in
    record {
      said = said_at marks number line;
      tells = bare_marked marks (line_said number line) ∙ bare_line number line;
      marked = subst (λ (o : Option Said). AreRightlySaid (with_marks marks o)) is right;
      breaks = lacks (option_map (marked marks) (line_said number line)) old new a b n session before part;
    }

pub keeps_same : (a : Option (List ℕ)) → Keeps a a
keeps_same None = tt
keeps_same (Some bytes) = refl

stops_now : (said : Option Said) (old new : Traced Stand) (a : Option (List ℕ)) → IsSome said
    → Halts old.state new.state → new.trace ≡ old.trace
    → StopsAndWrites move Halts (option_to_list (option_map right_said said)) old new a a
stops_now None old new a some halts same = absurd (let no : false ≡ true = some in cc)
stops_now (Some said) old new a some halts same =
    f.stop_now move Halts (right_said said) [] old new a a halts same (keeps_same a)

-- memory was refused to a line
pub line_stops : (number : ℕ) (line : List ℕ) (old new : Traced Stand) (a : Option (List ℕ))
    → IsSome (line_said number line) → Halts old.state new.state → new.trace ≡ old.trace
    → BreaksSaid NoMemory (option_to_list (line_said number line)) old new a a
line_stops number line old new a some halts same = record {
  said = option_to_list (option_map right_said (line_said number line));
  tells = right_line-bare (line_said number line) ∙ bare_line number line;
  marked = right_line (line_said number line);
  breaks = stops_now (line_said number line) old new a some halts same;
}

-- memory was refused to a line that was read
pub read_stops : (number : ℕ) (line : List ℕ) (read : Option Said) (old new : Traced Stand)
    (a : Option (List ℕ)) → read ≡ line_said number line → IsSome read → Halts old.state new.state
    → new.trace ≡ old.trace → BreaksSaid NoMemory (option_to_list (line_said number line)) old new a a
read_stops number line read old new a is some halts same =
    line_stops number line old new a (subst (λ (o : Option Said). IsSome o) is some) halts same

pub ruleset one_line = (line_stops, read_stops)

-- memory is refused while the script is read
pub refuse_reading : (had left : Option (List ℕ)) (old new : Traced State) (shelf : List Native)
    (a : Option (List ℕ)) → FailsToRead NoMemory had left script_limit → new ≡ halt old
    → MemoryRefused had left (beside old shelf) (beside new shelf) a a
refuse_reading had left old new shelf a reader is = inl (record {
  reader = reader;
  session = ap (λ (s : Traced State). beside s shelf) is;
  written = keeps_same a;
})

-- memory is refused in a line
pub refuse_line : (had left : Option (List ℕ)) (script : List ℕ) (old new : Traced Stand)
    (before after : Option (List ℕ)) → IsRead had left script_limit script
    → old.state.state.stopped ≡ false → BreaksSaid NoMemory (said_of script) old new before after
    → MemoryRefused had left old new before after
refuse_line had left script old new before after read running breaks = inr (record {
  script = script;
  read = read;
  was_running = running;
  said = breaks.said;
  tells = breaks.tells;
  marked = breaks.marked;
  stops = breaks.breaks;
})

pub ruleset refusing = (refuse_reading, refuse_line)
