-- Lines on standard error, and what was read of the files that options name.
use Rattle.std.proofs.Common.{◌≡◌, ◌<◌, ◌≤◌, ◌+◌, ◌++◌, Bool, List, [], ◌∷◌, ℕ, drop, length, get_or, ◌∙◌, refl, sym, ap, subst, inl, inr, append-nil}
use Rattle.std.proofs.KnownBytes.{Appends-nil, Appends-trans}
use Rattle.std.proofs.lemmas.List.{drop_more, drop_all}
use Rattle.std.specs.Borrow.{Bor}
use Rattle.std.specs.Prelude.{true, false, Option, Some, None, Result, Ok, Err, option_map, unwrap_or}
use Rattle.std.specs.Io.KnownBytes.{append_known}
use Rattle.kb_base.specs.declared.failure.Failure.{Failure}
use Rattle.kb_core.specs.declared.native.Native.{Native}
use Rattle.kb_base.specs.declared.failure.Failure.TheVariants as failure
use Rattle.kb_disk.specs.Files.{Held, unknown, refuses, holds, Opens, NamesFile}
use Rattle.kb_disk.specs.declared.cannot_read.CannotRead.{CannotRead}
use Rattle.kb_base.specs.Note.{warning_line}
use Rattle.kb_run.specs.ExitStatus.{load_stop, read_stop, script_stop}
use Rattle.kb_run.specs.Voice.{Heard, Says}
use Rattle.kb_run.specs.declared.outcome.Stop.{Stop}
use Rattle.kb_disk.specs.LoadFiles.{FailsReadingFiles, HasFiles}
use Rattle.kb_run.specs.Run.{FailsToLoad, FileMissing, HasScript}
use Rattle.kb_run.specs.Run.{FailsAtScript, IsLoaded, LoadsBy, Outputs, Silent}
use Rattle.kb_run.specs.Run.{script_bytes, warning_text, Plays, Flushes}
use Rattle.kb_script.specs.Shelf.{Stand}
use Rattle.kb_script.specs.Stream.{Streams, with_trace}
use Rattle.kb_script.specs.declared.fault.ScriptFault.{ScriptFault}
use Rattle.kb_script.specs.declared.script_run.Kept.TheVariants.{Unwritten}
use Rattle.kb_disk.specs.declared.options.Options.{Options}
use Rattle.kb_files.specs.Inputs.{Files}
use Rattle.kb_run.specs.declared.setup.Verification.{Verification}
use Rattle.kb_run.specs.declared.setup.Verification.TheVariants.{Verified, Raw}
use Rattle.kb_session.specs.State.{State}
use Rattle.kb_stream.specs.Fold.{Traced}
use Rattle.kb_bindings.specs.Sources.{Sources, source_of}
use Rattle.kb_files.specs.declared.fault.LoadFault.{LoadFault}
use Rattle.kb_base.specs.declared.note.Warning.{Warning}

-- a script was run whose session keeps no line that was written
pub plays : (had left : Option (List ℕ)) (old new : Traced Stand) (before written has : Option (List ℕ))
    (ran : Result (Unit {0}) (Failure ScriptFault)) (is_flushed : Bool) (end : Result (Unit {0}) Stop)
    → Streams Unwritten ran had left old new before written → Flushes is_flushed written has
    → end ≡ script_stop ran is_flushed → Plays had left old before has end
plays had left old new before written has ran is_flushed end streams flushes is = record {
  ran = ran;
  is_flushed = is_flushed;
  written = written;
  new = with_trace streams.all new;
  answers = streams.answers;
  flushes = flushes;
  end_is = is;
}

pub ruleset playing = (plays)

says_nothing : (before : Heard) → Says before before []
says_nothing before = record {
  written = λ whole. (whole, Appends-nil before.said);
  lost = λ whole gone. absurd (let no : true ≡ false = sym whole ∙ gone in cc);
  stays = λ broken. broken;
}

says_more : (a b c : Heard) (first rest : List ℕ) → Says a b first → Says b c rest → Says a c (first ++ rest)
says_more a b c first rest p q = record {
  written = λ whole.
      let later = q.written whole in
      let sooner = p.written later.0 in
      (sooner.0, Appends-trans a.said b.said c.said first rest sooner.1 later.1);
  lost = λ whole gone. either b.whole refl whole gone;
  stays = λ broken. q.stays (p.stays broken);
} where
  either : (is : Bool) → b.whole ≡ is → a.whole ≡ true → c.whole ≡ false → c.broken ≡ true
  either true is whole gone = q.lost is gone
  either false is whole gone = q.stays (p.lost whole is)

-- a warning, and then those behind it
pub warned_one : (sources : Sources) (before mid end : Heard) (warnings : List Warning) (i : ℕ) (d : Warning)
    (source : List ℕ) → i < length warnings → source ≡ source_of sources (get_or warnings i d).origin
    → Says before mid (warning_line source (get_or warnings i d) ++ 10 ∷ [])
    → Says mid end (warning_text sources (drop (i + 1) warnings))
    → Says before end (warning_text sources (drop i warnings))
warned_one sources before mid end warnings i d source below is first rest =
    let named = subst (λ s. Says before mid (warning_line s (get_or warnings i d) ++ 10 ∷ [])) is first in
    rw (drop_more warnings i d below) (says_more before mid end _ _ named rest)

pub warned_none : (sources : Sources) (before : Heard) (warnings : List Warning) (i : ℕ) → length warnings ≤ i
    → Says before before (warning_text sources (drop i warnings))
warned_none sources before warnings i past = rw (drop_all i warnings past) (says_nothing before)

pub warned_all : (sources : Sources) (before end : Heard) (warnings all : List Warning) → warnings ≡ all
    → Says before end (warning_text sources warnings) → Says before end (warning_text sources all)
warned_all sources before end warnings all are says =
    subst (λ xs. Says before end (warning_text sources xs)) are says

-- a load that fails stops the run
pub load_fails : (verification : Verification) (files : Files) (natives : List Native) (failed : Failure LoadFault)
    → LoadsBy verification files natives (Err failed) → FailsToLoad verification files natives (load_stop failed)
load_fails verification files natives failure.NoMemory fails = tt
load_fails Verified files natives (failure.Fault fault) fails = fails
load_fails Raw files natives (failure.Fault fault) fails = fails

-- what was loaded
pub session_loaded : (verification : Verification) (files : Files) (natives : List Native) (session : Traced State)
    → LoadsBy verification files natives (Ok session) → IsLoaded verification files natives session
session_loaded Verified files natives session is = is
session_loaded Raw files natives session is = is

pub nothing_left : (had : Option (List ℕ)) → had ≡ append_known had []
nothing_left None = refl
nothing_left (Some bytes) = ap Some (sym (append-nil bytes))

pub ruleset loading = (load_fails, session_loaded)

pub were_had : (held : List ℕ → Held) (given : Options) (files : Files)
    → HasFiles held given files → (all : Files) × HasFiles held given all
were_had held given files has = (files, has)

had_open : {F : Type 0} (held : Held) (remaining : F → Option (List ℕ)) (file : F) → Opens remaining held (Ok file)
    → Opens {F = Option (List ℕ)} (λ known. known) held (Ok (remaining file))
had_open unknown remaining file has = has
had_open (refuses kind) remaining file has = has
had_open (holds bytes) remaining file has = has

pub had_script : {F : Type 0} (held : List ℕ → Held) (remaining : F → Option (List ℕ)) (named : Option (Bor (List ℕ)))
    (got : Option F) (input : Option (List ℕ)) → NamesFile held remaining named (Ok got)
    → HasScript held named input (script_bytes remaining got input)
had_script held remaining None got input has = ap (λ o. script_bytes remaining o input) has
had_script held remaining (Some path) None input has = absurd has
had_script held remaining (Some path) (Some file) input has = had_open (held path.now) remaining file has

not_opened : {F : Type 0} (held : List ℕ → Held) (remaining : F → Option (List ℕ)) (named : Option (Bor (List ℕ)))
    (failure : Failure CannotRead) → NamesFile held remaining named (Err failure)
    → FailsAtScript held named failure
not_opened held remaining None failure fails = fails
not_opened held remaining (Some path) failure fails = fails

-- a file of the load cannot be read
pub files_missing : (held : List ℕ → Held) (given : Options) (o : Outputs) (end : Result (Unit {0}) Stop)
    (stop : Stop) (failure : Failure CannotRead) → FailsReadingFiles held given failure → end ≡ Err stop
    → stop ≡ read_stop failure → Silent o → FileMissing held given o end
files_missing held given o end stop failure fails ends is silent = record {
  failure = failure;
  end_is = ends ∙ ap Err is;
  why = inl fails;
  silent = silent;
}

-- the script's file does not open, and all others were read
pub script_missing : {F : Type 0} (held : List ℕ → Held) (remaining : F → Option (List ℕ))
    (given : Options) (files : Files) (o : Outputs) (end : Result (Unit {0}) Stop) (stop : Stop)
    (failure : Failure CannotRead) → HasFiles held given files
    → NamesFile held remaining given.script (Err failure) → end ≡ Err stop → stop ≡ read_stop failure
    → Silent o → FileMissing held given o end
script_missing held remaining given files o end stop failure has fails ends is silent = record {
  failure = failure;
  end_is = ends ∙ ap Err is;
  why = inr ((files, has), not_opened held remaining given.script failure fails);
  silent = silent;
}

pub ruleset files = (had_script, were_had)
