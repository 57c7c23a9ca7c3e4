-- What problems have as warnings and as lints, by their causes, and where they are.
use Rattle.std.proofs.Common.{◌≡◌, ◌∙◌, ap, refl, sym, subst, List, [], ◌∷◌, ◌++◌, map, arith}
use Rattle.std.proofs.Common.{append-nil}
use Rattle.std.specs.Prelude.{IsTrue, None}
use Rattle.std.specs.List.{All, cons_option, filter_map}
use Rattle.std.proofs.lemmas.Bool.{false≢true}
use Rattle.std.proofs.lemmas.List.Elements.{All-push, filter_map-append}
use Rattle.kb_base.specs.declared.fault.FaultKind.{FaultKind}
use Rattle.kb_base.specs.declared.note.Warning.{Warning}
use Rattle.kb_files.specs.declared.fault.LoadFile.{LoadFile}
use Rattle.kb_source_files.specs.declared.source_files.SourceFiles.{SourceFiles}
use Rattle.kb_problems.specs.declared.cause.Cause.{Cause}
use Rattle.kb_problems.specs.declared.cause.Cause.TheVariants.{Refused, Warned, Linted}
use Rattle.kb_problems.specs.declared.cause.Lint.{Lint}
use Rattle.kb_problems.specs.declared.choices.Choices.{Choices}
use Rattle.kb_problems.specs.declared.problem.Problem.{Problem}
use Rattle.kb_problems.specs.Choices.{wants}
use Rattle.kb_problems.specs.Placed.{ArePlaced, IsPlaced, IsPlacedBy}
use Rattle.kb_check.specs.Problems.{AreWanted, is_wanted, lint_in, lint_of, warning_in, warning_of}

-- ---- problems that are warnings

warnings_by : (ps : List Problem) → filter_map warning_in ps ≡ filter_map warning_of (map (λ p. p.cause) ps)
warnings_by [] = refl
warnings_by (p ∷ ps) = ap (cons_option (warning_of p.cause)) (warnings_by ps)

all_warned : (ws : List Warning) → filter_map warning_of (map Warned ws) ≡ ws
all_warned [] = refl
all_warned (w ∷ ws) = ap (λ rest. w ∷ rest) (all_warned ws)

pub warnings_told : (ps : List Problem) (ws : List Warning) → map (λ p. p.cause) ps ≡ map Warned ws
    → filter_map warning_in ps ≡ ws
warnings_told ps ws e = warnings_by ps ∙ ap (filter_map warning_of) e ∙ all_warned ws

lints_by : (ps : List Problem) → filter_map lint_in ps ≡ filter_map lint_of (map (λ p. p.cause) ps)
lints_by [] = refl
lints_by (p ∷ ps) = ap (cons_option (lint_of p.cause)) (lints_by ps)

none_linted : (ws : List Warning) → filter_map lint_of (map Warned ws) ≡ []
none_linted [] = refl
none_linted (w ∷ ws) = none_linted ws

pub no_lints : (ps : List Problem) (ws : List Warning) → map (λ p. p.cause) ps ≡ map Warned ws
    → filter_map lint_in ps ≡ []
no_lints ps ws e = lints_by ps ∙ ap (filter_map lint_of) e ∙ none_linted ws

-- ---- which lints are looked for

all_of_none : (choices : Choices) → All (λ lint. IsTrue (wants choices lint)) []
all_of_none choices k d below = absurd (omega (arith, below))

pub warnings_wanted : (choices : Choices) (ps : List Problem) (ws : List Warning)
    → map (λ p. p.cause) ps ≡ map Warned ws → AreWanted choices ps
warnings_wanted choices ps ws e =
    subst (All (λ lint. IsTrue (wants choices lint))) (sym (no_lints ps ws e)) (all_of_none choices)

pub refusal_wanted : (choices : Choices) (p : Problem) → lint_of p.cause ≡ None → AreWanted choices (p ∷ [])
refusal_wanted choices p e =
    subst (λ lint. All (λ lint. IsTrue (wants choices lint)) (cons_option lint [])) (sym e) (all_of_none choices)

-- ---- one more lint

no_warning : (choices : Choices) (cause : Cause) → IsTrue (is_wanted choices cause) → warning_of cause ≡ None
no_warning choices (Linted lint) wanted = refl
no_warning choices (Refused file number) wanted = absurd (false≢true wanted)
no_warning choices (Warned warning) wanted = absurd (false≢true wanted)

pub lint_adds : (choices : Choices) (ps : List Problem) (p : Problem) → IsTrue (is_wanted choices p.cause)
    → filter_map warning_in (ps ++ p ∷ []) ≡ filter_map warning_in ps
lint_adds choices ps p wanted =
    filter_map-append warning_in ps (p ∷ [])
    ∙ ap (λ one. filter_map warning_in ps ++ cons_option one []) (no_warning choices p.cause wanted)
    ∙ append-nil (filter_map warning_in ps)

one_wanted : (choices : Choices) (cause : Cause) (lints : List Lint)
    → All (λ lint. IsTrue (wants choices lint)) lints → IsTrue (is_wanted choices cause)
    → All (λ lint. IsTrue (wants choices lint)) (lints ++ cons_option (lint_of cause) [])
one_wanted choices (Linted lint) lints all wanted =
    All-push (λ lint. IsTrue (wants choices lint)) lints lint all wanted
one_wanted choices (Refused file number) lints all wanted = absurd (false≢true wanted)
one_wanted choices (Warned warning) lints all wanted = absurd (false≢true wanted)

pub wanted_adds : (choices : Choices) (ps : List Problem) (p : Problem) → AreWanted choices ps
    → IsTrue (is_wanted choices p.cause) → AreWanted choices (ps ++ p ∷ [])
wanted_adds choices ps p all wanted =
    subst (All (λ lint. IsTrue (wants choices lint))) (sym (filter_map-append lint_in ps (p ∷ [])))
    (one_wanted choices p.cause (filter_map lint_in ps) all wanted)

-- ---- where they are

pub lint_placed : (files : SourceFiles) (choices : Choices) (ps : List Problem) (p : Problem)
    → IsTrue (is_wanted choices p.cause) → ArePlaced files ps → ArePlaced files (ps ++ p ∷ [])
lint_placed files choices ps p wanted all = All-push (IsPlaced files) ps p all (by_cause p.cause wanted)
  where
    by_cause : (cause : Cause) → IsTrue (is_wanted choices cause) → IsPlacedBy files p cause
    by_cause (Linted lint) wanted = tt
    by_cause (Refused file fault) wanted = absurd (false≢true wanted)
    by_cause (Warned warning) wanted = absurd (false≢true wanted)

none_placed : (files : SourceFiles) → ArePlaced files []
none_placed files k d below = absurd (omega (arith, below))

-- a refusal is the only problem
pub refusal_placed : (files : SourceFiles) (p : Problem) (file : LoadFile) (fault : FaultKind)
    → p.cause ≡ Refused file fault → p.file ≡ file → ArePlaced files (p ∷ [])
refusal_placed files p file fault is is_in =
    All-push (IsPlaced files) [] p (none_placed files) (subst (IsPlacedBy files p) (sym is) is_in)

pub ruleset refusals = (refusal_wanted, refusal_placed)

pub ruleset lints = (lint_adds, wanted_adds, lint_placed)
