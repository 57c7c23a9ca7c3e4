-- A chord whose keystroke at a place differs from the pressed one doesn't begin with the pressed ones.
use Rattle.std.proofs.Common.{◌≡◌, ◌<◌, ◌↔◌, ℕ, List, ◌++◌, Bool, true, false, refl, sym, ap, ◌∙◌, true≢false, drop, length}
use Rattle.std.specs.Prelude.{get_or, IsTrue}
use Rattle.std.proofs.lemmas.Bool.{false_from_ne_true}
use Rattle.std.proofs.lemmas.List.{get_or_append_left, get_or_default}
use Rattle.std.proofs.lemmas.Slice.Eq.{starts_is}
use Rattle.kb_keys.specs.declared.keystroke.Keystroke.{Keystroke}
use Rattle.kb_keys.specs.Keystroke.{same_stroke}
use Rattle.kb_keys.specs.Chord.{begins_with}
use Rattle.kb_keys.proofs.KeystrokeLemmas.{same_stroke-Decides}

same_at : (chord pressed : List Keystroke) (place : ℕ) (none : Keystroke) → place < length pressed
    → begins_with chord pressed ≡ true → get_or chord place none ≡ get_or pressed place none
same_at chord pressed place none within begins =
    let front = starts_is same_stroke-Decides chord pressed (begins_with chord pressed) refl in
    ap (λ strokes. get_or strokes place none) (front.0 begins)
    ∙ get_or_append_left pressed (drop (length pressed) chord) none place within

-- the keystrokes at a place, each read with itself as what stands in for a missing one
pub apart : (chord strokes pressed : List Keystroke) (place : ℕ) (own last : Keystroke) → place < length pressed
    → strokes ≡ chord → own ≡ get_or strokes place own → last ≡ get_or pressed place last
    → same_stroke own last ≡ false → begins_with chord pressed ≡ false
apart chord strokes pressed place own last within same mine theirs differ =
    false_from_ne_true (begins_with chord pressed) (λ begins.
    let alike = same_at chord pressed place own within begins ∙ get_or_default pressed place own last within in
    let equal : own ≡ last = mine ∙ ap (λ held. get_or held place own) same ∙ alike ∙ sym theirs in
    true≢false (sym ((same_stroke-Decides own last).1 equal) ∙ differ))

pub front : (chord pressed : List Keystroke) (begins : Bool) → begins ≡ begins_with chord pressed
    → IsTrue begins ↔ ((more : List Keystroke) × (chord ≡ pressed ++ more))
front chord pressed begins is =
    let found = starts_is same_stroke-Decides chord pressed begins is in
    (λ yes. (drop (length pressed) chord, found.0 yes), λ more. found.1 more.0 more.1)
