-- The canonical text of a chord is parsed as that chord.
use Rattle.std.proofs.Common.{◌≡◌, ℕ, ◌<◌, ◌≤◌, List, [], ◌∷◌, ◌++◌, true, false, ◌==◌, not, length, refl}
use Rattle.std.proofs.Common.{ap, sym, ◌∙◌, arith, filter, map, rules, tests, Ok, append_assoc, nat_lt}
use Rattle.std.proofs.Common.{append-nil}
use Rattle.std.proofs.lemmas.List.{length-map}
use Rattle.std.proofs.lemmas.List.Sums.{AllPass-from_list_all}
use Rattle.std.specs.List.{slice_split, All}
use Rattle.std.proofs.lemmas.Bool.{not-true}
use Rattle.std.proofs.lemmas.List.Splits.{slice_split_at, slice_split_none}
use Rattle.kb_keys.specs.declared.keystroke.Keystroke.{Keystroke}
use Rattle.kb_keys.specs.Keystroke.{keystroke_of, split_of, spelling, KnownKeys}
use Rattle.kb_keys.specs.Chord.{chord_limit, steps_of, with_step, strokes_of, chord_of, chord_spelling}
use Rattle.kb_keys.specs.Chord.{spelling_after}
use Rattle.kb_keys.proofs.KeystrokeReadsBack.{spelling-IsCanonical, no_space}
use Rattle.kb_keys.proofs.ChordLemmas.{kept}

pub spelling_after-push : (front : List Keystroke) (last : Keystroke)
    → spelling_after (front ++ last ∷ []) ≡ spelling_after front ++ (32 ∷ spelling last)
spelling_after-push [] last = ap (λ (t : List ℕ). 32 ∷ t) (append-nil (spelling last))
spelling_after-push (next ∷ front) last =
    ap (λ (t : List ℕ). 32 ∷ (spelling next ++ t)) (spelling_after-push front last)
    ∙ ap (λ (t : List ℕ). 32 ∷ t)
    (sym (append_assoc (spelling next) (spelling_after front) (32 ∷ spelling last)))

pub chord_spelling-cons : (first : Keystroke) (more : List Keystroke)
    → chord_spelling (first ∷ more) ≡ spelling first ++ spelling_after more
chord_spelling-cons first [] = sym (append-nil (spelling first))
chord_spelling-cons first (next ∷ more) =
    ap (λ (t : List ℕ). spelling first ++ (32 ∷ t)) (chord_spelling-cons next more)

pub KnownKeys-push : (strokes : List Keystroke) (last : Keystroke) → KnownKeys strokes → last.key < 99
    → KnownKeys (strokes ++ last ∷ [])
KnownKeys-push [] last h k = (k, tt)
KnownKeys-push (s ∷ strokes) last h k = (h.0, KnownKeys-push strokes last h.1 k)

-- what is written for the first keystrokes
pub record Writes (old new : List ℕ) (strokes : List Keystroke) : Type 0 where
  pub spelled : new ≡ old ++ spelling_after strokes
  pub known : KnownKeys strokes

pub Writes-start : (old : List ℕ) → Writes old old []
Writes-start old = record { spelled = sym (append-nil old); known = tt }

pub Writes-push : (old mid new : List ℕ) (front : List Keystroke) (last : Keystroke) → Writes old mid front
    → new ≡ mid ++ (32 ∷ spelling last) → last.key < 99 → Writes old new (front ++ last ∷ [])
Writes-push old mid new front last h e k =
    record {
      spelled = e ∙ (ap (λ (t : List ℕ). t ++ (32 ∷ spelling last)) h.spelled
          ∙ (append_assoc old (spelling_after front) (32 ∷ spelling last)
          ∙ ap (λ (t : List ℕ). old ++ t) (sym (spelling_after-push front last))));
      known = KnownKeys-push front last h.known k;
    }

spaceless_all : (bytes : List ℕ) → no_space bytes ≡ true → All (λ byte. (byte == 32) ≡ false) bytes
spaceless_all bytes h = λ k d l. not-true _ (AllPass-from_list_all (λ byte. not (byte == 32)) bytes h k d l)

read_nonempty : (bytes : List ℕ) (s : Keystroke) → keystroke_of bytes ≡ Ok s → 0 < length bytes
unfolding keystroke_of split_of
read_nonempty [] s h = absurd (cc)
read_nonempty (b ∷ bs) s h = omega arith

with_step_nonempty : (piece : List ℕ) (rest : List (List ℕ)) → 0 < length piece
    → with_step piece rest ≡ piece ∷ rest
with_step_nonempty [] rest h = absurd (omega arith)
with_step_nonempty (b ∷ bs) rest h = refl

split_joined : (s : Keystroke) (strokes : List Keystroke) → KnownKeys (s ∷ strokes)
    → slice_split (λ byte. byte == 32) (chord_spelling (s ∷ strokes)) ≡ map spelling (s ∷ strokes)
split_joined s [] h =
    slice_split_none (λ byte. byte == 32) (spelling s)
    (spaceless_all (spelling s) (spelling-IsCanonical s h.0).spaceless)
split_joined s (t ∷ strokes) h =
    slice_split_at (λ byte. byte == 32) (spelling s) 32 (chord_spelling (t ∷ strokes))
    (spaceless_all (spelling s) (spelling-IsCanonical s h.0).spaceless) refl
    ∙ ap (λ (rest : List (List ℕ)). spelling s ∷ rest) (split_joined t strokes h.1)

all_kept : (strokes : List Keystroke) → KnownKeys strokes
    → filter (λ step. not (length step == 0)) (map spelling strokes) ≡ map spelling strokes
all_kept [] h = refl
all_kept (s ∷ strokes) h =
    kept (spelling s) (map spelling strokes)
    ∙ (with_step_nonempty (spelling s) _ (read_nonempty (spelling s) s (spelling-IsCanonical s h.0).read)
    ∙ ap (λ (rest : List (List ℕ)). spelling s ∷ rest) (all_kept strokes h.1))

all_read : (strokes : List Keystroke) → KnownKeys strokes → strokes_of (map spelling strokes) ≡ Ok strokes
all_read [] h = refl
all_read (s ∷ strokes) h = rw ((spelling-IsCanonical s h.0).read, all_read strokes h.1) refl

steps_of-joined : (s : Keystroke) (strokes : List Keystroke) → KnownKeys (s ∷ strokes)
    → steps_of (chord_spelling (s ∷ strokes)) ≡ map spelling (s ∷ strokes)
steps_of-joined s strokes h = rw (split_joined s strokes h) (all_kept (s ∷ strokes) h)

chord_of-joined : (s : Keystroke) (strokes : List Keystroke) → KnownKeys (s ∷ strokes)
    → length (s ∷ strokes) ≤ chord_limit → chord_of (chord_spelling (s ∷ strokes)) ≡ Ok (s ∷ strokes)
chord_of-joined s strokes h fits =
    let some : (length (map spelling (s ∷ strokes)) == 0) ≡ false = search (rules, tests) in
    let n : length (map spelling (s ∷ strokes)) ≤ chord_limit =
    omega (arith, length-map (s ∷ strokes) spelling) in
    let few : nat_lt chord_limit (length (map spelling (s ∷ strokes))) ≡ false = search (rules, tests) in
    rw (steps_of-joined s strokes h, some, few) (all_read (s ∷ strokes) h)

pub chord_of-spelling : (strokes : List Keystroke) → KnownKeys strokes → length strokes ≤ chord_limit
    → 0 < length strokes → chord_of (chord_spelling strokes) ≡ Ok strokes
chord_of-spelling [] h fits some = absurd (omega arith)
chord_of-spelling (s ∷ strokes) h fits some = chord_of-joined s strokes h fits
