-- What sights tell, and what is at hand after a change of one key.
use Rattle.std.proofs.Common.{◌≡◌, ◌≢◌, ℕ, zero, suc, ◌+◌, ◌-◌, ◌^◌, ◌<◌, ◌≤◌, min, List, [], ◌∷◌, length, Bool, true, false}
use Rattle.std.proofs.Common.{Option, Some, None, slice_get, slice_set, refl, sym, ◌∙◌, ap, subst, arith}
use Rattle.std.proofs.Common.{option_and_then}
use Rattle.std.specs.Prelude.{nat_eq}
use Rattle.std.specs.FinMap.{get}
use Rattle.std.proofs.lemmas.Bool.Decides.{nat_tests}
use Rattle.std.proofs.lemmas.Option.{slice_get_within}
use Rattle.kb_base.specs.Fingerprint.{IsBytes, fingerprint_of}
use Rattle.kb_base.specs.HashedText.{hash_of}
use Rattle.kb_base.specs.declared.fingerprint.Fingerprint.{Fingerprint}
use Rattle.kb_base.proofs.FingerprintLemmas.{fingerprint_exact, hash_small}
use Rattle.kb_context.specs.declared.at_hand.AtHand.{AtHand}
use Rattle.kb_context.specs.declared.sight.Seen.{Seen}
use Rattle.kb_context.specs.declared.sight.Sight.{Sight}
use Rattle.kb_context.specs.declared.sight.Sight.TheVariants.{Nothing, Unknown, Key}
use Rattle.kb_context.specs.declared.value.ContextValue.{ContextValue}
use Rattle.kb_context.specs.Scopes.{Keys, ScopesData, context, seat, next_revision, IsFlat, with_value_at, value_at}
use Rattle.kb_context.specs.Scopes.{ChangesOnly, Places, without_value}
use Rattle.kb_context.specs.Sights.{AnyKey, AnyBut, IsSeen, Tells, TellsSeen, TellsSeenBut}
use Rattle.kb_context.specs.AtHand.{IsAtHand, IsAtHandBut, IsAtHandFor}
use Rattle.kb_context.proofs.SeatLemmas.{ChangesBut, set_but, unset_but, seat_stays, flat_same, value_at_seat}

-- ---- one sight

-- the sight of a key tells its value
pub key_tells : (keys : Keys) (text : List ℕ) (hash : ℕ) (k : Fingerprint) (value : Option ContextValue) (seen : Seen)
    → k.length ≤ 32 → k ≡ fingerprint_of text → IsBytes text → get keys text ≡ value → IsSeen value seen
    → Tells AnyKey keys hash (Key (record { key = k; seen = seen }))
key_tells keys text hash k value seen few is bytes has tells = λ q any at others e.
    let same : text ≡ q =
    fingerprint_exact text q bytes others (subst (λ (f : Fingerprint). f.length ≤ 32) is few) (sym is ∙ sym e) in
    subst (λ (o : Option ContextValue). IsSeen o seen) (sym has ∙ ap (get keys) same) tells

-- what it tells of keys, it tells of fewer keys, and where these have the same values
moved : (P Q : List ℕ → Type 0) (keys new : Keys) (hash : ℕ) (s : Sight)
    → ((q : List ℕ) → Q q → hash_of q ≡ hash → P q × (get new q ≡ get keys q)) → Tells P keys hash s
    → Tells Q new hash s
moved P Q keys new hash Nothing f t = λ q among at.
    let m = f q among at in m.1 ∙ t q m.0 at
moved P Q keys new hash Unknown f t = tt
moved P Q keys new hash (Key s) f t = λ q among at bytes e.
    let m = f q among at in
    subst (λ (o : Option ContextValue). IsSeen o s.seen) (sym m.1) (t q m.0 at bytes e)

-- ---- all sights

get_put : (ss : List Sight) (i : ℕ) (x : Sight) → i < length ss → slice_get (slice_set ss i x) i ≡ Some x
get_put [] i x h = absurd (omega arith)
get_put (s ∷ ss) zero x h = refl
get_put (s ∷ ss) (suc i) x h = get_put ss i x (omega arith)

get_beside : (ss : List Sight) (i j : ℕ) (x : Sight) → j ≢ i → slice_get (slice_set ss i x) j ≡ slice_get ss j
get_beside [] i j x h = refl
get_beside (s ∷ ss) zero zero x h = absurd (h refl)
get_beside (s ∷ ss) zero (suc j) x h = refl
get_beside (s ∷ ss) (suc i) zero x h = refl
get_beside (s ∷ ss) (suc i) (suc j) x h = get_beside ss i j x (λ e. h (ap (λ n. suc n) e))

length_put : (ss : List Sight) (i : ℕ) (x : Sight) → length (slice_set ss i x) ≡ length ss
length_put [] i x = refl
length_put (s ∷ ss) zero x = refl
length_put (s ∷ ss) (suc i) x = ap (λ n. suc n) (length_put ss i x)

same_some : (x y : Sight) → Some x ≡ Some y → x ≡ y
same_some x y e = cc

-- the sight of the one key that is missing completes them
pub told_put : (keys : Keys) (ss : List Sight) (key : List ℕ) (hash : ℕ) (x : Sight) → hash ≡ hash_of key
    → TellsSeenBut keys ss key → Tells AnyKey keys hash x → TellsSeen keys (slice_set ss hash x)
told_put keys ss key hash x is but tells = record {
  room = length_put ss hash x ∙ but.room;
  each = λ h s e. by_test h s e (nat_eq h hash) refl;
}
  where
    here : hash < length ss
    here = let small : hash_of key < 1024 = hash_small key in omega (arith, but.room)

    by_test : (h : ℕ) (s : Sight) → slice_get (slice_set ss hash x) h ≡ Some s → (b : Bool) → nat_eq h hash ≡ b
        → Tells AnyKey keys h s
    by_test h s e true t =
        let same : h ≡ hash = grind (arith, nat_tests) in
        let its : x ≡ s = same_some x s (sym (get_put ss hash x here)
        ∙ ap (slice_get (slice_set ss hash x)) (sym same) ∙ e) in
        subst (λ (y : Sight). Tells AnyKey keys h y) its (subst (λ n. Tells AnyKey keys n x) (sym same) tells)
    by_test h s e false t =
        let apart : h ≢ hash = grind (arith, nat_tests) in
        moved (AnyBut key) AnyKey keys keys h s
        (λ q any at. ((λ same. apart (sym at ∙ ap hash_of same ∙ sym is)), refl))
        (but.each h s (sym (get_beside ss hash h x apart) ∙ e))

-- the sights of the hashes below a bound tell what is seen
pub record TellsBelow (keys : Keys) (ss : List Sight) (bound : ℕ) : Type 0 where
  pub room : length ss ≡ 1024
  pub each : (h : ℕ) (s : Sight) → h < bound → slice_get ss h ≡ Some s → Tells AnyKey keys h s

pub told_none : (keys : Keys) (ss : List Sight) → length ss ≡ 1024 → TellsBelow keys ss 0
told_none keys ss room = record { room = room; each = λ h s lt e. absurd (omega arith) }

pub told_next : (keys : Keys) (ss : List Sight) (hash : ℕ) (x : Sight) → hash < 1024 → TellsBelow keys ss hash
    → Tells AnyKey keys hash x → TellsBelow keys (slice_set ss hash x) (hash + 1)
told_next keys ss hash x lt below tells = record {
  room = length_put ss hash x ∙ below.room;
  each = λ h s more e. by_test h s more e (nat_eq h hash) refl;
}
  where
    by_test : (h : ℕ) (s : Sight) → h < hash + 1 → slice_get (slice_set ss hash x) h ≡ Some s → (b : Bool)
        → nat_eq h hash ≡ b → Tells AnyKey keys h s
    by_test h s more e true t =
        let same : h ≡ hash = grind (arith, nat_tests) in
        let its : x ≡ s = same_some x s (sym (get_put ss hash x (omega (arith, below.room)))
        ∙ ap (slice_get (slice_set ss hash x)) (sym same) ∙ e) in
        subst (λ (y : Sight). Tells AnyKey keys h y) its (subst (λ n. Tells AnyKey keys n x) (sym same) tells)
    by_test h s more e false t =
        let apart : h ≢ hash = grind (arith, nat_tests) in
        below.each h s (omega arith) (sym (get_beside ss hash h x apart) ∙ e)

pub told_all : (keys : Keys) (ss : List Sight) (bound : ℕ) → 1024 ≤ bound → TellsBelow keys ss bound
    → TellsSeen keys ss
told_all keys ss bound le below = record {
  room = below.room;
  each = λ h s e. below.each h s (omega (arith, slice_get_within ss h s e, below.room)) e;
}

-- the sights of all other keys stay
pub told_but : (keys new : Keys) (ss : List Sight) (key : List ℕ)
    → ((q : List ℕ) → q ≢ key → get new q ≡ get keys q) → TellsSeen keys ss → TellsSeenBut new ss key
told_but keys new ss key same told = record {
  room = told.room;
  each = λ h s e. moved AnyKey (AnyBut key) keys new h s (λ q apart at. (tt, same q apart)) (told.each h s e);
}

-- ---- what is at hand after a change of one key

but_by : (s new : ScopesData) (a : AtHand) (key : List ℕ) → ChangesBut s new key → IsAtHand s a
    → IsAtHandBut new a key
but_by s new a key but is = record {
  flat = λ q apart. is.flat q ∙ sym (but.seats q apart);
  tells = told_but (context s) (context new) a.sights.items key but.values is.tells;
}

pub set_at_hand : (s new : ScopesData) (a : AtHand) (at : ℕ) (key : List ℕ) (v : ContextValue)
    → new ≡ with_value_at s at key v → IsAtHand s a → IsAtHandBut new a key
set_at_hand s new a at key v e is =
    subst (λ (t : ScopesData). IsAtHandBut t a key) (sym e)
    (but_by s (with_value_at s at key v) a key (set_but s at key v) is)

pub unset_at_hand : (s new : ScopesData) (a : AtHand) (name key : List ℕ) → new ≡ without_value s name key
    → IsAtHand s a → IsAtHandBut new a key
unset_at_hand s new a name key e is =
    subst (λ (t : ScopesData). IsAtHandBut t a key) (sym e)
    (but_by s (without_value s name key) a key (unset_but s name key) is)

-- ---- what the focus sees, by a flat map

pub not_seen : (s : ScopesData) (flat : Places) (key : List ℕ) → IsFlat s flat → get flat key ≡ None
    → get (context s) key ≡ None
not_seen s flat key is none =
    sym (value_at_seat s key) ∙ ap (option_and_then (λ i. value_at s i key)) (sym (is key) ∙ none)

pub seen_at : (s : ScopesData) (flat : Places) (key : List ℕ) (at : ℕ) → IsFlat s flat → get flat key ≡ Some at
    → get (context s) key ≡ value_at s at key
seen_at s flat key at is has =
    sym (value_at_seat s key) ∙ ap (option_and_then (λ i. value_at s i key)) (sym (is key) ∙ has)

-- ---- a key that is set where it is seen

pub flat_stays : (s new : ScopesData) (flat : Places) (at : ℕ) (key : List ℕ) (v : ContextValue)
    → new ≡ with_value_at s at key v → IsFlat s flat → get flat key ≡ Some at → IsFlat new flat
flat_stays s new flat at key v e is has =
    subst (λ (t : ScopesData). IsFlat t flat) (sym e)
    (flat_same (with_value_at s at key v) flat key at
    (λ q apart. is q ∙ sym ((set_but s at key v).seats q apart))
    (seat_stays s at key v (sym (is key) ∙ has)) has)

-- the focus sees the value
pub value_seen : (s new : ScopesData) (flat : Places) (at : ℕ) (key : List ℕ) (v : ContextValue)
    → new ≡ with_value_at s at key v → IsFlat s flat → get flat key ≡ Some at
    → ChangesOnly s new at key (Some v) → get (context new) key ≡ Some v
value_seen s new flat at key v e is has only =
    sym (value_at_seat new key)
    ∙ ap (option_and_then (λ i. value_at new i key))
    (ap (λ (t : ScopesData). seat t key) e ∙ seat_stays s at key v (sym (is key) ∙ has))
    ∙ only.there

-- ---- the next revision

pub at_hand_next : (s : ScopesData) (a : AtHand) (r : ℕ) → IsAtHand s a → r < 2 ^ 64 - 2
    → IsAtHandFor s a (Some (r + 1)) (next_revision r)
at_hand_next s a r h lt = record {
  room = h.tells.room;
  before = (below r lt, omega arith);
  same = λ e. h;
}
  where
    below : (r : ℕ) → r < 2 ^ 64 - 2 → r + 1 ≤ min (r + 1) (2 ^ 64 - 1)
    below r lt = omega arith
