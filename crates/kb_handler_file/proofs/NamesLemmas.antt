-- Checking names one by one against those seen before.
use Rattle.std.proofs.Common.{◌≡◌, ◌<◌, ◌+◌, ℕ, suc, List, [], ◌∷◌, ◌++◌, length, map, drop, get_or}
use Rattle.std.proofs.Common.{drop-cons}
use Rattle.std.proofs.Common.{Bool, true, false, ◌||◌, not, cond, bytes_eq, arith}
use Rattle.std.proofs.Common.{refl, sym, ap, ◌∙◌, true≢false}
use Rattle.std.specs.List.{list_any}
use Rattle.indexmap.specs.IndexSet.{insert_key}
use Rattle.kb_handler_file.specs.Names.{Name, is_seen, repeats, repeats_behind}

-- ---- tests

or_assoc : (a b c : Bool) → (a || b) || c ≡ a || (b || c)
or_assoc true b c = refl
or_assoc false b c = refl

or_false : (a : Bool) → a || false ≡ a
or_false true = refl
or_false false = refl

or_pairs : (a b c d : Bool) → (a || b) || (c || d) ≡ (a || c) || (b || d)
or_pairs true b c d = refl
or_pairs false true true d = refl
or_pairs false true false d = refl
or_pairs false false c d = refl

-- ---- one name more is seen

seen_one : (above : List Name) (k : Name) (name : List ℕ)
    → is_seen (above ++ k ∷ []) name ≡ is_seen above name || bytes_eq name k.now
seen_one [] k name = or_false (bytes_eq name k.now)
seen_one (a ∷ above) k name =
    ap (λ b. bytes_eq name a.now || b) (seen_one above k name)
    ∙ sym (or_assoc (bytes_eq name a.now) (is_seen above name) (bytes_eq name k.now))

seen_more : (above : List Name) (k : Name) (names : List (List ℕ))
    → list_any (is_seen (above ++ k ∷ [])) names
    ≡ list_any (is_seen above) names || list_any (λ other. bytes_eq other k.now) names
seen_more above k [] = refl
seen_more above k (name ∷ names) =
    ap (λ b. b || list_any (is_seen (above ++ k ∷ [])) names) (seen_one above k name)
    ∙ ap (λ b. (is_seen above name || bytes_eq name k.now) || b) (seen_more above k names)
    ∙ or_pairs (is_seen above name) (bytes_eq name k.now) (list_any (is_seen above) names)
    (list_any (λ other. bytes_eq other k.now) names)

none_any : (names : List (List ℕ)) (b : Bool) → list_any (is_seen []) names || b ≡ b
none_any [] b = refl
none_any (name ∷ names) b = none_any names b

-- none was seen at first
pub none_seen : (names : List (List ℕ)) → repeats_behind [] names ≡ repeats names
none_seen names = none_any names (repeats names)

-- the set's test of a name
abbrev pub same_name : Name → Name → Bool
same_name x y = bytes_eq x.now y.now

put_new : (above : List Name) (k : Name) (names : List (List ℕ)) (found : Bool) → found ≡ false
    → repeats_behind (cond found above (above ++ k ∷ [])) names
    ≡ (found || list_any (is_seen above) names) || repeats (k.now ∷ names)
put_new above k names true e = absurd (true≢false e)
put_new above k names false e =
    ap (λ b. b || repeats names) (seen_more above k names)
    ∙ or_assoc (list_any (is_seen above) names) (list_any (λ other. bytes_eq other k.now) names)
    (repeats names)

-- a name that wasn't seen, and then those that are left
pub new_name : (above : List Name) (k : Name) (names : List (List ℕ)) → is_seen above k.now ≡ false
    → repeats_behind (insert_key same_name above k) names ≡ repeats_behind above (k.now ∷ names)
new_name above k names new = put_new above k names (is_seen above k.now) new

-- a name that was seen
pub old_name : (above : List Name) (k : Name) (names : List (List ℕ)) → is_seen above k.now ≡ true
    → repeats_behind above (k.now ∷ names) ≡ true
old_name above k names old =
    ap (λ b. (b || list_any (is_seen above) names) || repeats (k.now ∷ names)) old

unseen : (b : Bool) → not b ≡ true → b ≡ false
unseen true e = absurd (true≢false (sym e))
unseen false e = refl

-- one more is looked at, which the set took
pub passed : {X : Type 0} (named : X → List ℕ) (above : List Name) (k : Name) (items : List X) (i : ℕ)
    (item : X) → i < length items → item ≡ get_or items i item → k.now ≡ named item → not (is_seen above k.now) ≡ true
    → repeats_behind (insert_key same_name above k) (map named (drop (i + 1) items))
    ≡ repeats_behind above (map named (drop i items))
passed named above k items i item within is same new =
    let next : i + 1 ≡ suc i = omega arith in
    ap (λ j. repeats_behind (insert_key same_name above k) (map named (drop j items))) next
    ∙ new_name above k (map named (drop (suc i) items)) (unseen (is_seen above k.now) new)
    ∙ ap (λ name. repeats_behind above (name ∷ map named (drop (suc i) items))) (same ∙ ap named is)
    ∙ ap (λ rest. repeats_behind above (map named rest)) (sym (drop-cons items i item within))
