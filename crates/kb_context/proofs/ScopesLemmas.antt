-- Indices of scopes, and the scopes after the keys of one were changed.
use Rattle.std.proofs.Common.{◌≡◌, ◌≢◌, ℕ, zero, suc, ◌+◌, ◌-◌, ◌<◌, ◌≤◌, Bool, true, false, cond, ◌||◌}
use Rattle.std.proofs.Common.{nat_lt, List, [], ◌∷◌, length, Option, Some, None, option_map, option_and_then}
use Rattle.std.proofs.Common.{is_some, slice_get, slice_set, get_or, refl, sym, subst, ap, ◌∙◌, arith}
use Rattle.std.specs.Str.{bytes_eq}
use Rattle.std.specs.FinMap.{get, insert, remove, len, contains_key, len-insert, len-remove, get-insert}
use Rattle.std.specs.FinMap.{get-remove}
use Rattle.std.proofs.lemmas.Bool.{ltb-true, false_from_ne_true}
use Rattle.std.proofs.lemmas.Cmp.{nat_list_cmp_total}
use Rattle.std.proofs.lemmas.Option.{slice_get_read, slice_get-map}
use Rattle.std.proofs.lemmas.List.{length-map}
use Rattle.std.proofs.lemmas.Map.Text.{is_eq-slice_cmp}
use Rattle.std.proofs.lemmas.Slice.Eq.{bytes_eq-Decides}
use Rattle.kb_context.specs.declared.scope_tree.Scope.{Scope}
use Rattle.kb_context.specs.Scopes.{key_limit}
use Rattle.kb_context.specs.declared.value.ContextValue.{ContextValue}
use Rattle.kb_context.specs.Scopes.{Keys, Places, ScopesData, scope_names, parents, place_in, place_of}
use Rattle.kb_context.specs.Scopes.{changed, key_count, has_room, IsRooted, IsRootedList, IsWellFormed}
use Rattle.kb_context.specs.Scopes.{with_value_at, without_value_at, ChangesOnly, ChangesOnlyIn}

-- ---- places

place_suc : (o : Option ℕ) (n i : ℕ) → ((j : ℕ) → o ≡ Some j → j < n) → option_map (λ j. suc j) o ≡ Some i
    → i < suc n
place_suc None n i h e = absurd (let no : Bool = true in cc)
place_suc (Some j) n i h e = let below : j < n = h j refl in let same : suc j ≡ i = cc in omega arith

pub place_in_within : (n : List ℕ) (ns : List (List ℕ)) (i : ℕ) → place_in n ns ≡ Some i → i < length ns
place_in_within n [] i e = absurd (let no : Bool = true in cc)
place_in_within n (m ∷ ns) i e =
    elim (bytes_eq n m) as
    (λ b. cond b (Some 0) (option_map (λ j. suc j) (place_in n ns)) ≡ Some i → i < suc (length ns)) [
      | true ↦ λ h. let same : 0 ≡ i = cc in omega arith
      | false ↦ λ h. place_suc (place_in n ns) (length ns) i (place_in_within n ns) h
    ] e

-- the place of a name is that of a scope
pub place_of_within : (n : List ℕ) (ss : List Scope) (i : ℕ) → place_of n ss ≡ Some i → i < length ss
place_of_within n ss i e =
    subst (λ m. i < m) (length-map ss (λ (s : Scope). s.name)) (place_in_within n (scope_names ss) i e)

-- the same by the table of places
pub placed_within : (n : List ℕ) (ss : List Scope) (places : Places) (i : ℕ) → get places n ≡ place_of n ss
    → Some i ≡ get places n → i < length ss
placed_within n ss places i p e = place_of_within n ss i (sym p ∙ sym e)

-- the scope that is written through its name
pub found_by : (n : List ℕ) (ss : List Scope) (places : Places) (i : ℕ) (x : Scope)
    → get places n ≡ place_of n ss → Some i ≡ get places n → x ≡ get_or ss i x → slice_get ss i ≡ Some x
found_by n ss places i x p e r = slice_get_read ss (length ss) i x refl (placed_within n ss places i p e) r

-- a scope's parent stands before it
pub parent_before : (ss : List Scope) (i : ℕ) (s : Scope) (p : ℕ) → IsRooted ss → slice_get ss i ≡ Some s
    → s.parent ≡ Some p → p < i
parent_before ss i s p rooted is e =
    rooted i p (slice_get-map (λ (t : Scope). t.parent) ss i ∙ rw (is, e) refl)

-- ---- a change

pub changed_set : (f : Keys → Keys) (i : ℕ) (ss : List Scope) (s : Scope) → slice_get ss i ≡ Some s
    → slice_set ss i (record { name = s.name; parent = s.parent; keys = f s.keys }) ≡ changed f i ss
changed_set f i [] s e = refl
changed_set f zero (t ∷ ss) s e = let same : t ≡ s = cc in
    ap (λ (u : Scope). record { name = u.name; parent = u.parent; keys = f u.keys } ∷ ss) (sym same)
changed_set f (suc i) (t ∷ ss) s e = ap (λ us. t ∷ us) (changed_set f i ss s e)

pub scope_names-changed : (f : Keys → Keys) (i : ℕ) (ss : List Scope)
    → scope_names (changed f i ss) ≡ scope_names ss
scope_names-changed f i [] = refl
scope_names-changed f zero (t ∷ ss) = refl
scope_names-changed f (suc i) (t ∷ ss) = ap (λ ns. t.name ∷ ns) (scope_names-changed f i ss)

pub parents-changed : (f : Keys → Keys) (i : ℕ) (ss : List Scope) → parents (changed f i ss) ≡ parents ss
parents-changed f i [] = refl
parents-changed f zero (t ∷ ss) = refl
parents-changed f (suc i) (t ∷ ss) = ap (λ ps. t.parent ∷ ps) (parents-changed f i ss)

pub length-changed : (f : Keys → Keys) (i : ℕ) (ss : List Scope) → length (changed f i ss) ≡ length ss
length-changed f i [] = refl
length-changed f zero (t ∷ ss) = refl
length-changed f (suc i) (t ∷ ss) = ap (λ n. suc n) (length-changed f i ss)

-- ---- how many keys there are

one_more : (t a b c d : ℕ) → a + b ≡ c + d → (t + a) + b ≡ (t + c) + d
one_more t a b c d e = omega arith

pub key_count-changed : (f : Keys → Keys) (i : ℕ) (ss : List Scope) (s : Scope) → slice_get ss i ≡ Some s
    → key_count (changed f i ss) + len s.keys ≡ key_count ss + len (f s.keys)
key_count-changed f i [] s e = absurd (let no : Bool = true in cc)
key_count-changed f zero (t ∷ ss) s e =
    let same : t ≡ s = cc in
    subst (λ (u : Scope). (len (f t.keys) + key_count ss) + len u.keys
    ≡ (len t.keys + key_count ss) + len (f u.keys)) same (omega arith)
key_count-changed f (suc i) (t ∷ ss) s e = one_more (len t.keys) _ _ _ _ (key_count-changed f i ss s e)

pub len_le-key_count : (i : ℕ) (ss : List Scope) (s : Scope) → slice_get ss i ≡ Some s
    → len s.keys ≤ key_count ss
len_le-key_count i [] s e = absurd (let no : Bool = true in cc)
len_le-key_count zero (t ∷ ss) s e = let same : t ≡ s = cc in
    subst (λ (u : Scope). len u.keys ≤ len t.keys + key_count ss) same (omega arith)
len_le-key_count (suc i) (t ∷ ss) s e = let h : len s.keys ≤ key_count ss = len_le-key_count i ss s e in
    omega arith

count_after : (k n a b c : ℕ) → n + b ≡ k + a → b ≤ k → c ≡ k → c - b + a ≡ n
count_after k n a b c e h w = omega arith

IsWellFormed-changed : (f : Keys → Keys) (i : ℕ) (ss : List Scope) (s : Scope) (places : Places)
    (focus keys : ℕ) → IsWellFormed ss places focus keys → slice_get ss i ≡ Some s
    → keys - len s.keys + len (f s.keys) ≤ key_limit
    → IsWellFormed (changed f i ss) places focus (keys - len s.keys + len (f s.keys))
IsWellFormed-changed f i ss s places focus keys w is few = record {
  inside = subst (λ n. focus < n) (sym (length-changed f i ss)) w.inside;
  rooted = subst IsRootedList (sym (parents-changed f i ss)) w.rooted;
  placed = λ n. w.placed n ∙ ap (place_in n) (sym (scope_names-changed f i ss));
  counted = count_after (key_count ss) _ _ _ keys (key_count-changed f i ss s is)
      (len_le-key_count i ss s is) w.counted;
  few = few;
}

-- ---- room

few_by : (b : Bool) (limit count before : ℕ) → (nat_lt count limit || b) ≡ true → count ≤ limit
    → before ≤ count → count - before + cond b before (before + 1) ≤ limit
few_by true limit count before h c l = omega arith
few_by false limit count before h c l = let lt : count < limit =
    ltb-true count limit (sym (or_false (nat_lt count limit)) ∙ h) in omega arith
  where
    or_false : (b : Bool) → (b || false) ≡ b
    or_false true = refl
    or_false false = refl

-- where there is room or the key stands, a key that is set keeps the limit
pub few-insert : (m : Keys) (k : List ℕ) (v : ContextValue) (limit count : ℕ)
    → (nat_lt count limit || contains_key m k) ≡ true → count ≤ limit → len m ≤ count
    → count - len m + len (insert m k v) ≤ limit
few-insert m k v limit count h c l =
    rw (len-insert nat_list_cmp_total m k v) (few_by (contains_key m k) limit count (len m) h c l)

less_by : (b : Bool) (limit count before : ℕ) → count ≤ limit → before ≤ count
    → count - before + cond b (before - 1) before ≤ limit
less_by true limit count before c l = omega arith
less_by false limit count before c l = omega arith

pub few-remove : (m : Keys) (k : List ℕ) (limit count : ℕ) → count ≤ limit → len m ≤ count
    → count - len m + len (remove m k) ≤ limit
few-remove m k limit count c l =
    rw (len-remove nat_list_cmp_total m k) (less_by (contains_key m k) limit count (len m) c l)

-- there is room where the code finds it
pub room_at : (s : ScopesData) (i : ℕ) (k : List ℕ) (scope : Scope) (count : ℕ)
    → count ≡ key_count s.scopes → slice_get s.scopes i ≡ Some scope
    → (nat_lt count key_limit || contains_key scope.keys k) ≡ has_room s i k
room_at s i k scope count e is =
    ap (λ n. nat_lt n key_limit || contains_key scope.keys k) e
    ∙ ap (λ (o : Option Scope). nat_lt (key_count s.scopes) key_limit
    || is_some (option_and_then (λ scope. get scope.keys k) o)) (sym is)

-- ---- the scopes after a write, as the code has it

-- they hold together
pub keeps : (f : Keys → Keys) (i : ℕ) (ss : List Scope) (s : Scope) (places : Places) (focus keys : ℕ)
    (m : Keys) (before after : ℕ) → IsWellFormed ss places focus keys → slice_get ss i ≡ Some s
    → m ≡ f s.keys → before ≡ len s.keys → after ≡ len m → keys - len s.keys + len (f s.keys) ≤ key_limit
    → IsWellFormed (slice_set ss i (record { name = s.name; parent = s.parent; keys = m })) places focus
    (keys - before + after)
keeps f i ss s places focus keys m before after w is new was now few =
    let written : slice_set ss i (record { name = s.name; parent = s.parent; keys = m }) ≡ changed f i ss =
    ap (λ (n : Keys). slice_set ss i (record { name = s.name; parent = s.parent; keys = n })) new
    ∙ changed_set f i ss s is in
    let count : keys - len s.keys + len (f s.keys) ≡ keys - before + after =
    ap (λ n. keys - n + len (f s.keys)) (sym was)
    ∙ ap (λ n. keys - before + n) (ap len (sym new) ∙ sym now) in
    subst (λ (us : List Scope). IsWellFormed us places focus (keys - before + after)) (sym written)
    (subst (λ (n : ℕ). IsWellFormed (changed f i ss) places focus n) count
    (IsWellFormed-changed f i ss s places focus keys w is few))

-- and they are seen as changed
pub seen_after : (f : Keys → Keys) (i : ℕ) (ss : List Scope) (s : Scope) (focus : ℕ) (m : Keys)
    → slice_get ss i ≡ Some s → m ≡ f s.keys
    → ◌≡◌ {A = ScopesData}
    (record {
      scopes = slice_set ss i (record { name = s.name; parent = s.parent; keys = m });
      focus = focus;
    }) (record { scopes = changed f i ss; focus = focus })
seen_after f i ss s focus m is new =
    ap (λ (us : List Scope). record { scopes = us; focus = focus })
    (ap (λ (n : Keys). slice_set ss i (record { name = s.name; parent = s.parent; keys = n })) new
    ∙ changed_set f i ss s is)

-- ---- nothing else changes

get-insert_text : (m : Keys) (k : List ℕ) (v : ContextValue) (q : List ℕ)
    → get (insert m k v) q ≡ cond (bytes_eq q k) (Some v) (get m q)
get-insert_text m k v q =
    get-insert nat_list_cmp_total m k v q ∙ ap (λ (b : Bool). cond b (Some v) (get m q)) (is_eq-slice_cmp q k)

get-remove_text : (m : Keys) (k q : List ℕ) → get (remove m k) q ≡ cond (bytes_eq q k) None (get m q)
get-remove_text m k q =
    get-remove nat_list_cmp_total m k q ∙ ap (λ (b : Bool). cond b None (get m q)) (is_eq-slice_cmp q k)

-- the keys after a change have this value of one key, and the others' old ones
record ChangesKey (f : Keys → Keys) (k : List ℕ) (o : Option ContextValue) : Type 0 where
  there : (m : Keys) → get (f m) k ≡ o
  others : (m : Keys) (q : List ℕ) → q ≢ k → get (f m) q ≡ get m q

own : (f : Keys → Keys) (k : List ℕ) (o : Option ContextValue) → ((m : Keys) → get (f m) k ≡ o)
    → (ss : List Scope) (i : ℕ) → i < length ss
    → option_and_then (λ s. get s.keys k) (slice_get (changed f i ss) i) ≡ o
own f k o h [] i lt = absurd (omega arith)
own f k o h (s ∷ ss) zero lt = h s.keys
own f k o h (s ∷ ss) (suc i) lt = own f k o h ss i (omega arith)

beside : (f : Keys → Keys) (q : List ℕ) → ((m : Keys) → get (f m) q ≡ get m q) → (ss : List Scope) (i : ℕ)
    → option_and_then (λ s. get s.keys q) (slice_get (changed f i ss) i)
    ≡ option_and_then (λ s. get s.keys q) (slice_get ss i)
beside f q h [] i = refl
beside f q h (s ∷ ss) zero = h s.keys
beside f q h (s ∷ ss) (suc i) = beside f q h ss i

away : (f : Keys → Keys) (q : List ℕ) (ss : List Scope) (i j : ℕ) → j ≢ i
    → option_and_then (λ s. get s.keys q) (slice_get (changed f i ss) j)
    ≡ option_and_then (λ s. get s.keys q) (slice_get ss j)
away f q [] i j h = refl
away f q (s ∷ ss) zero zero h = absurd (h refl)
away f q (s ∷ ss) zero (suc j) h = refl
away f q (s ∷ ss) (suc i) zero h = refl
away f q (s ∷ ss) (suc i) (suc j) h = away f q ss i j (λ e. h (ap (λ n. suc n) e))

changes_only : (f : Keys → Keys) (s : ScopesData) (i : ℕ) (k : List ℕ) (o : Option ContextValue)
    → ChangesKey f k o → i < length s.scopes
    → ChangesOnly s (record { scopes = changed f i s.scopes; focus = s.focus }) i k o
changes_only f s i k o h lt = record {
  there = own f k o h.there s.scopes i lt;
  other_keys = λ q apart. beside f q (λ m. h.others m q apart) s.scopes i;
  other_scopes = λ j q apart. away f q s.scopes i j apart;
}

pub set_changes : (s new : ScopesData) (i : ℕ) (k : List ℕ) (v : ContextValue) → new ≡ with_value_at s i k v
    → i < length s.scopes → ChangesOnly s new i k (Some v)
set_changes s new i k v e lt =
    subst (λ (t : ScopesData). ChangesOnly s t i k (Some v)) (sym e)
    (changes_only (λ m. insert m k v) s i k (Some v) (record {
      there = λ m. get-insert_text m k v k
          ∙ ap (λ (b : Bool). cond b (Some v) (get m k)) ((bytes_eq-Decides k k).1 refl);
      others = λ m q apart. get-insert_text m k v q
          ∙ ap (λ (b : Bool). cond b (Some v) (get m q))
          (false_from_ne_true _ (λ t. apart ((bytes_eq-Decides q k).0 t)));
    }) lt)

pub unset_changes : (s new : ScopesData) (i : ℕ) (k : List ℕ) → new ≡ without_value_at s i k
    → i < length s.scopes → ChangesOnly s new i k None
unset_changes s new i k e lt =
    subst (λ (t : ScopesData). ChangesOnly s t i k None) (sym e)
    (changes_only (λ m. remove m k) s i k None (record {
      there = λ m. get-remove_text m k k
          ∙ ap (λ (b : Bool). cond b None (get m k)) ((bytes_eq-Decides k k).1 refl);
      others = λ m q apart. get-remove_text m k q
          ∙ ap (λ (b : Bool). cond b None (get m q))
          (false_from_ne_true _ (λ t. apart ((bytes_eq-Decides q k).0 t)));
    }) lt)

-- the same through the scope's name
pub changes_in : (old new : ScopesData) (name : List ℕ) (at : ℕ) (k : List ℕ) (o : Option ContextValue)
    → place_of name old.scopes ≡ Some at → ChangesOnly old new at k o → ChangesOnlyIn old new name k o
changes_in old new name at k o e h = rw e h
