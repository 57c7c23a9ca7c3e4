-- A hash map with strings as keys, as a finite map from the bytes of its keys.
use Rattle.std.proofs.Common.{◌≡◌, ℕ, ◌+◌, List, [], ◌∷◌, Bool, true, false, Option, Some, None, cond, length, refl}
use Rattle.std.proofs.Common.{sym, ◌∙◌, ap, String, string_bytes, is_some, add-one, Result, Ok, Err, OnErr}
use Rattle.std.specs.Ordering.{nat_cmp, eq_by_cmp}
use Rattle.std.specs.Str.{bytes_eq}
use Rattle.std.specs.Borrow.{Bor}
use Rattle.std.specs.Prelude.{◌||◌, map, ◌++◌}
use Rattle.std.specs.List.{AllByRecursion, IsDistinct, list_any}
use Rattle.std.specs.Map.{lookup, keys_of}
use Rattle.std.specs.Cmp.Lexicographic.{slice_cmp}
use Rattle.std.specs.HashMap as hash
use Rattle.std.specs.HashMap.{HashMap}
use Rattle.std.specs.String.{string_eq}
use Rattle.std.specs.FinMap.{FinMap, get, insert, remove, len, contains_key, from_entries, find}
use Rattle.std.specs.FinMap.{get-from_entries, get-insert, get-remove, len-insert, len-empty, same_map}
use Rattle.std.specs.declared.alloc.Global.{Global}
use Rattle.std.proofs.lemmas.Cmp.{nat_list_cmp_total}
use Rattle.std.proofs.lemmas.Map.Lookups.{exact_bytes}
use Rattle.std.proofs.lemmas.Map.Text.{hash_map_updates_text, is_eq-slice_cmp}
use Rattle.std.specs.Cmp.{eq_by_cmp_equiv}
use Rattle.std.proofs.lemmas.Slice.Eq.{bytes_eq-Decides}
use Rattle.kb_base.specs.TextMap.{by_bytes, filled}

-- the finite map of a table
abbrev pub seen : {X : Type 0} → List (String Global × X) → FinMap (slice_cmp nat_cmp) X
seen es = from_entries (by_bytes es)

same_test : (k q : List ℕ) → bytes_eq k q ≡ eq_by_cmp (slice_cmp nat_cmp) q k
same_test k q = sym (is_eq-slice_cmp k q) ∙ (eq_by_cmp_equiv nat_list_cmp_total).symm k q

module _ {X : Type 0} where
  found : (es : List (String Global × X)) (q : List ℕ)
      → find (slice_cmp nat_cmp) q (by_bytes es) ≡ lookup (λ k. bytes_eq q (string_bytes k)) es
  found [] q = refl
  found (e ∷ es) q =
      ap (λ (b : Bool). cond b (Some e.1) (find (slice_cmp nat_cmp) q (by_bytes es)))
      (is_eq-slice_cmp q (string_bytes e.0))
      ∙ ap (cond (bytes_eq q (string_bytes e.0)) (Some e.1)) (found es q)

  pub get_seen : (es : List (String Global × X)) (q : List ℕ)
      → get (seen es) q ≡ lookup (λ k. bytes_eq q (string_bytes k)) es
  get_seen es q = get-from_entries nat_list_cmp_total (by_bytes es) q ∙ found es q

  -- a key that the table lacks
  pub absent_seen : {S : Type 0} (m : HashMap (String Global) X S) (q : List ℕ)
      → hash.get_by_text m q ≡ None → contains_key (seen m.entries) q ≡ false
  absent_seen m q h = ap is_some (get_seen m.entries q ∙ h)

  module _ {S : Type 0} (m n : HashMap (String Global) X S) (k : List ℕ) where
    pub seen_inserted : (v : X) → hash.UpdatesBy string_eq (λ s. bytes_eq k (string_bytes s)) m n (Some v)
        → seen n.entries ≡ insert (seen m.entries) k v
    seen_inserted v u = same_map nat_list_cmp_total exact_bytes _ _ (λ q.
        get_seen n.entries q ∙ hash_map_updates_text k m n (Some v) u q
        ∙ ap (λ (b : Bool). cond b (Some v) (hash.get_by_text m q)) (same_test k q)
        ∙ sym (get-insert nat_list_cmp_total (seen m.entries) k v q
        ∙ ap (cond (eq_by_cmp (slice_cmp nat_cmp) q k) (Some v)) (get_seen m.entries q)))

    pub seen_removed : hash.UpdatesBy string_eq (λ s. bytes_eq k (string_bytes s)) m n None
        → seen n.entries ≡ remove (seen m.entries) k
    seen_removed u = same_map nat_list_cmp_total exact_bytes _ _ (λ q.
        get_seen n.entries q ∙ hash_map_updates_text k m n None u q
        ∙ ap (λ (b : Bool). cond b None (hash.get_by_text m q)) (same_test k q)
        ∙ sym (get-remove nat_list_cmp_total (seen m.entries) k q
        ∙ ap (cond (eq_by_cmp (slice_cmp nat_cmp) q k) None) (get_seen m.entries q)))

  absent : (k : String Global) (es : List (String Global × X))
      → AllByRecursion (λ y. string_eq k y ≡ false) (keys_of es)
      → lookup (λ y. bytes_eq (string_bytes k) (string_bytes y)) es ≡ None
  absent k [] h = refl
  absent k (e ∷ es) h = ap
      (λ (b : Bool). cond b (Some e.1) (lookup (λ y. bytes_eq (string_bytes k) (string_bytes y)) es)) h.0
      ∙ absent k es h.1

  pub len_seen : (es : List (String Global × X)) → IsDistinct string_eq (keys_of es)
      → len (seen es) ≡ length es
  unfolding IsDistinct
  len_seen [] h = len-empty (slice_cmp nat_cmp) X
  len_seen (e ∷ es) h =
      len-insert nat_list_cmp_total (seen es) (string_bytes e.0) e.1
      ∙ ap (λ (o : Option X). cond (is_some o) (len (seen es)) (len (seen es) + 1))
      (get_seen es (string_bytes e.0) ∙ absent e.0 es h.0)
      ∙ ap (λ n. n + 1) (len_seen es h.1) ∙ add-one _

-- what holds anyway holds on an error
pub OnErr-holds : {X E P : Type 0} (r : Result X E) → P → OnErr r P
OnErr-holds (Ok x) p = tt
OnErr-holds (Err e) p = p

-- ---- a table that another one's keys fill

no_value : {A : Type 0} (o : Option A) → is_some o ≡ false → o ≡ None
no_value None e = refl
no_value (Some x) e = absurd (let no : true ≡ false = e in cc)

filled_step : {X : Type 0} (b : Bool) (o : Option ℕ) (v : X) (r : Option X) (w : ℕ) → (b ≡ true → o ≡ None)
    → filled (cond b (Some w) o) (is_some r) w ≡ filled o (is_some (cond b (Some v) r)) w
filled_step true o v r w h = ap (λ p. filled p true w) (sym (h refl))
filled_step false o v r w h = refl

filled_there : {X : Type 0} (b : Bool) (o : Option ℕ) (v : X) (r : Option X) (w : ℕ)
    → (b ≡ true → is_some o ≡ true) → filled o (is_some r) w ≡ filled o (is_some (cond b (Some v) r)) w
filled_there b (Some x) v r w h = refl
filled_there true None v r w h = absurd (let no : false ≡ true = h refl in cc)
filled_there false None v r w h = refl

-- an entry whose key is new fills its key
pub filled_more : {X : Type 0} (m n : FinMap (slice_cmp nat_cmp) ℕ) (k : String Global) (v : X)
    (rest : List (String Global × X)) (w : ℕ) → contains_key m (string_bytes k) ≡ false
    → n ≡ insert m (string_bytes k) w → (q : List ℕ)
    → filled (get n q) (is_some (lookup (λ s. bytes_eq q (string_bytes s)) rest)) w
    ≡ filled (get m q) (is_some (lookup (λ s. bytes_eq q (string_bytes s)) ((k, v) ∷ rest))) w
filled_more m n k v rest w new is q =
    ap (λ (t : FinMap (slice_cmp nat_cmp) ℕ).
    filled (get t q) (is_some (lookup (λ s. bytes_eq q (string_bytes s)) rest)) w) is
    ∙ ap (λ o. filled o (is_some (lookup (λ s. bytes_eq q (string_bytes s)) rest)) w)
    (get-insert nat_list_cmp_total m (string_bytes k) w q
    ∙ ap (λ (b : Bool). cond b (Some w) (get m q)) (is_eq-slice_cmp q (string_bytes k)))
    ∙ filled_step (bytes_eq q (string_bytes k)) (get m q) v
    (lookup (λ s. bytes_eq q (string_bytes s)) rest) w
    (λ e. ap (get m) ((bytes_eq-Decides q (string_bytes k)).0 e) ∙ no_value _ new)

-- an entry whose key is there fills nothing
pub filled_same : {X : Type 0} (m : FinMap (slice_cmp nat_cmp) ℕ) (k : String Global) (v : X)
    (rest : List (String Global × X)) (w : ℕ) → contains_key m (string_bytes k) ≡ true → (q : List ℕ)
    → filled (get m q) (is_some (lookup (λ s. bytes_eq q (string_bytes s)) rest)) w
    ≡ filled (get m q) (is_some (lookup (λ s. bytes_eq q (string_bytes s)) ((k, v) ∷ rest))) w
filled_same m k v rest w there q =
    filled_there (bytes_eq q (string_bytes k)) (get m q) v (lookup (λ s. bytes_eq q (string_bytes s)) rest) w
    (λ e. ap is_some (ap (get m) ((bytes_eq-Decides q (string_bytes k)).0 e)) ∙ there)

-- ---- a table whose keys are lent

or_apart : (a b c : Bool) → ((a || b) || c) ≡ (a || (b || c))
or_apart true b c = refl
or_apart false b c = refl

first_taken : {X : Type 0} (b : Bool) (v : X) (o : Option X) → ((b || false) || is_some o) ≡ is_some (cond b (Some v) o)
first_taken true v o = refl
first_taken false v o = refl

-- an entry that is taken goes from the entries that are left to the keys that were taken
pub one_taken : {X : Type 0} (taken : List (Bor (List ℕ))) (one : Bor (List ℕ)) (k : String Global) (v : X)
    (rest : List (String Global × X)) (q : List ℕ) → one.now ≡ string_bytes k
    → (list_any (bytes_eq q) (map (λ (b : Bor (List ℕ)). b.now) (taken ++ one ∷ []))
    || is_some (lookup (λ s. bytes_eq q (string_bytes s)) rest))
    ≡ (list_any (bytes_eq q) (map (λ (b : Bor (List ℕ)). b.now) taken)
    || is_some (lookup (λ s. bytes_eq q (string_bytes s)) ((k, v) ∷ rest)))
one_taken [] one k v rest q e =
    ap (λ (t : List ℕ). (bytes_eq q t || false) || is_some (lookup (λ s. bytes_eq q (string_bytes s)) rest)) e
    ∙ first_taken (bytes_eq q (string_bytes k)) v (lookup (λ s. bytes_eq q (string_bytes s)) rest)
one_taken (t ∷ ts) one k v rest q e =
    or_apart (bytes_eq q t.now) _ _ ∙ ap (λ (b : Bool). bytes_eq q t.now || b) (one_taken ts one k v rest q e)
    ∙ sym (or_apart (bytes_eq q t.now) _ _)
