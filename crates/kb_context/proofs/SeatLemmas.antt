-- The index of the innermost scope that has a key: the search for it, the map of all keys, and what a change
-- of one key leaves.
use Rattle.std.proofs.Common.{◌≡◌, ◌≢◌, ℕ, zero, suc, ◌<◌, length, List, [], ◌∷◌, Bool, true, false}
use Rattle.std.proofs.Common.{Option, Some, None, cond, option_map, option_and_then, is_some, slice_get}
use Rattle.std.proofs.Common.{refl, sym, ◌∙◌, ap, subst, arith}
use Rattle.std.specs.Option.{option_map_or}
use Rattle.std.specs.Str.{bytes_eq}
use Rattle.std.specs.Ordering.{nat_cmp}
use Rattle.std.specs.Cmp.Lexicographic.{slice_cmp}
use Rattle.std.specs.FinMap.{FinMap, get, insert, remove, empty, contains_key, get-empty, get-insert, get-remove}
use Rattle.std.proofs.lemmas.Bool.{false_from_ne_true}
use Rattle.std.proofs.lemmas.Cmp.{nat_list_cmp_total}
use Rattle.std.proofs.lemmas.Map.Text.{is_eq-slice_cmp}
use Rattle.std.proofs.lemmas.Slice.Eq.{bytes_eq-Decides}
use Rattle.kb_base.specs.TextMap.{filled}
use Rattle.kb_context.specs.declared.value.ContextValue.{ContextValue}
use Rattle.kb_context.specs.declared.scope_tree.Scope.{Scope}
use Rattle.kb_context.specs.Scopes.{Keys, Places, ScopesData, outward, laid, value_at, changed}
use Rattle.kb_context.specs.Scopes.{seat_from, seat, IsFlat, IsFlatBut, place_of, with_value_at}
use Rattle.kb_context.specs.Scopes.{without_value, without_value_at, context}
use Rattle.kb_context.proofs.OutwardLemmas.{or_else, get-over}
use Rattle.kb_context.proofs.ScopesLemmas.{length-changed}

-- ---- the value at the seat of a key is the one that is seen

value_by_parent : (ss : List Scope) (k : List ℕ) (n : ℕ) (o : Option ℕ)
    → ((q : ℕ) → option_and_then (λ i. option_and_then (λ s. get s.keys k) (slice_get ss i)) (seat_from ss n q k)
    ≡ get (laid (outward ss n q)) k)
    → option_and_then (λ i. option_and_then (λ s. get s.keys k) (slice_get ss i))
    (option_and_then (λ q. seat_from ss n q k) o) ≡ get (laid (option_map_or (outward ss n) o [])) k
value_by_parent ss k n None h = sym (get-empty (slice_cmp nat_cmp) k)
value_by_parent ss k n (Some q) h = h q

value_by_own : (ss : List Scope) (k : List ℕ) (at : ℕ) (own : Option ContextValue) (rest : Option ℕ)
    (outer : Option ContextValue)
    → option_and_then (λ s. get s.keys k) (slice_get ss at) ≡ own
    → option_and_then (λ i. option_and_then (λ s. get s.keys k) (slice_get ss i)) rest ≡ outer
    → option_and_then (λ i. option_and_then (λ s. get s.keys k) (slice_get ss i))
    (cond (is_some own) (Some at) rest) ≡ or_else own outer
value_by_own ss k at (Some v) rest outer e h = e
value_by_own ss k at None rest outer e h = h

value_by_scope : (ss : List Scope) (k : List ℕ) (n at : ℕ) (o : Option Scope) → slice_get ss at ≡ o
    → ((q : ℕ) → option_and_then (λ i. option_and_then (λ s. get s.keys k) (slice_get ss i)) (seat_from ss n q k)
    ≡ get (laid (outward ss n q)) k)
    → option_and_then (λ i. option_and_then (λ s. get s.keys k) (slice_get ss i))
    (option_and_then (λ s. cond (is_some (get s.keys k)) (Some at)
    (option_and_then (λ q. seat_from ss n q k) s.parent)) o)
    ≡ get (laid (option_map_or (λ s. s.keys ∷ option_map_or (outward ss n) s.parent []) o [])) k
value_by_scope ss k n at None e h = sym (get-empty (slice_cmp nat_cmp) k)
value_by_scope ss k n at (Some s) e h =
    value_by_own ss k at (get s.keys k) (option_and_then (λ q. seat_from ss n q k) s.parent)
    (get (laid (option_map_or (outward ss n) s.parent [])) k) (rw e refl)
    (value_by_parent ss k n s.parent h)
    ∙ sym (get-over s.keys (laid (option_map_or (outward ss n) s.parent [])) k)

value_from_seat : (ss : List Scope) (k : List ℕ) (n at : ℕ)
    → option_and_then (λ i. option_and_then (λ s. get s.keys k) (slice_get ss i)) (seat_from ss n at k)
    ≡ get (laid (outward ss n at)) k
value_from_seat ss k zero at = sym (get-empty (slice_cmp nat_cmp) k)
value_from_seat ss k (suc n) at =
    value_by_scope ss k n at (slice_get ss at) refl (λ q. value_from_seat ss k n q)

pub value_at_seat : (s : ScopesData) (k : List ℕ)
    → option_and_then (λ i. value_at s i k) (seat s k) ≡ get (context s) k
value_at_seat s k = value_from_seat s.scopes k (length s.scopes) s.focus

-- ---- the search outward

-- the search goes on at a place, with the same answer
pub record SeatGoesOn (scopes : List Scope) (k : List ℕ) (answer : Option ℕ) (at : ℕ) : Type 0 where
  pub fuel : ℕ
  pub enough : at < fuel
  pub same : seat_from scopes fuel at k ≡ answer

-- what the map has, or what the scopes from a place outward give, is the answer for each key
pub record MarksOn (scopes : List Scope) (answer : List ℕ → Option ℕ) (flat : Places) (at : ℕ) : Type 0 where
  pub fuel : ℕ
  pub enough : at < fuel
  pub same : (k : List ℕ) → or_else (get flat k) (seat_from scopes fuel at k) ≡ answer k

marked : (old : Option ℕ) (own : Bool) (at : ℕ) (rest : Option ℕ)
    → or_else (filled old own at) rest ≡ or_else old (cond own (Some at) rest)
marked (Some i) own at rest = refl
marked None true at rest = refl
marked None false at rest = refl

all_marked : (o : Option ℕ) → or_else o None ≡ o
all_marked None = refl
all_marked (Some i) = refl

pub marks_start : (scopes : List Scope) (at : ℕ) (flat : Places) → flat ≡ empty → at < length scopes
    → MarksOn scopes (seat_from scopes (length scopes) at) flat at
marks_start scopes at flat e lt = record {
  fuel = length scopes;
  enough = lt;
  same = λ k. ap (λ (m : Places). or_else (get m k) (seat_from scopes (length scopes) at k)) e
      ∙ ap (λ o. or_else o (seat_from scopes (length scopes) at k)) (get-empty (slice_cmp nat_cmp) k);
}

module _ (scopes : List Scope) (at : ℕ) (s : Scope) (is : slice_get scopes at ≡ Some s) where
  -- the seat is the scope itself, or lies outward
  seat_step : (fuel : ℕ) (k : List ℕ)
      → seat_from scopes (suc fuel) at k
      ≡ cond (is_some (get s.keys k)) (Some at) (option_and_then (λ q. seat_from scopes fuel q k) s.parent)
  seat_step fuel k = rw is refl

  module _ (k : List ℕ) (answer : Option ℕ) where
    hit_by : (fuel : ℕ) → contains_key s.keys k ≡ true → at < fuel → seat_from scopes fuel at k ≡ answer
        → answer ≡ Some at
    hit_by zero e lt h = absurd (omega arith)
    hit_by (suc fuel) e lt h = sym h ∙ seat_step fuel k
        ∙ ap (λ (b : Bool). cond b (Some at) (option_and_then (λ q. seat_from scopes fuel q k) s.parent)) e

    none_by : (fuel : ℕ) → contains_key s.keys k ≡ false → s.parent ≡ None → at < fuel
        → seat_from scopes fuel at k ≡ answer → answer ≡ None
    none_by zero e p lt h = absurd (omega arith)
    none_by (suc fuel) e p lt h = sym h ∙ seat_step fuel k
        ∙ ap (λ (b : Bool). cond b (Some at) (option_and_then (λ q. seat_from scopes fuel q k) s.parent)) e
        ∙ ap (option_and_then (λ q. seat_from scopes fuel q k)) p

    on_by : (q : ℕ) (fuel : ℕ) → contains_key s.keys k ≡ false → s.parent ≡ Some q → q < at → at < fuel
        → seat_from scopes fuel at k ≡ answer → SeatGoesOn scopes k answer q
    on_by q zero e p below lt h = absurd (omega arith)
    on_by q (suc fuel) e p below lt h = record {
      fuel = fuel;
      enough = omega arith;
      same = sym (seat_step fuel k
          ∙ ap (λ (b : Bool). cond b (Some at) (option_and_then (λ q. seat_from scopes fuel q k) s.parent)) e
          ∙ ap (option_and_then (λ q. seat_from scopes fuel q k)) p) ∙ h;
    }

    pub seat_hit : contains_key s.keys k ≡ true → SeatGoesOn scopes k answer at → answer ≡ Some at
    seat_hit e g = hit_by g.fuel e g.enough g.same

    pub seat_none : contains_key s.keys k ≡ false → s.parent ≡ None → SeatGoesOn scopes k answer at
        → answer ≡ None
    seat_none e p g = none_by g.fuel e p g.enough g.same

    pub seat_on : (q : ℕ) → contains_key s.keys k ≡ false → s.parent ≡ Some q → q < at
        → SeatGoesOn scopes k answer at → SeatGoesOn scopes k answer q
    seat_on q e p below g = on_by q g.fuel e p below g.enough g.same

  module _ (answer : List ℕ → Option ℕ) (flat more : Places)
      (fills : (k : List ℕ) → get more k ≡ filled (get flat k) (contains_key s.keys k) at) where
    mark_step : (fuel : ℕ) (k : List ℕ)
        → or_else (get more k) (option_and_then (λ q. seat_from scopes fuel q k) s.parent)
        ≡ or_else (get flat k) (seat_from scopes (suc fuel) at k)
    mark_step fuel k =
        ap (λ o. or_else o (option_and_then (λ q. seat_from scopes fuel q k) s.parent)) (fills k)
        ∙ marked (get flat k) (contains_key s.keys k) at
        (option_and_then (λ q. seat_from scopes fuel q k) s.parent)
        ∙ ap (or_else (get flat k)) (sym (seat_step fuel k))

    marks_on_by : (q : ℕ) (fuel : ℕ) → s.parent ≡ Some q → q < at → at < fuel
        → ((k : List ℕ) → or_else (get flat k) (seat_from scopes fuel at k) ≡ answer k)
        → MarksOn scopes answer more q
    marks_on_by q zero p below lt h = absurd (omega arith)
    marks_on_by q (suc fuel) p below lt h = record {
      fuel = fuel;
      enough = omega arith;
      same = λ k. ap (λ o. or_else (get more k) (option_and_then (λ q. seat_from scopes fuel q k) o)) (sym p)
          ∙ mark_step fuel k ∙ h k;
    }

    marks_end_by : (fuel : ℕ) → s.parent ≡ None → at < fuel
        → ((k : List ℕ) → or_else (get flat k) (seat_from scopes fuel at k) ≡ answer k)
        → (k : List ℕ) → get more k ≡ answer k
    marks_end_by zero p lt h k = absurd (omega arith)
    marks_end_by (suc fuel) p lt h k =
        sym (all_marked (get more k))
        ∙ ap (λ o. or_else (get more k) (option_and_then (λ q. seat_from scopes fuel q k) o)) (sym p)
        ∙ mark_step fuel k ∙ h k

    pub marks_parent : (q : ℕ) → s.parent ≡ Some q → q < at → MarksOn scopes answer flat at
        → MarksOn scopes answer more q
    marks_parent q p below g = marks_on_by q g.fuel p below g.enough g.same

    pub marks_end : s.parent ≡ None → MarksOn scopes answer flat at → (k : List ℕ) → get more k ≡ answer k
    marks_end p g = marks_end_by g.fuel p g.enough g.same

-- ---- a change of one key leaves the seats of all others

-- what the search outward asks of a scope
pub record Asked : Type 0 where
  pub has : Bool
  pub outer : Option ℕ

abbrev asked : List ℕ → Scope → Asked
asked q s = record { has = is_some (get s.keys q); outer = s.parent }

abbrev seat_asked : (ℕ → Option ℕ) → ℕ → Asked → Option ℕ
seat_asked g at e = cond e.has (Some at) (option_and_then g e.outer)

-- the seat, by what is seen of the scope
by_parts : (q : List ℕ) (g : ℕ → Option ℕ) (at : ℕ) (o : Option Scope)
    → option_and_then (λ s. cond (is_some (get s.keys q)) (Some at) (option_and_then g s.parent)) o
    ≡ option_and_then (seat_asked g at) (option_map (asked q) o)
by_parts q g at None = refl
by_parts q g at (Some s) = refl

same_outer : (g h : ℕ → Option ℕ) → ((n : ℕ) → g n ≡ h n) → (o : Option ℕ)
    → option_and_then g o ≡ option_and_then h o
same_outer g h e None = refl
same_outer g h e (Some n) = e n

same_body : (q : List ℕ) (g h : ℕ → Option ℕ) → ((n : ℕ) → g n ≡ h n) → (at : ℕ) (o : Option Scope)
    → option_and_then (λ s. cond (is_some (get s.keys q)) (Some at) (option_and_then g s.parent)) o
    ≡ option_and_then (λ s. cond (is_some (get s.keys q)) (Some at) (option_and_then h s.parent)) o
same_body q g h e at None = refl
same_body q g h e at (Some s) = ap (cond (is_some (get s.keys q)) (Some at)) (same_outer g h e s.parent)

-- scopes that answer the same have the same seat
module _ (q : List ℕ) (old new : List Scope)
    (same : (i : ℕ) → option_map (asked q) (slice_get new i) ≡ option_map (asked q) (slice_get old i)) where
  same_seat : (n at : ℕ) → seat_from new n at q ≡ seat_from old n at q
  same_seat zero at = refl
  same_seat (suc n) at =
      same_body q (λ p. seat_from new n p q) (λ p. seat_from old n p q) (λ p. same_seat n p) at (slice_get new at)
      ∙ by_parts q (λ p. seat_from old n p q) at (slice_get new at)
      ∙ ap (option_and_then (seat_asked (λ p. seat_from old n p q) at)) (same at)
      ∙ sym (by_parts q (λ p. seat_from old n p q) at (slice_get old at))

module _ (f : Keys → Keys) (q : List ℕ) (keeps : (m : Keys) → get (f m) q ≡ get m q) where
  same_scope : (ss : List Scope) (a i : ℕ)
      → option_map (asked q) (slice_get (changed f a ss) i) ≡ option_map (asked q) (slice_get ss i)
  same_scope [] a i = refl
  same_scope (s ∷ ss) zero zero =
      ap (λ (o : Option ContextValue). Some (record { has = is_some o; outer = s.parent })) (keeps s.keys)
  same_scope (s ∷ ss) zero (suc i) = refl
  same_scope (s ∷ ss) (suc a) zero = refl
  same_scope (s ∷ ss) (suc a) (suc i) = same_scope ss a i

  seat-changed : (s : ScopesData) (a : ℕ)
      → seat (record { scopes = changed f a s.scopes; focus = s.focus }) q ≡ seat s q
  seat-changed s a =
      ap (λ n. seat_from (changed f a s.scopes) n s.focus q) (length-changed f a s.scopes)
      ∙ same_seat q s.scopes (changed f a s.scopes) (same_scope s.scopes a) (length s.scopes) s.focus

  value-changed : (ss : List Scope) (a i : ℕ)
      → option_and_then (λ s. get s.keys q) (slice_get (changed f a ss) i)
      ≡ option_and_then (λ s. get s.keys q) (slice_get ss i)
  value-changed [] a i = refl
  value-changed (s ∷ ss) zero zero = keeps s.keys
  value-changed (s ∷ ss) zero (suc i) = refl
  value-changed (s ∷ ss) (suc a) zero = refl
  value-changed (s ∷ ss) (suc a) (suc i) = value-changed ss a i

  values-changed : (ss : List Scope) (a : ℕ) (o : Option ℕ)
      → option_and_then (λ i. option_and_then (λ s. get s.keys q) (slice_get (changed f a ss) i)) o
      ≡ option_and_then (λ i. option_and_then (λ s. get s.keys q) (slice_get ss i)) o
  values-changed ss a None = refl
  values-changed ss a (Some i) = value-changed ss a i

  context-changed : (s : ScopesData) (a : ℕ)
      → get (context (record { scopes = changed f a s.scopes; focus = s.focus })) q ≡ get (context s) q
  context-changed s a =
      sym (value_at_seat (record { scopes = changed f a s.scopes; focus = s.focus }) q)
      ∙ values-changed s.scopes a (seat (record { scopes = changed f a s.scopes; focus = s.focus }) q)
      ∙ ap (option_and_then (λ i. value_at s i q)) (seat-changed s a)
      ∙ value_at_seat s q

get-insert_other : {A : Type 0} (m : FinMap (slice_cmp nat_cmp) A) (k : List ℕ) (v : A) (q : List ℕ) → q ≢ k
    → get (insert m k v) q ≡ get m q
get-insert_other m k v q apart =
    get-insert nat_list_cmp_total m k v q ∙ ap (λ (b : Bool). cond b (Some v) (get m q)) (is_eq-slice_cmp q k)
    ∙ ap (λ (b : Bool). cond b (Some v) (get m q))
    (false_from_ne_true _ (λ t. apart ((bytes_eq-Decides q k).0 t)))

get-remove_other : {A : Type 0} (m : FinMap (slice_cmp nat_cmp) A) (k : List ℕ) (q : List ℕ) → q ≢ k
    → get (remove m k) q ≡ get m q
get-remove_other m k q apart =
    get-remove nat_list_cmp_total m k q ∙ ap (λ (b : Bool). cond b None (get m q)) (is_eq-slice_cmp q k)
    ∙ ap (λ (b : Bool). cond b None (get m q))
    (false_from_ne_true _ (λ t. apart ((bytes_eq-Decides q k).0 t)))

-- a change of a key leaves the seats and the values of all others
pub record ChangesBut (s new : ScopesData) (k : List ℕ) : Type 0 where
  pub seats : (q : List ℕ) → q ≢ k → seat new q ≡ seat s q
  pub values : (q : List ℕ) → q ≢ k → get (context new) q ≡ get (context s) q

pub set_but : (s : ScopesData) (at : ℕ) (k : List ℕ) (v : ContextValue) → ChangesBut s (with_value_at s at k v) k
set_but s at k v = record {
  seats = λ q apart. seat-changed (λ m. insert m k v) q (λ m. get-insert_other m k v q apart) s at;
  values = λ q apart. context-changed (λ m. insert m k v) q (λ m. get-insert_other m k v q apart) s at;
}

unset_at_but : (s : ScopesData) (at : ℕ) (k : List ℕ) → ChangesBut s (without_value_at s at k) k
unset_at_but s at k = record {
  seats = λ q apart. seat-changed (λ m. remove m k) q (λ m. get-remove_other m k q apart) s at;
  values = λ q apart. context-changed (λ m. remove m k) q (λ m. get-remove_other m k q apart) s at;
}

unset_by_place : (s : ScopesData) (k : List ℕ) (o : Option ℕ)
    → ChangesBut s (option_map_or (λ at. without_value_at s at k) o s) k
unset_by_place s k None = record { seats = λ q apart. refl; values = λ q apart. refl }
unset_by_place s k (Some at) = unset_at_but s at k

pub unset_but : (s : ScopesData) (name k : List ℕ) → ChangesBut s (without_value s name k) k
unset_but s name k = unset_by_place s k (place_of name s.scopes)

-- ---- the seat of a key that is set where it is seen

seat_has_own : (ss : List Scope) (k : List ℕ) (i at : ℕ) (s : Scope) (own : Option ContextValue) (rest : Option ℕ)
    → slice_get ss i ≡ Some s → get s.keys k ≡ own → cond (is_some own) (Some i) rest ≡ Some at
    → (rest ≡ Some at → is_some (option_and_then (λ t. get t.keys k) (slice_get ss at)) ≡ true)
    → is_some (option_and_then (λ t. get t.keys k) (slice_get ss at)) ≡ true
seat_has_own ss k i at s (Some v) rest is own e h =
    let same : i ≡ at = cc in
    ap (λ j. is_some (option_and_then (λ t. get t.keys k) (slice_get ss j))) (sym same)
    ∙ ap (λ o. is_some (option_and_then (λ t. get t.keys k) o)) is ∙ ap is_some own
seat_has_own ss k i at s None rest is own e h = h e

seat_has_parent : (ss : List Scope) (k : List ℕ) (n at : ℕ) (o : Option ℕ)
    → option_and_then (λ q. seat_from ss n q k) o ≡ Some at
    → ((q : ℕ) → seat_from ss n q k ≡ Some at
    → is_some (option_and_then (λ t. get t.keys k) (slice_get ss at)) ≡ true)
    → is_some (option_and_then (λ t. get t.keys k) (slice_get ss at)) ≡ true
seat_has_parent ss k n at None e h = absurd (let no : Bool = true in cc)
seat_has_parent ss k n at (Some q) e h = h q e

seat_has_scope : (ss : List Scope) (k : List ℕ) (n i at : ℕ) (o : Option Scope) → slice_get ss i ≡ o
    → option_and_then (λ s. cond (is_some (get s.keys k)) (Some i)
    (option_and_then (λ q. seat_from ss n q k) s.parent)) o ≡ Some at
    → ((q : ℕ) → seat_from ss n q k ≡ Some at
    → is_some (option_and_then (λ t. get t.keys k) (slice_get ss at)) ≡ true)
    → is_some (option_and_then (λ t. get t.keys k) (slice_get ss at)) ≡ true
seat_has_scope ss k n i at None is e h = absurd (let no : Bool = true in cc)
seat_has_scope ss k n i at (Some s) is e h =
    seat_has_own ss k i at s (get s.keys k) (option_and_then (λ q. seat_from ss n q k) s.parent) is refl e
    (λ r. seat_has_parent ss k n at s.parent r h)

-- the scope at the seat of a key has it
seat_has : (ss : List Scope) (k : List ℕ) (n i at : ℕ) → seat_from ss n i k ≡ Some at
    → is_some (option_and_then (λ t. get t.keys k) (slice_get ss at)) ≡ true
seat_has ss k zero i at e = absurd (let no : Bool = true in cc)
seat_has ss k (suc n) i at e = seat_has_scope ss k n i at (slice_get ss i) refl e (λ q. seat_has ss k n q at)

get-insert_own : {A : Type 0} (m : FinMap (slice_cmp nat_cmp) A) (k : List ℕ) (v : A) → get (insert m k v) k ≡ Some v
get-insert_own m k v =
    get-insert nat_list_cmp_total m k v k ∙ ap (λ (b : Bool). cond b (Some v) (get m k)) (is_eq-slice_cmp k k)
    ∙ ap (λ (b : Bool). cond b (Some v) (get m k)) ((bytes_eq-Decides k k).1 refl)

-- a scope that has a key answers the same after it was set there
same_set : (k : List ℕ) (v : ContextValue) (ss : List Scope) (a i : ℕ)
    → is_some (option_and_then (λ t. get t.keys k) (slice_get ss a)) ≡ true
    → option_map (asked k) (slice_get (changed (λ m. insert m k v) a ss) i) ≡ option_map (asked k) (slice_get ss i)
same_set k v [] a i h = refl
same_set k v (s ∷ ss) zero zero h =
    ap (λ (b : Bool). Some (record { has = b; outer = s.parent })) (ap is_some (get-insert_own s.keys k v) ∙ sym h)
same_set k v (s ∷ ss) zero (suc i) h = refl
same_set k v (s ∷ ss) (suc a) zero h = refl
same_set k v (s ∷ ss) (suc a) (suc i) h = same_set k v ss a i h

-- so it stays the seat of the key
pub seat_stays : (s : ScopesData) (at : ℕ) (k : List ℕ) (v : ContextValue) → seat s k ≡ Some at
    → seat (with_value_at s at k v) k ≡ Some at
seat_stays s at k v e =
    ap (λ n. seat_from (changed (λ m. insert m k v) at s.scopes) n s.focus k)
    (length-changed (λ m. insert m k v) at s.scopes)
    ∙ same_seat k s.scopes (changed (λ m. insert m k v) at s.scopes)
    (λ i. same_set k v s.scopes at i (seat_has s.scopes k (length s.scopes) s.focus at e))
    (length s.scopes) s.focus ∙ e

-- ---- the map of one more key

false_is_not_true : false ≡ true → ⊥
false_is_not_true e = absurd (let no : false ≡ true = e in cc)

seat_by : (s : ScopesData) (flat : Places) (k : List ℕ) (new : Places) (o : Option ℕ) → IsFlatBut s flat k
    → seat s k ≡ o → get new k ≡ o → ((q : List ℕ) → q ≢ k → get new q ≡ get flat q) → IsFlat s new
seat_by s flat k new o h is own others = λ q. by_test (bytes_eq q k) q refl
  where
    by_test : (b : Bool) (q : List ℕ) → bytes_eq q k ≡ b → get new q ≡ seat s q
    by_test true q e = subst (λ (p : List ℕ). get new p ≡ seat s p) (sym ((bytes_eq-Decides q k).0 e))
        (own ∙ sym is)
    by_test false q e = let apart : q ≢ k = λ p. false_is_not_true (sym e ∙ (bytes_eq-Decides q k).1 p) in
        others q apart ∙ h q apart

get-remove_own : (m : Places) (k : List ℕ) → get (remove m k) k ≡ None
get-remove_own m k =
    get-remove nat_list_cmp_total m k k ∙ ap (λ (b : Bool). cond b None (get m k)) (is_eq-slice_cmp k k)
    ∙ ap (λ (b : Bool). cond b None (get m k)) ((bytes_eq-Decides k k).1 refl)

pub flat_insert : (s : ScopesData) (flat new : Places) (k : List ℕ) (at : ℕ) → IsFlatBut s flat k
    → seat s k ≡ Some at → new ≡ insert flat k at → IsFlat s new
flat_insert s flat new k at h is e =
    subst (IsFlat s) (sym e) (seat_by s flat k (insert flat k at) (Some at) h is (get-insert_own flat k at)
    (λ q apart. get-insert_other flat k at q apart))

pub flat_remove : (s : ScopesData) (flat new : Places) (k : List ℕ) → IsFlatBut s flat k
    → seat s k ≡ None → new ≡ remove flat k → IsFlat s new
flat_remove s flat new k h is e =
    subst (IsFlat s) (sym e) (seat_by s flat k (remove flat k) None h is (get-remove_own flat k)
    (λ q apart. get-remove_other flat k q apart))

-- the map that has the seat of the key already
pub flat_same : (s : ScopesData) (flat : Places) (k : List ℕ) (at : ℕ) → IsFlatBut s flat k → seat s k ≡ Some at
    → get flat k ≡ Some at → IsFlat s flat
flat_same s flat k at h is own = seat_by s flat k flat (Some at) h is own (λ q apart. refl)
