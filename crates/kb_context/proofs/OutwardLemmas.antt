-- Lookups in the maps of scopes, and one step of the search outward.
use Rattle.std.proofs.Common.{◌≡◌, ℕ, zero, suc, ◌+◌, ◌<◌, ◌≤◌, length, List, [], ◌∷◌, ◌++◌, Bool, true}
use Rattle.std.proofs.Common.{false, Option, Some, None, cond, slice_get, refl, sym, ◌∙◌, ap, arith}
use Rattle.std.specs.Option.{option_map_or}
use Rattle.std.specs.Ordering.{nat_cmp, eq_by_cmp}
use Rattle.std.specs.Cmp.Lexicographic.{slice_cmp}
use Rattle.std.specs.FinMap.{get, entries, find, get-from_entries, get-entries, get-empty}
use Rattle.std.proofs.lemmas.Cmp.{nat_list_cmp_total}
use Rattle.kb_context.specs.declared.value.ContextValue.{ContextValue}
use Rattle.kb_context.specs.declared.scope_tree.Scope.{Scope}
use Rattle.kb_context.specs.Scopes.{Keys, over, outward, laid, IsRooted}
use Rattle.kb_context.proofs.ScopesLemmas.{parent_before}

-- the first value, or the second where there is none
abbrev pub or_else : {A : Type 0} → Option A → Option A → Option A
or_else (Some x) y = Some x
or_else None y = y

one : {A : Type 0} (b : Bool) (v : A) (x y : Option A)
    → cond b (Some v) (or_else x y) ≡ or_else (cond b (Some v) x) y
one true v x y = refl
one false v x y = refl

found-append : (q : List ℕ) (xs ys : List (List ℕ × ContextValue))
    → find (slice_cmp nat_cmp) q (xs ++ ys)
    ≡ or_else (find (slice_cmp nat_cmp) q xs) (find (slice_cmp nat_cmp) q ys)
found-append q [] ys = refl
found-append q (e ∷ xs) ys =
    ap (cond (eq_by_cmp (slice_cmp nat_cmp) q e.0) (Some e.1)) (found-append q xs ys)
    ∙ one (eq_by_cmp (slice_cmp nat_cmp) q e.0) e.1 _ _

-- where maps are laid over one another, the inner value counts
pub get-over : (inner outer : Keys) (q : List ℕ)
    → get (over inner outer) q ≡ or_else (get inner q) (get outer q)
unfolding over
get-over inner outer q =
    get-from_entries nat_list_cmp_total (entries inner ++ entries outer) q
    ∙ found-append q (entries inner) (entries outer)
    ∙ ap (λ o. or_else o (find (slice_cmp nat_cmp) q (entries outer))) (sym (get-entries inner q))
    ∙ ap (or_else (get inner q)) (sym (get-entries outer q))

-- the search goes on at a place, with the same answer
pub record GoesOn (scopes : List Scope) (k : List ℕ) (answer : Option ContextValue) (at : ℕ) : Type 0 where
  pub fuel : ℕ
  pub enough : at < fuel
  pub same : get (laid (outward scopes fuel at)) k ≡ answer

module _ (scopes : List Scope) (k : List ℕ) (answer : Option ContextValue) (at : ℕ) (s : Scope)
    (is : slice_get scopes at ≡ Some s) where
  -- what is found at a scope is its own value, or that of what lies outward
  pub step_by : (fuel : ℕ)
      → get (laid (outward scopes (suc fuel) at)) k
      ≡ or_else (get s.keys k) (get (laid (option_map_or (outward scopes fuel) s.parent [])) k)
  step_by fuel = rw is (get-over s.keys (laid (option_map_or (outward scopes fuel) s.parent [])) k)

  hit_by : (v : ContextValue) (fuel : ℕ) → get s.keys k ≡ Some v → at < fuel
      → get (laid (outward scopes fuel at)) k ≡ answer → answer ≡ Some v
  hit_by v zero e lt h = absurd (omega arith)
  hit_by v (suc fuel) e lt h =
      sym h ∙ step_by fuel
      ∙ ap (λ o. or_else o (get (laid (option_map_or (outward scopes fuel) s.parent [])) k)) e

  none_by : (fuel : ℕ) → get s.keys k ≡ None → s.parent ≡ None → at < fuel
      → get (laid (outward scopes fuel at)) k ≡ answer → answer ≡ None
  none_by zero e p lt h = absurd (omega arith)
  none_by (suc fuel) e p lt h =
      sym h ∙ step_by fuel
      ∙ ap (λ o. or_else o (get (laid (option_map_or (outward scopes fuel) s.parent [])) k)) e
      ∙ ap (λ o. get (laid (option_map_or (outward scopes fuel) o [])) k) p ∙ get-empty (slice_cmp nat_cmp) k

  on_by : (q : ℕ) (fuel : ℕ) → get s.keys k ≡ None → s.parent ≡ Some q → q < at → at < fuel
      → get (laid (outward scopes fuel at)) k ≡ answer → GoesOn scopes k answer q
  on_by q zero e p below lt h = absurd (omega arith)
  on_by q (suc fuel) e p below lt h = record {
    fuel = fuel;
    enough = omega arith;
    same = sym (step_by fuel
        ∙ ap (λ o. or_else o (get (laid (option_map_or (outward scopes fuel) s.parent [])) k)) e
        ∙ ap (λ o. get (laid (option_map_or (outward scopes fuel) o [])) k) p) ∙ h;
  }

  pub at_hit : (v : ContextValue) → get s.keys k ≡ Some v → GoesOn scopes k answer at → answer ≡ Some v
  at_hit v e g = hit_by v g.fuel e g.enough g.same

  pub at_none : get s.keys k ≡ None → s.parent ≡ None → GoesOn scopes k answer at → answer ≡ None
  at_none e p g = none_by g.fuel e p g.enough g.same

  pub at_parent : (q : ℕ) → get s.keys k ≡ None → s.parent ≡ Some q → q < at → GoesOn scopes k answer at
      → GoesOn scopes k answer q
  at_parent q e p below g = on_by q g.fuel e p below g.enough g.same

-- ---- the way outward ends

same_way : (ss : List Scope) (n m : ℕ) (o : Option ℕ)
    → ((q : ℕ) → o ≡ Some q → outward ss m q ≡ outward ss n q)
    → option_map_or (outward ss m) o [] ≡ option_map_or (outward ss n) o []
same_way ss n m None h = refl
same_way ss n m (Some q) h = h q refl

same_scope : (ss : List Scope) (n m : ℕ) (o : Option Scope)
    → ((s : Scope) → o ≡ Some s
    → option_map_or (outward ss m) s.parent []
    ≡ option_map_or (outward ss n) s.parent []) → option_map_or (λ s. s.keys
    ∷ option_map_or (outward ss m) s.parent []) o [] ≡ option_map_or (λ s. s.keys
    ∷ option_map_or (outward ss n) s.parent []) o []
same_scope ss n m None h = refl
same_scope ss n m (Some s) h = ap (λ (ms : List Keys). s.keys ∷ ms) (h s refl)

-- where each parent stands before its scope, no more scopes are met than places up to the first
outward_ends : (ss : List Scope) → IsRooted ss → (n m at : ℕ) → at < n → n ≤ m
    → outward ss m at ≡ outward ss n at
outward_ends ss rooted zero m at lt le = absurd (omega arith)
outward_ends ss rooted (suc n) zero at lt le = absurd (omega arith)
outward_ends ss rooted (suc n) (suc m) at lt le =
    same_scope ss n m (slice_get ss at) (λ s is. same_way ss n m s.parent (λ q up.
    let before : q < at = parent_before ss at s q rooted is up in
    outward_ends ss rooted n m q (omega arith) (omega arith)))

pub no_further : (ss : List Scope) (focus : ℕ) → IsRooted ss → focus < length ss → (more : ℕ)
    → outward ss (length ss + more) focus ≡ outward ss (length ss) focus
no_further ss focus rooted inside more =
    outward_ends ss rooted (length ss) (length ss + more) focus inside (omega arith)
