-- The table of indices after one more scope, and the number of keys of scopes built one by one.
use Rattle.std.proofs.Common.{◌≡◌, ℕ, zero, suc, ◌+◌, ◌<◌, ◌≤◌, Bool, true, false, cond, nat_lt, List, []}
use Rattle.std.proofs.Common.{◌∷◌, ◌++◌, length, Option, Some, None, option_map, slice_get, is_some, IfSome}
use Rattle.std.proofs.Common.{◌⊎◌, inl, inr, refl, sym, subst, ap, ◌∙◌, arith}
use Rattle.std.specs.Str.{bytes_eq}
use Rattle.std.specs.Ordering.{nat_cmp}
use Rattle.std.specs.Cmp.Lexicographic.{slice_cmp}
use Rattle.std.specs.FinMap.{get, insert, empty, len, contains_key, get-insert, get-empty}
use Rattle.std.proofs.lemmas.Bool.Decides.{nat_tests}
use Rattle.std.proofs.lemmas.Cmp.{nat_list_cmp_total}
use Rattle.std.proofs.lemmas.List.{length-map}
use Rattle.std.proofs.lemmas.Map.Text.{is_eq-slice_cmp}
use Rattle.std.proofs.lemmas.Option.{option_and_then_some}
use Rattle.std.proofs.lemmas.Slice.Eq.{bytes_eq-Decides}
use Rattle.kb_context.specs.declared.layout.LayoutScope.{LayoutScope}
use Rattle.kb_context.specs.declared.scope_tree.Scope.{Scope}
use Rattle.kb_context.specs.Scopes.{Places, scope_names, parents, place_in, place_of, key_count}
use Rattle.kb_context.specs.Scopes.{IsRootedList, IsRooted, IsPlaced}
use Rattle.kb_context.specs.Layout.{layout_key_count}
use Rattle.kb_context.specs.Draft.{parent_in, parent_behind, under, after_scope, built}
use Rattle.kb_context.proofs.OutwardLemmas.{or_else}
use Rattle.kb_context.proofs.ScopesLemmas.{place_of_within}

-- ---- places

later : (o : Option ℕ) (b : Bool) (m : ℕ)
    → option_map (λ i. suc i) (or_else o (cond b (Some m) None))
    ≡ or_else (option_map (λ i. suc i) o) (cond b (Some (suc m)) None)
later (Some i) b m = refl
later None true m = refl
later None false m = refl

place_in-append : (n : List ℕ) (ns : List (List ℕ)) (m : List ℕ)
    → place_in n (ns ++ m ∷ []) ≡ or_else (place_in n ns) (cond (bytes_eq n m) (Some (length ns)) None)
place_in-append n [] m = refl
place_in-append n (t ∷ ns) m =
    elim (bytes_eq n t) as
    (λ b. cond b (Some 0) (option_map (λ i. suc i) (place_in n (ns ++ m ∷ [])))
    ≡ or_else (cond b (Some 0) (option_map (λ i. suc i) (place_in n ns)))
    (cond (bytes_eq n m) (Some (suc (length ns))) None)) [
      | true ↦ refl
      | false ↦ ap (option_map (λ i. suc i)) (place_in-append n ns m)
          ∙ later (place_in n ns) (bytes_eq n m) (length ns)
    ]

pub scope_names-append : (ss : List Scope) (s : Scope)
    → scope_names (ss ++ s ∷ []) ≡ scope_names ss ++ s.name ∷ []
scope_names-append [] s = refl
scope_names-append (t ∷ ss) s = ap (λ ns. t.name ∷ ns) (scope_names-append ss s)

parents-append : (ss : List Scope) (s : Scope) → parents (ss ++ s ∷ []) ≡ parents ss ++ s.parent ∷ []
parents-append [] s = refl
parents-append (t ∷ ss) s = ap (λ ps. t.parent ∷ ps) (parents-append ss s)

not_there : {A : Type 0} (o : Option A) → is_some o ≡ false → o ≡ None
not_there None e = refl
not_there (Some x) e = absurd (let no : true ≡ false = e in cc)

apart : (q k : List ℕ) (b : Bool) (o : Option ℕ) (m : ℕ) → bytes_eq q k ≡ b
    → (bytes_eq q k ≡ true → o ≡ None) → cond b (Some m) o ≡ or_else o (cond b (Some m) None)
apart q k true o m e h = ap (λ (p : Option ℕ). or_else p (Some m)) (sym (h e))
apart q k false None m e h = refl
apart q k false (Some i) m e h = refl

placed_push : (ss : List Scope) (places : Places) (s : Scope)
    → ((n : List ℕ) → get places n ≡ place_of n ss) → contains_key places s.name ≡ false → (q : List ℕ)
    → get (insert places s.name (length ss)) q ≡ place_of q (ss ++ s ∷ [])
placed_push ss places s h new q =
    get-insert nat_list_cmp_total places s.name (length ss) q
    ∙ ap (λ (b : Bool). cond b (Some (length ss)) (get places q)) (is_eq-slice_cmp q s.name)
    ∙ apart q s.name (bytes_eq q s.name) (get places q) (length ss) refl
    (λ e. ap (get places) ((bytes_eq-Decides q s.name).0 e) ∙ not_there _ new)
    ∙ ap (λ o. or_else o (cond (bytes_eq q s.name) (Some (length ss)) None)) (h q)
    ∙ ap (λ m. or_else (place_of q ss) (cond (bytes_eq q s.name) (Some m) None))
    (sym (length-map ss (λ (t : Scope). t.name)))
    ∙ sym (place_in-append q (scope_names ss) s.name)
    ∙ ap (place_in q) (sym (scope_names-append ss s))

last_or_before : {A : Type 0} (xs : List A) (y z : A) (i : ℕ) → slice_get (xs ++ y ∷ []) i ≡ Some z
    → (slice_get xs i ≡ Some z) ⊎ ((i ≡ length xs) × (y ≡ z))
last_or_before [] y z zero e = let same : y ≡ z = cc in inr (refl, same)
last_or_before [] y z (suc i) e = absurd (let no : Bool = true in cc)
last_or_before (x ∷ xs) y z zero e = inl e
last_or_before (x ∷ xs) y z (suc i) e =
    elim (last_or_before xs y z i e) [ inl h ↦ inl h | inr p ↦ inr (ap (λ n. suc n) p.0, p.1) ]

some_below : (o : Option ℕ) (p n : ℕ) → IfSome o (λ q. q < n) → o ≡ Some p → p < n
some_below None p n h e = absurd (let no : Bool = true in cc)
some_below (Some q) p n h e = let same : q ≡ p = cc in omega arith

rooted_push : (ss : List Scope) (s : Scope) → IsRooted ss → IfSome s.parent (λ p. p < length ss)
    → IsRooted (ss ++ s ∷ [])
rooted_push ss s h below = subst IsRootedList (sym (parents-append ss s)) (λ i p e.
    elim (last_or_before (parents ss) s.parent (Some p) i e) [
      | inl was ↦ h i p was
      | inr last ↦ subst (λ m. p < m) (sym (last.0 ∙ length-map ss (λ (t : Scope). t.parent)))
          (some_below s.parent p (length ss) below last.1)
    ])

IsPlaced-push : (ss : List Scope) (places : Places) (s : Scope) → IsPlaced ss places
    → contains_key places s.name ≡ false → IfSome s.parent (λ p. p < length ss)
    → IsPlaced (ss ++ s ∷ []) (insert places s.name (length ss))
IsPlaced-push ss places s h new below =
    record { rooted = rooted_push ss s h.rooted below; placed = placed_push ss places s h.placed new }

fits_by : (b : Bool) (o : Option ℕ) (p : Option (Option ℕ)) (u : Option ℕ) → is_some o ≡ b
    → cond b None p ≡ Some u → (o ≡ None) × (p ≡ Some u)
fits_by true o p u e h = absurd (let no : Bool = true in cc)
fits_by false o p u e h = (not_there o e, h)

mapped_below : (o : Option ℕ) (n : ℕ) (u : Option ℕ) → ((i : ℕ) → o ≡ Some i → i < n)
    → option_map (λ i. Some i) o ≡ Some u → IfSome u (λ i. i < n)
mapped_below None n u h e = absurd (let no : Bool = true in cc)
mapped_below (Some i) n u h e = let same : Some i ≡ u = cc in subst (λ (v : Option ℕ). IfSome v (λ i. i < n)) same (h i refl)

parent_in_below : (o : Option (List ℕ)) (ss : List Scope) (u : Option ℕ) → parent_in o ss ≡ Some u
    → IfSome u (λ i. i < length ss)
parent_in_below (Some name) ss u e = mapped_below (place_of name ss) (length ss) u (λ i h. place_of_within name ss i h) e
parent_in_below None [] u e = let same : None ≡ u = cc in subst (λ (v : Option ℕ). IfSome v (λ i. i < 0)) same tt
parent_in_below None (s ∷ ss) u e = absurd (let no : Bool = true in cc)

IsPlaced-fitting : (ss : List Scope) (places : Places) (l : LayoutScope) (u : Option ℕ) → IsPlaced ss places
    → parent_behind ss l ≡ Some u → IsPlaced (ss ++ under l u ∷ []) (insert places l.name (length ss))
IsPlaced-fitting ss places l u h e =
    let fits = fits_by (is_some (place_of l.name ss)) (place_of l.name ss) (parent_in l.parent ss) u refl e in
    IsPlaced-push ss places (under l u) h (ap is_some (h.placed l.name ∙ fits.0))
    (parent_in_below l.parent ss u fits.1)

-- the table has the places with one more scope, as the code has it
pub IsPlaced-after : (ss : List Scope) (places : Places) (l : LayoutScope) (u : Option ℕ) (s : Scope)
    (more : List Scope) (table : Places) → IsPlaced ss places → parent_behind ss l ≡ Some u → s ≡ under l u
    → more ≡ ss ++ s ∷ [] → table ≡ insert places s.name (length ss) → IsPlaced more table
IsPlaced-after ss places l u s more table h e same pushed added =
    subst (λ (us : List Scope). IsPlaced us table)
    (sym (pushed ∙ ap (λ (t : Scope). ss ++ t ∷ []) same))
    (subst (λ (t : Places). IsPlaced (ss ++ under l u ∷ []) t)
    (sym (added ∙ ap (λ (t : Scope). insert places t.name (length ss)) same))
    (IsPlaced-fitting ss places l u h e))

none_placed : (places : Places) → places ≡ empty → (n : List ℕ) → get places n ≡ None
none_placed places e n = ap (λ (m : Places). get m n) e ∙ get-empty (slice_cmp nat_cmp) n

none_stands : {A : Type 0} (i : ℕ) (x : A) → slice_get [] i ≡ Some x → ⊥
none_stands i x e = let no : Bool = true in cc

pub IsPlaced-empty : (ss : List Scope) (places : Places) → ss ≡ [] → places ≡ empty → IsPlaced ss places
IsPlaced-empty ss places e f =
    subst (λ (us : List Scope). IsPlaced us places) (sym e)
    (record { rooted = λ i p h. absurd (none_stands i (Some p) h); placed = none_placed places f })

-- ---- how many keys there are

key_count-append : (ss : List Scope) (s : Scope) → key_count (ss ++ s ∷ []) ≡ key_count ss + len s.keys
key_count-append [] s = omega arith
key_count-append (t ∷ ss) s = let h : key_count (ss ++ s ∷ []) ≡ key_count ss + len s.keys =
    key_count-append ss s in omega arith

-- a scope that fits is put behind the others, and its parent has its place among them
pub record Follows (done : List Scope) (s : LayoutScope) (more : List Scope) : Type 0 where
  pub parent : Option ℕ
  pub fits : parent_in s.parent done ≡ Some parent
  pub is : more ≡ done ++ record { name = s.name; parent = parent; keys = s.keys } ∷ []

follows_by : (b : Bool) (done : List Scope) (s : LayoutScope) (o : Option (Option ℕ)) (more : List Scope)
    → parent_in s.parent done ≡ o
    → option_map (λ parent. done ++ record { name = s.name; parent = parent; keys = s.keys } ∷ [])
    (cond b None o) ≡ Some more → Follows done s more
follows_by true done s o more p e = absurd (let no : Bool = true in cc)
follows_by false done s None more p e = absurd (let no : Bool = true in cc)
follows_by false done s (Some u) more p e =
    let same : done ++ record { name = s.name; parent = u; keys = s.keys } ∷ [] ≡ more = cc in
    record { parent = u; fits = p; is = sym same }

pub follows : (done : List Scope) (s : LayoutScope) (more : List Scope) → after_scope done s ≡ Some more
    → Follows done s more
follows done s more e =
    follows_by (is_some (place_of s.name done)) done s (parent_in s.parent done) more refl e

key_count-after : (done : List Scope) (s : LayoutScope) (more : List Scope) → Follows done s more
    → key_count more ≡ key_count done + len s.keys
key_count-after done s more f =
    ap key_count f.is ∙ key_count-append done (record { name = s.name; parent = f.parent; keys = s.keys })

pub key_count-built : (done : List Scope) (ps : List LayoutScope) (ss : List Scope)
    → built done ps ≡ Some ss → key_count ss ≡ key_count done + layout_key_count ps
key_count-built done [] ss e = let same : done ≡ ss = cc in
    let h : key_count done ≡ key_count ss = ap key_count same in omega arith
key_count-built done (p ∷ ps) ss e =
    option_and_then_some (λ more. built more ps) (after_scope done p) ss e (λ more h r.
    let one : key_count more ≡ key_count done + len p.keys =
    key_count-after done p more (follows done p more h) in
    let rest : key_count ss ≡ key_count more + layout_key_count ps = key_count-built more ps ss r in
    omega arith)

counted_by : (b : Bool) (n k : ℕ) → Some k ≡ cond b None (Some n) → (b ≡ false) × (k ≡ n)
counted_by true n k e = absurd (let no : Bool = true in cc)
counted_by false n k e = let same : k ≡ n = cc in (refl, same)

not_lt : (a b : ℕ) → nat_lt a b ≡ false → b ≤ a
not_lt a b e = grind (arith, nat_tests)

-- keys that were counted are no more than may stand
pub counted : (limit n k : ℕ) → Some k ≡ cond (nat_lt limit n) None (Some n) → (k ≡ n) × (k ≤ limit)
counted limit n k e =
    let h : (nat_lt limit n ≡ false) × (k ≡ n) = counted_by (nat_lt limit n) n k e in
    let below : n ≤ limit = not_lt limit n h.0 in
    let same : k ≡ n = h.1 in
    let fits : k ≤ limit = omega arith in
    (same, fits)
