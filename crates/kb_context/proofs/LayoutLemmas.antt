-- Building the scopes one by one gives the scopes of the layout, exactly if the layout is valid.
use Rattle.std.proofs.Common.{◌≡◌, ℕ, suc, ◌≤◌, Bool, true, false, not, ◌&&◌, ◌||◌, cond, nat_lt, List, []}
use Rattle.std.proofs.Common.{◌∷◌, ◌++◌, length, map, Option, Some, None, option_map, option_and_then}
use Rattle.std.proofs.Common.{unwrap_or, is_some, refl, sym, ap, ◌∙◌, append_assoc, append-nil, arith}
use Rattle.std.specs.Str.{bytes_eq}
use Rattle.std.proofs.lemmas.Bool.Decides.{nat_tests}
use Rattle.std.proofs.lemmas.Option.{option_and_then_some}
use Rattle.kb_context.specs.Layout.{scope_limit}
use Rattle.kb_context.specs.declared.layout.LayoutScope.{LayoutScope}
use Rattle.kb_context.specs.declared.layout.Layout.{Layout}
use Rattle.kb_context.specs.Scopes.{key_limit}
use Rattle.kb_context.specs.declared.scope_tree.Scope.{Scope}
use Rattle.kb_context.specs.declared.fault.ScopeFault.{ScopeFault}
use Rattle.kb_context.specs.declared.fault.ScopeFault.TheVariants.{BadLayout, TooManyKeys}
use Rattle.kb_base.specs.declared.failure.Failure.{Failure}
use Rattle.kb_base.specs.declared.failure.Failure.TheVariants.{NoMemory, Fault}
use Rattle.kb_base.specs.Failure.{IsRefusal}
use Rattle.kb_context.specs.Scopes.{ScopesData, scope_names, place_in, place_of}
use Rattle.kb_context.specs.Layout.{is_among, layout_names, parent_fits, fit, is_good, layout_key_count}
use Rattle.kb_context.specs.Layout.{layout_fault, scope_of, scopes_of}
use Rattle.kb_context.specs.Draft.{parent_in, parent_behind, after_scope, built, IsBadList}
use Rattle.kb_context.proofs.DraftLemmas.{Follows, follows, scope_names-append}

-- ---- scopes are built where names and parents fit

some_mapped : {A B : Type 0} (f : A → B) (o : Option A) → is_some (option_map f o) ≡ is_some o
some_mapped f None = refl
some_mapped f (Some x) = refl

-- a name has a place exactly where it is among the names
pub is_some-place_in : (n : List ℕ) (ns : List (List ℕ)) → is_some (place_in n ns) ≡ is_among ns n
is_some-place_in n [] = refl
is_some-place_in n (m ∷ ns) =
    elim (bytes_eq n m) as
    (λ b. is_some (cond b (Some 0) (option_map (λ i. suc i) (place_in n ns))) ≡ (b || is_among ns n)) [
      | true ↦ refl
      | false ↦ some_mapped (λ i. suc i) (place_in n ns) ∙ is_some-place_in n ns
    ]

is_some-parent_in : (o : Option (List ℕ)) (ss : List Scope)
    → is_some (parent_in o ss) ≡ parent_fits (scope_names ss) o
is_some-parent_in (Some p) ss =
    some_mapped (λ i. Some i) (place_of p ss) ∙ is_some-place_in p (scope_names ss)
is_some-parent_in None [] = refl
is_some-parent_in None (s ∷ ss) = refl

chosen : {A : Type 0} (b : Bool) (o : Option A) → is_some (cond b None o) ≡ (not b && is_some o)
chosen true o = refl
chosen false o = refl

is_some-after_scope : (p : LayoutScope) (ss : List Scope)
    → is_some (after_scope ss p)
    ≡ (not (is_among (scope_names ss) p.name) && parent_fits (scope_names ss) p.parent)
is_some-after_scope p ss =
    some_mapped _ (parent_behind ss p)
    ∙ chosen (is_some (place_of p.name ss)) (parent_in p.parent ss)
    ∙ ap (λ b. not (is_some (place_of p.name ss)) && b) (is_some-parent_in p.parent ss)
    ∙ ap (λ b. not b && parent_fits (scope_names ss) p.parent) (is_some-place_in p.name (scope_names ss))

names_after : (ss : List Scope) (p : LayoutScope) (more : List Scope) → Follows ss p more
    → scope_names more ≡ scope_names ss ++ p.name ∷ []
names_after ss p more f =
    ap scope_names f.is ∙ scope_names-append ss (record { name = p.name; parent = f.parent; keys = p.keys })

step : (ss : List Scope) (p : LayoutScope) (ps : List LayoutScope)
    → ((more : List Scope) → is_some (built more ps) ≡ fit (scope_names more) ps)
    → (o : Option (List Scope)) → after_scope ss p ≡ o →
    is_some (option_and_then (λ more. built more ps) o)
    ≡ ((not (is_among (scope_names ss) p.name) && parent_fits (scope_names ss) p.parent)
    && fit (scope_names ss ++ p.name ∷ []) ps)
step ss p ps ih None e =
    ap (λ a. a && fit (scope_names ss ++ p.name ∷ []) ps) (sym (ap is_some e) ∙ is_some-after_scope p ss)
step ss p ps ih (Some more) e =
    ih more
    ∙ ap (λ ns. fit ns ps) (names_after ss p more (follows ss p more e))
    ∙ ap (λ a. a && fit (scope_names ss ++ p.name ∷ []) ps) (sym (ap is_some e) ∙ is_some-after_scope p ss)

is_some-built : (ss : List Scope) (ps : List LayoutScope) → is_some (built ss ps) ≡ fit (scope_names ss) ps
is_some-built ss [] = refl
is_some-built ss (p ∷ ps) = step ss p ps (λ more. is_some-built more ps) (after_scope ss p) refl

-- ---- and they are those of the layout

further_by : (o p : Option ℕ) (i : ℕ) → ((j : ℕ) → o ≡ Some j → p ≡ Some j)
    → option_map (λ j. suc j) o ≡ Some i → option_map (λ j. suc j) p ≡ Some i
further_by None p i h e = absurd (let no : Bool = true in cc)
further_by (Some j) p i h e = ap (option_map (λ j. suc j)) (h j refl) ∙ e

front_by : (b : Bool) (o p : Option ℕ) (i : ℕ) → ((j : ℕ) → o ≡ Some j → p ≡ Some j)
    → cond b (Some 0) (option_map (λ j. suc j) o) ≡ Some i
    → cond b (Some 0) (option_map (λ j. suc j) p) ≡ Some i
front_by true o p i h e = e
front_by false o p i h e = further_by o p i h e

-- a name keeps its place where more names follow
place_in-front : (n : List ℕ) (ns rest : List (List ℕ)) (i : ℕ) → place_in n ns ≡ Some i
    → place_in n (ns ++ rest) ≡ Some i
place_in-front n [] rest i e = absurd (let no : Bool = true in cc)
place_in-front n (m ∷ ns) rest i e =
    front_by (bytes_eq n m) (place_in n ns) (place_in n (ns ++ rest)) i
    (λ j h. place_in-front n ns rest j h) e

placed_parent : (o p : Option ℕ) (u : Option ℕ) → ((j : ℕ) → o ≡ Some j → p ≡ Some j)
    → option_map (λ i. Some i) o ≡ Some u → u ≡ p
placed_parent None p u h e = absurd (let no : Bool = true in cc)
placed_parent (Some j) p u h e = let same : Some j ≡ u = cc in sym same ∙ sym (h j refl)

parent_is : (o : Option (List ℕ)) (ss : List Scope) (u : Option ℕ) (rest : List (List ℕ))
    → parent_in o ss ≡ Some u → u ≡ option_and_then (λ n. place_in n (scope_names ss ++ rest)) o
parent_is (Some n) ss u rest e = placed_parent (place_of n ss) _ u (place_in-front n (scope_names ss) rest) e
parent_is None [] u rest e = let same : None ≡ u = cc in sym same
parent_is None (s ∷ ss) u rest e = absurd (let no : Bool = true in cc)

built_is : (ss : List Scope) (ps : List LayoutScope) (more : List Scope) → built ss ps ≡ Some more
    → more ≡ ss ++ map (scope_of (scope_names ss ++ layout_names ps)) ps
built_is ss [] more e = let same : ss ≡ more = cc in sym same ∙ sym (append-nil ss)
built_is ss (p ∷ ps) more e =
    option_and_then_some (λ next. built next ps) (after_scope ss p) more e (λ next h r.
    let f = follows ss p next h in
    let names : List (List ℕ) = scope_names ss ++ p.name ∷ layout_names ps in
    let own : Scope = record { name = p.name; parent = f.parent; keys = p.keys } in
    let all : scope_names next ++ layout_names ps ≡ names =
    ap (λ ns. ns ++ layout_names ps) (names_after ss p next f)
    ∙ append_assoc (scope_names ss) (p.name ∷ []) (layout_names ps) in
    let same : own ≡ scope_of names p =
    ap (λ (u : Option ℕ). record { name = p.name; parent = u; keys = p.keys })
    (parent_is p.parent ss f.parent (p.name ∷ layout_names ps) f.fits) in
    built_is next ps more r
    ∙ ap (λ ns. next ++ map (scope_of ns) ps) all
    ∙ ap (λ us. us ++ map (scope_of names) ps) f.is
    ∙ append_assoc ss (own ∷ []) (map (scope_of names) ps)
    ∙ ap (λ (s : Scope). ss ++ s ∷ map (scope_of names) ps) same)

scope_names-scope_of : (ns : List (List ℕ)) (ps : List LayoutScope)
    → scope_names (map (scope_of ns) ps) ≡ layout_names ps
scope_names-scope_of ns [] = refl
scope_names-scope_of ns (p ∷ ps) = ap (λ ms. p.name ∷ ms) (scope_names-scope_of ns ps)

names_built : (ps : List LayoutScope) (ss : List Scope) → built [] ps ≡ Some ss
    → scope_names ss ≡ layout_names ps
names_built ps ss e = ap scope_names (built_is [] ps ss e) ∙ scope_names-scope_of (layout_names ps) ps

pub scopes_of_built : (l : Layout) (ss : List Scope) (at : ℕ) → built [] l.scopes ≡ Some ss
    → place_of l.focus ss ≡ Some at → ◌≡◌ {A = ScopesData} (record { scopes = ss; focus = at }) (scopes_of l)
scopes_of_built l ss at e f =
    let focus : at ≡ unwrap_or (place_in l.focus (layout_names l.scopes)) 0 =
    sym (ap (λ (ns : List (List ℕ)). unwrap_or (place_in l.focus ns) 0) (sym (names_built l.scopes ss e))
    ∙ ap (λ (o : Option ℕ). unwrap_or o 0) f) in
    ap (λ (us : List Scope). record { scopes = us; focus = at }) (built_is [] l.scopes ss e)
    ∙ ap (λ (i : ℕ). record { scopes = map (scope_of (layout_names l.scopes)) l.scopes; focus = i }) focus

-- ---- what is wrong with a layout

none_by : (a b : Bool) → b ≡ false → (a && b) ≡ false
none_by true b e = e
none_by false b e = refl

front_none : (a b : Bool) → a ≡ false → (a && b) ≡ false
front_none a b e = ap (λ c. c && b) e

all_by : (a b c : Bool) → a ≡ false → b ≡ true → c ≡ true → (not a && (b && c)) ≡ true
all_by a b c e f g = rw (e, f, g) refl

fault_by : (l : Layout) (b : Bool) → is_good l ≡ b
    → layout_fault l
    ≡ cond b (cond (nat_lt key_limit (layout_key_count l.scopes)) (Some TooManyKeys) None) (Some BadLayout)
fault_by l b e = ap (λ c. cond c
    (cond (nat_lt key_limit (layout_key_count l.scopes)) (Some TooManyKeys) None) (Some BadLayout)) e

fits : (l : Layout) (o : Option (List Scope)) → built [] l.scopes ≡ o → fit [] l.scopes ≡ is_some o
fits l o e = sym (is_some-built [] l.scopes) ∙ ap is_some e

names_focus : (l : Layout) (ss : List Scope) (o : Option ℕ) → built [] l.scopes ≡ Some ss
    → place_of l.focus ss ≡ o → is_among (layout_names l.scopes) l.focus ≡ is_some o
names_focus l ss o e f =
    sym (is_some-place_in l.focus (layout_names l.scopes))
    ∙ ap (λ (ns : List (List ℕ)). is_some (place_in l.focus ns)) (sym (names_built l.scopes ss e))
    ∙ ap is_some f

bad_scopes : (l : Layout) → built [] l.scopes ≡ None → layout_fault l ≡ Some BadLayout
bad_scopes l e = fault_by l false (none_by _ _ (front_none _ _ (fits l None e)))

pub bad_focus : (l : Layout) (ss : List Scope) → built [] l.scopes ≡ Some ss → place_of l.focus ss ≡ None
    → layout_fault l ≡ Some BadLayout
bad_focus l ss e f = fault_by l false (none_by _ _ (none_by _ _ (names_focus l ss None e f)))

only_keys : (l : Layout) (ss : List Scope) (at : ℕ) → nat_lt scope_limit (length l.scopes) ≡ false
    → built [] l.scopes ≡ Some ss → place_of l.focus ss ≡ Some at
    → layout_fault l ≡ cond (nat_lt key_limit (layout_key_count l.scopes)) (Some TooManyKeys) None
only_keys l ss at few e f =
    fault_by l true (all_by _ _ _ few (fits l (Some ss) e) (names_focus l ss (Some at) e f))

pub refused_scopes : (l : Layout) (failure : Failure ScopeFault) → IsBadList l.scopes failure
    → IsRefusal (layout_fault l) failure
refused_scopes l NoMemory h = tt
refused_scopes l (Fault f) h = bad_scopes l h.1 ∙ ap Some (sym h.0)

-- ---- the same as the code finds it out

lt_false : (limit n : ℕ) → n ≤ limit → nat_lt limit n ≡ false
lt_false limit n h = grind (arith, nat_tests)

over_by : (b : Bool) (n : ℕ) → None ≡ cond b None (Some n) → b ≡ true
over_by true n e = refl
over_by false n e = absurd (let no : Bool = true in cc)

within_by : (b : Bool) (n k : ℕ) → Some k ≡ cond b None (Some n) → b ≡ false
within_by true n k e = absurd (let no : Bool = true in cc)
within_by false n k e = refl

pub too_many : (l : Layout) (ss : List Scope) (at : ℕ) (ps : List LayoutScope)
    → length l.scopes ≤ scope_limit → built [] l.scopes ≡ Some ss → place_of l.focus ss ≡ Some at
    → ps ≡ l.scopes → None ≡ cond (nat_lt key_limit (layout_key_count ps)) None (Some (layout_key_count ps))
    → layout_fault l ≡ Some TooManyKeys
too_many l ss at ps few e f same over =
    only_keys l ss at (lt_false _ _ few) e f
    ∙ ap (λ b. cond b (Some TooManyKeys) None)
    (ap (λ (us : List LayoutScope). nat_lt key_limit (layout_key_count us)) (sym same) ∙ over_by _ _ over)

pub no_fault : (l : Layout) (ss : List Scope) (at : ℕ) (ps : List LayoutScope) (k : ℕ)
    → length l.scopes ≤ scope_limit → built [] l.scopes ≡ Some ss → place_of l.focus ss ≡ Some at
    → ps ≡ l.scopes → Some k
    ≡ cond (nat_lt key_limit (layout_key_count ps)) None (Some (layout_key_count ps)) → layout_fault l ≡ None
no_fault l ss at ps k few e f same within =
    only_keys l ss at (lt_false _ _ few) e f
    ∙ ap (λ b. cond b (Some TooManyKeys) None)
    (ap (λ (us : List LayoutScope). nat_lt key_limit (layout_key_count us)) (sym same)
    ∙ within_by _ _ k within)
