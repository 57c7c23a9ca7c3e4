-- The callees of a handler are those of the list.
use Rattle.std.proofs.Common.{◌≡◌, ◌<◌, ℕ, zero, suc, List, [], ◌∷◌, ◌++◌, length, map, Option, Some, None}
use Rattle.std.proofs.Common.{refl, sym, ap, ◌∙◌, subst, arith}
use Rattle.std.specs.Prelude.{slice_get, option_and_then}
use Rattle.std.specs.FinMap as fin_map
use Rattle.std.proofs.lemmas.Option.{slice_get_within}
use Rattle.kb_core.specs.Declaration.{Declaration}
use Rattle.kb_code.specs.declared.instr.Instr.TheVariants.{Call}
use Rattle.kb_code.specs.Handler.{HandlerData}
use Rattle.kb_code.specs.Callees.{callees_of}
use Rattle.kb_code.specs.Reachable.{Calls, CalleesBelow}
use Rattle.kb_code.proofs.ReachableLemmas.{all_called}
use Rattle.kb_verify.specs.declared.callees.Callee.{Callee}
use Rattle.kb_verify.specs.Callable.{Commands, declaration_at}
use Rattle.kb_verify.specs.Accepted.{IsCallee, AreCallees, AreDeclared, HasCallee, IsNamed}
use Rattle.kb_verify.proofs.Calls.{one_index}
use native.Mathlib.Decide.{ℕ_discrete}

-- the list of callees below a place is unique
one_more : (ns ms : List ℕ) (n m : ℕ) → ns ≡ ms → n ≡ m → ns ++ n ∷ [] ≡ ms ++ m ∷ []
one_more ns ms n m e f = ap (λ l. l ++ n ∷ []) e ∙ ap (λ x. ms ++ x ∷ []) f

one_list : (h : HandlerData) (p q : ℕ) (ns ms : List ℕ) → CalleesBelow h p ns → CalleesBelow h q ms → p ≡ q →
    ns ≡ ms
one_list h p q ns ms CalleesBelow.none CalleesBelow.none e = refl
one_list h p q ns ms CalleesBelow.none (CalleesBelow.called b c) e = absurd (omega (arith, e))
one_list h p q ns ms CalleesBelow.none (CalleesBelow.passed b c) e = absurd (omega (arith, e))
one_list h p q ns ms (CalleesBelow.called a c) CalleesBelow.none e = absurd (omega (arith, e))
one_list h p q ns ms (CalleesBelow.passed a c) CalleesBelow.none e = absurd (omega (arith, e))
one_list h p q ns ms (CalleesBelow.called {p = r} {n = n} {ns = ns'} a c) (CalleesBelow.called {p = s} {n = m} {ns = ms'} b d) e =
    let same : r ≡ s = omega (arith, e) in
    one_more ns' ms' n m (one_list h r s ns' ms' a b same)
    (one_index h s n m (subst (λ x. Calls h x n) same c) d.at)
one_list h p q ns ms (CalleesBelow.called {p = r} {n = n} a c) (CalleesBelow.passed {p = s} b none) e =
    let same : r ≡ s = omega (arith, e) in absurd (none n (subst (λ x. Calls h x n) same c))
one_list h p q ns ms (CalleesBelow.passed {p = r} a none) (CalleesBelow.called {p = s} {n = m} b d) e =
    let same : s ≡ r = omega (arith, e) in absurd (none m (subst (λ x. Calls h x m) same d))
one_list h p q ns ms (CalleesBelow.passed {p = r} a none) (CalleesBelow.passed {p = s} b other) e =
    one_list h r s ns ms a b (omega (arith, e))

-- the calls of all places are the callees
pub callees_are : (h : HandlerData) (ns : List ℕ) → CalleesBelow h (length h.code) ns → ns ≡ callees_of h
callees_are h ns below = one_list h (length h.code) (length h.code) ns (callees_of h) below (all_called h) refl

still_there : {A : Type 0} (xs ys : List A) (k : ℕ) (x : A) → slice_get xs k ≡ Some x →
    slice_get (xs ++ ys) k ≡ Some x
still_there [] ys k x e = absurd (cc)
still_there (y ∷ xs) ys zero x e = e
still_there (y ∷ xs) ys (suc k) x e = still_there xs ys k x e

at_end : {A : Type 0} (xs : List A) (x : A) → slice_get (xs ++ x ∷ []) (length xs) ≡ Some x
at_end [] x = refl
at_end (y ∷ xs) x = at_end xs x

abbrev Has : List ℕ → ℕ → Type 0
Has ns n = (k : ℕ) × (slice_get ns k ≡ Some n)

listed_below : (h : HandlerData) (p : ℕ) (ns : List ℕ) → CalleesBelow h p ns → (q n : ℕ) → q < p →
    Calls h q n → Has ns n
listed_below h p ns CalleesBelow.none q n lt is = absurd (omega (arith, lt))
listed_below h p ns (CalleesBelow.called {p = r} {n = m} {ns = ms} before called) q n lt is = elim (ℕ_discrete q r) [
  | yes e ↦
      let same : m ≡ n = one_index h r m n called (subst (λ x. Calls h x n) e is).at in
      (length ms, at_end ms m ∙ ap Some same)
  | no d ↦ let there = listed_below h r ms before q n (omega (arith, d, lt)) is in (there.0, still_there ms (m ∷ []) there.0 n there.1)
]
listed_below h p ns (CalleesBelow.passed {p = r} before none) q n lt is = elim (ℕ_discrete q r) [
  | yes e ↦ absurd (none n (subst (λ x. Calls h x n) e is))
  | no d ↦ listed_below h r ns before q n (omega (arith, d, lt)) is
]

-- a callee at a position of the list
abbrev At : List Callee → ℕ → ℕ → Type 0
At callees k n = (c : Callee) × (slice_get callees k ≡ Some c) × (c.index ≡ n)

at_number : (callees : List Callee) (k n : ℕ) → slice_get (map (λ c. c.index) callees) k ≡ Some n →
    At callees k n
at_number [] k n e = absurd (cc)
at_number (c ∷ callees) zero n e = let same : c.index ≡ n = cc (e) in (c, refl, same)
at_number (c ∷ callees) (suc k) n e = at_number callees k n e

same_callee : (c : Callee) (n : ℕ) (d : Declaration) → c.index ≡ n → c.signature ≡ d →
    c ≡ record { index = n; signature = d }
same_callee c n d e f =
    ap (λ i. record { index = i; signature = c.signature }) e ∙ ap (λ s. record { index = n; signature = s }) f

module _ (commands : Commands) (h : HandlerData) where
  declared_there : (callees : List Callee) (k : ℕ) (c : Callee) → AreDeclared commands h callees →
      slice_get callees k ≡ Some c → declaration_at commands h c.index ≡ Some c.signature
  declared_there [] k c all e = absurd (cc)
  declared_there (x ∷ callees) zero c all e =
      let same : x ≡ c = cc (e) in subst (λ y. declaration_at commands h y.index ≡ Some y.signature) same all.0
  declared_there (x ∷ callees) (suc k) c all e = declared_there callees k c all.1 e

  pub listed : (callees : List Callee) → AreCallees commands h callees → (place index : ℕ) (d : Declaration) →
      IsCallee commands h place index d → HasCallee callees index d
  listed callees are place index d is =
      let there = listed_below h (length h.code) (callees_of h) (all_called h) place index (slice_get_within h.code place (Call index) is.calls.at) is.calls in
      let c = at_number callees there.0 index (ap (λ ns. slice_get ns there.0) are.called ∙ there.1) in
      let declares = declared_there callees there.0 c.0 are.declared c.1 in
      let both : Some c.0.signature ≡ Some d = sym declares ∙ ap (declaration_at commands h) c.2 ∙ is.declares in
      let same : c.0.signature ≡ d = cc in
      (there.0, c.1 ∙ ap Some (same_callee c.0 index d c.2 same))

  -- a declared callee has a name
  named_at : (c : Callee) (name : Option (List ℕ)) → slice_get h.calls c.index ≡ name →
      option_and_then (fin_map.get commands) name ≡ Some c.signature → IsNamed commands h c
  named_at c (Some x) e is = record { name = x; named = e; declares = is }
  named_at c None e is = absurd (cc)

  pub named : (callees : List Callee) → AreCallees commands h callees → (k : ℕ) (c : Callee) →
      slice_get callees k ≡ Some c → IsNamed commands h c
  named callees are k c e = named_at c (slice_get h.calls c.index) refl (declared_there callees k c are.declared e)
