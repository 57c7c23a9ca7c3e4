-- A called command is among the callees.
use Rattle.std.proofs.Common.{◌≡◌, ◌<◌, ℕ, Bool, true, false, cond, List, [], ◌∷◌, length, Option, Some}
use Rattle.std.proofs.Common.{refl}
use Rattle.std.proofs.Common.{sym, ap, subst, ◌∙◌, find, map, arith}
use Rattle.std.specs.Prelude.{slice_get, ◌==◌, ◌||◌, nat_lt}
use Rattle.std.specs.List.{list_any}
use Rattle.std.proofs.lemmas.Bool.{ltb-true, ltb-false, false≢true}
use Rattle.std.proofs.lemmas.Bool.Decides.{Decides-eqb}
use Rattle.std.proofs.lemmas.List.Folds.{list_any-append}
use Rattle.kb_core.specs.Declaration.{Declaration}
use Rattle.kb_code.specs.declared.instr.Instr.TheVariants.{Call}
use Rattle.kb_code.specs.Callees.{callees_of}
use Rattle.kb_code.specs.Handler.{HandlerData}
use Rattle.kb_code.specs.Reachable as reach
use Rattle.kb_code.specs.Reachable.{Calls, CalleesBelow}
use Rattle.kb_code.proofs.ReachableLemmas.{all_called}
use Rattle.kb_code.specs.Commands.{Table}
use Rattle.kb_verify.specs.declared.callees.Callee.{Callee}
use Rattle.kb_verify.specs.Callable.{Commands, declaration_at}
use Rattle.kb_verify.specs.Accepted.{AreDeclared}
use Rattle.kb_soundness.specs.Sound.{live_declaration_at}
use Rattle.kb_soundness.specs.Callees.{VerifiedByCallees}
use Rattle.kb_soundness.proofs.Tests.{or_false}
use Rattle.kb_soundness.proofs.Found.{found_all}
use Rattle.kb_verify.proofs.Edges.{reach_within}

call_inj : (m n : ℕ) → Some (Call m) ≡ Some (Call n) → m ≡ n
call_inj m n e = cc

-- if no callee passes a test, no called index passes it
pub among : (h : HandlerData) (test : ℕ → Bool) (bound : ℕ) (ns : List ℕ) → CalleesBelow h bound ns →
    list_any test ns ≡ false → (p n : ℕ) → p < bound → Calls h p n → test n ≡ false
among h test bound ns reach.none e p n lt c = absurd (omega (arith, lt))
among h test bound ns (reach.called {p = q} {n = m} {ns = ms} below call) e p n lt c =
    let each = or_false (list_any test ms) (list_any test (m ∷ []))
    (sym (list_any-append test ms (m ∷ [])) ∙ e) in
    by (nat_lt p q) refl (λ l. among h test q ms below each.0 p n l c) (or_false (test m) false each.1).0
  where
    by : (b : Bool) → nat_lt p q ≡ b → (p < q → test n ≡ false) → test m ≡ false → test n ≡ false
    by true l rest its = rest (ltb-true p q l)
    by false l rest its =
        let same : p ≡ q = omega (arith, lt, ltb-false p q l) in
        ap test (call_inj n m (sym c.at ∙ ap (slice_get h.code) same ∙ call.at)) ∙ its
among h test bound ns (reach.passed {p = q} below other) e p n lt c =
    by (nat_lt p q) refl (λ l. among h test q ns below e p n l c)
  where
    by : (b : Bool) → nat_lt p q ≡ b → (p < q → test n ≡ false) → test n ≡ false
    by true l rest = rest (ltb-true p q l)
    by false l rest = absurd (other n (subst (λ r. Calls h r n) (omega (arith, lt, ltb-false p q l)) c))

-- each called index is among the callees
listed : (h : HandlerData) (ns : List ℕ) (p n : ℕ) → CalleesBelow h (length h.code) ns → Calls h p n →
    list_any (λ m. m == n) ns ≡ true
listed h ns p n below c = by (list_any (λ m. m == n) ns) refl
  where
    by : (b : Bool) → list_any (λ m. m == n) ns ≡ b → list_any (λ m. m == n) ns ≡ true
    by true is = is
    by false is =
        absurd (false≢true (sym (among h (λ m. m == n) (length h.code) ns below is p n
        (reach_within h.code p c.reached) c) ∙ (Decides-eqb n n).1 refl))

-- a callee with an index, and its declaration
record Of (commands : Commands) (h : HandlerData) (n : ℕ) (found : Option Callee) : Type 0 where
  pub callee : Callee
  pub is_found : found ≡ Some callee
  pub has_index : callee.index ≡ n
  pub declares : declaration_at commands h callee.index ≡ Some callee.signature

of_index : (commands : Commands) (h : HandlerData) (n : ℕ) (callees : List Callee) →
    AreDeclared commands h callees → list_any (λ m. m == n) (map (λ c. c.index) callees) ≡ true →
    Of commands h n (find (λ c. c.index == n) callees)
of_index commands h n [] declared e = absurd (cc)
of_index commands h n (c ∷ callees) declared e =
    by (c.index == n) refl e (of_index commands h n callees declared.1)
  where
    by : (b : Bool) → (c.index == n) ≡ b → (b || list_any (λ m. m == n) (map (λ c. c.index) callees)) ≡ true →
        (list_any (λ m. m == n) (map (λ (c : Callee). c.index) callees) ≡ true →
        Of commands h n (find (λ c. c.index == n) callees)) →
        Of commands h n (cond b (Some c) (find (λ c. c.index == n) callees))
    by true is e rest = record {
      callee = c;
      is_found = refl;
      has_index = (Decides-eqb c.index n).0 is;
      declares = declared.0;
    }
    by false is e rest = rest e

-- its declaration is that of the live command
live_of : (table : Table) (commands : Commands) (h : HandlerData) (n : ℕ) (c : Callee) (d : Declaration) →
    c.index ≡ n → declaration_at commands h c.index ≡ Some c.signature →
    declaration_at commands h n ≡ Some d →
    live_declaration_at table h c.index ≡ Some c.signature → live_declaration_at table h n ≡ Some d
live_of table commands h n c d same declares declared live =
    sym (ap (live_declaration_at table h) same) ∙ live
    ∙ sym declares ∙ ap (declaration_at commands h) same ∙ declared

pub verified_by_callees : VerifiedByCallees
verified_by_callees table commands h callees accepted are live = record {
  commands = commands;
  accepted = accepted;
  callees = λ p n d c.
      let of = of_index commands h n callees are.declared
      (subst (λ ns. list_any (λ m. m == n) ns ≡ true) (sym are.called)
      (listed h (callees_of h) p n (all_called h) c.calls)) in
      live_of table commands h n of.callee d of.has_index of.declares c.declares
      (found_all (λ c. live_declaration_at table h c.index ≡ Some c.signature)
      (λ c. c.index == n) callees of.callee
      live of.is_found);
}
