-- The smallest depth that is larger than that of each callee.
use Rattle.std.proofs.Common.{◌≡◌, ◌≤◌, ◌<◌, ◌∙◌, ℕ, List, [], ◌∷◌, ◌++◌, Option, Some, None, refl, ap}
use Rattle.std.proofs.Common.{max, length, subst, ⊎_elim, arith}
use Rattle.std.proofs.lemmas.Bool.{cases_lt}
use Rattle.std.proofs.lemmas.Option.{slice_get_within}
use Rattle.std.specs.Prelude.{slice_get}
use Rattle.kb_assembly.specs.declared.draft.Draft.{Draft}
use Rattle.kb_code.specs.Callees.{callees_of}
use Rattle.kb_code.specs.declared.instr.Instr.TheVariants.{Call}
use Rattle.kb_code.specs.Handler.{HandlerData}
use Rattle.kb_code.specs.Reachable.{Calls, CalleesBelow, none, called, passed}
use Rattle.kb_core.specs.Declaration.{Declaration}
use Rattle.kb_verify.specs.Callable.{Commands, declaration_at}
use Rattle.kb_verify.proofs.Calls.{one_index}
use Rattle.kb_assembly_report.specs.Choice.{IsDeep, IsLeastDepth, handler_with, need, top}

-- what holds with one declaration holds with another one
pub deep_with : (commands : Commands) (given : Draft) (d e : Declaration) (depth : ℕ) →
    IsDeep commands (handler_with given d) depth → IsDeep commands (handler_with given e) depth
deep_with commands given d e depth deep place index c callee = deep place index c (record {
  calls = record { reached = callee.calls.reached; at = callee.calls.at; named = callee.calls.named };
  declares = callee.declares;
})

pub any_least : (commands : Commands) (given : Draft) (d e : Declaration) (depth : ℕ) →
    IsLeastDepth commands (handler_with given d) depth → IsLeastDepth commands (handler_with given e) depth
any_least commands given d e depth least = record {
  some = least.some;
  deep = deep_with commands given d e depth least.deep;
  least = λ other some deep. least.least other some (deep_with commands given e d other deep);
}

pub some_top : (commands : Commands) (calls : List (List ℕ)) (ns : List ℕ) → 1 ≤ top commands calls ns
some_top commands calls [] = omega arith
some_top commands calls (n ∷ ns) = let h = some_top commands calls ns in omega arith

module _ (commands : Commands) (h : HandlerData) where
  abbrev need_at : ℕ → ℕ
  need_at n = need (declaration_at commands h n)

  abbrev top_of : List ℕ → ℕ
  top_of ns = top commands h.calls ns

  top_push : (ns : List ℕ) (n : ℕ) → top_of (ns ++ n ∷ []) ≡ max (top_of ns) (need_at n)
  top_push [] n = omega arith
  top_push (m ∷ ns) n = let h = top_push ns n in omega arith

  each_below : (p : ℕ) (ns : List ℕ) → CalleesBelow h p ns → (q n : ℕ) → q < p → Calls h q n → need_at n ≤ top_of ns
  each_below p ns none q n lt calls = absurd (omega arith)
  each_below p ns (called {p = r} {n = m} {ns = ms} below c) q n lt calls =
      let e = top_push ms m in
      ⊎_elim
      (λ before. let k = each_below r ms below q n before calls in omega (arith, e, k))
      (λ behind.
      let same : q ≡ r = omega arith in
      let at : slice_get h.code q ≡ Some (Call m) = ap (slice_get h.code) same ∙ c.at in
      let k = ap need_at (one_index h q n m calls at) in
      omega (arith, e, k))
      (cases_lt q r)
  each_below p ns (passed {p = r} {ns = ms} below never) q n lt calls =
      ⊎_elim
      (λ before. each_below r ms below q n before calls)
      (λ behind.
      let same : q ≡ r = omega arith in
      absurd (never n (subst (λ k. Calls h k n) same calls)))
      (cases_lt q r)

  least_top : (p : ℕ) (ns : List ℕ) → CalleesBelow h p ns → (x : ℕ) → 1 ≤ x →
      ((q n : ℕ) → Calls h q n → need_at n ≤ x) → top_of ns ≤ x
  least_top p ns none x some all = some
  least_top p ns (called {p = r} {n = m} {ns = ms} below c) x some all =
      let e = top_push ms m in
      let k = least_top r ms below x some all in
      let a = all r m c in
      omega (arith, e, k, a)
  least_top p ns (passed {p = r} {ns = ms} below never) x some all = least_top r ms below x some all

  needed : (depth q n : ℕ) → IsDeep commands h depth → Calls h q n → need_at n ≤ depth
  needed depth q n deep calls = by (declaration_at commands h n) refl
    where
      by : (o : Option Declaration) → declaration_at commands h n ≡ o → need o ≤ depth
      by None is = omega arith
      by (Some d) is = deep q n d (record { calls = calls; declares = is })

  pub least_depth : (depth : ℕ) (ns : List ℕ) → depth ≡ top_of ns → ns ≡ callees_of h →
      CalleesBelow h (length h.code) (callees_of h) → IsLeastDepth commands h depth
  least_depth depth ns is callees below =
      let top_is : depth ≡ top_of (callees_of h) = is ∙ ap top_of callees in
      record {
        some = let k = some_top commands h.calls (callees_of h) in omega (arith, top_is, k);
        deep = λ place index d callee.
            let within = slice_get_within h.code place (Call index) callee.calls.at in
            let k = each_below (length h.code) (callees_of h) below place index within callee.calls in
            let e = ap need callee.declares in
            omega (arith, top_is, k, e);
        least = λ other some deep.
            let k = least_top (length h.code) (callees_of h) below other some (λ q n calls. needed other q n deep calls) in
            omega (arith, top_is, k);
      }
