use Rattle.std.proofs.Common.{◌≡◌, ◌<◌, ◌^◌, length, refl, ap, arith, subst}
use Rattle.std.specs.Prelude.{slice_index}
use Rattle.std.proofs.lemmas.Option.{get_or_from_slice_get, slice_get_read}
use Rattle.kb_verify.specs.Paths.{IsDearestCost, IsWithinBudget}
use Rattle.kb_code.specs.Reachable.{first}
use Rattle.kb_verify.proofs.Attained.{dearest_is}
use Rattle.kb_verify.proofs.Dearest.{path_most}
use Rattle.kb_verify.proofs.verified.cost_within_budget.Goals as goal

pub returns-then-cost-from : goal.returns-then-cost-from
returns-then-cost-from c =
    let commands = c.args.callable.now in
    let h = c.args.handler.now in
    let costs = c.in_ok-costs.costs.items in
    let are = c.in_ok-costs.ensures in
    let size = are.size in
    let some : 0 < length costs = omega (arith, size, c.requires.some_code) in
    let first : slice_index costs 0 ≡ c.index-cost.result.now = get_or_from_slice_get costs 0 c.index-cost.result.now 0 (slice_get_read _ _ _ _ refl some c.index-cost.ensures) in
    let declared : c.signature.result.now.budget ≡ h.signature.budget = ap (λ d. d.budget) c.signature.ensures.signature in
    let fits : h.signature.budget < 2 ^ 64 = omega (arith, declared, c.budget.ensures.budget, c.budget.ensures.limit) in
    let within : IsWithinBudget commands h = λ path d is.
    let most = path_most commands h costs are 0 path d is in
    omega (arith, most, first, c.if-cost-from.true, c.from.ensures, c.budget.ensures.budget, c.budget.ensures.limit, declared) in (
      within,
      subst (IsDearestCost commands h) first (dearest_is commands h c.requires.formed c.requires.shapes.0 c.requires.shapes.1 costs are h.signature.budget fits c.requires.some_code within),
    )

pub dearest_path-requires-clause-reached : goal.dearest_path-requires-clause-reached
dearest_path-requires-clause-reached c = first c.requires.some_code
