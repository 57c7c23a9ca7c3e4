use Rattle.std.proofs.Common.{◌≡◌, ◌∙◌, [], ap, sym, arith, unwrap_or, List, length}
use Rattle.std.proofs.lemmas.List.{nil_from_length}
use Rattle.std.specs.FinMap.{get}
use Rattle.std.specs.Str.{bytes_eq}
use Rattle.std.specs.Vec.Iter.{into_iter_items}
use Rattle.kb_resolve.specs.Enablements.{enablement_in, enablement_of}
use Rattle.kb_resolve.specs.declared.enablements.Contribution.{Contribution}
use Rattle.kb_resolve.proofs.EnablementLemmas.{first_counts}
use Rattle.kb_resolve.proofs.enablements.Enablements.new.Goals as goal

pub loop-contribution-preserved : goal.loop-contribution-preserved
loop-contribution-preserved c = (
  omega (
    arith,
    c.loop-contribution.invariant.0,
    c.in-Some.ensures.steps.1,
    ap length c.in-Some.ensures.steps.0,
  ),
  λ command.
      let table = c.loop-contribution.table in
      let one = c.in-Some.contribution in
      let rest = into_iter_items c.next.new.self in
      ap (λ o. unwrap_or o (enablement_of rest command)) (c.in_ok-add_first.ensures command)
      ∙ first_counts (get table command) (bytes_eq command one.command) one.enablement
      (enablement_of rest command)
      ∙ ap (λ (cs : List Contribution). unwrap_or (get table command) (enablement_of cs command))
      (sym c.in-Some.ensures.steps.0)
      ∙ c.loop-contribution.invariant.1 command,
)

pub returns : goal.returns
unfolding enablement_in
returns c =
    let left = into_iter_items c.loop-contribution.contribution-iterator in
    let none : left ≡ [] =
    nil_from_length left (c.loop-contribution.invariant.0 ∙ c.in-None.ensures.steps.0) in
    λ i command.
    (ap (λ (cs : List Contribution). unwrap_or (get c.loop-contribution.table command)
    (enablement_of cs command)) (sym none)
    ∙ c.loop-contribution.invariant.1 command) i
