use Rattle.std.proofs.Common.{◌≡◌, ◌∙◌, ◌-◌, ap, take, drop, ℕ, List}
use Rattle.kb_rules.specs.declared.rule.Rule.{Rule}
use Rattle.kb_resolve.specs.Index.{positions_of, seconds_of}
use Rattle.kb_resolve.proofs.SecondLemmas.{seconds-range}
use Rattle.kb_resolve.proofs.resolver.Resolver.seconds.Goals as goal

pub returns : goal.returns
returns c =
    let part : take (c.range-start.result.1 - c.range-start.result.0)
    (drop c.range-start.result.0 c.self.inside.index.positions.items) ≡ positions_of c.args.stroke c.self.inside.set =
    rw (c.range-start.ensures.start, c.range-start.ensures.end)
    (c.self.invariant.0.each c.args.stroke c.range-start.ensures.known) in
    ap (λ (l : List ℕ). take (c.range-start.result.1 - c.range-start.result.0) (drop c.range-start.result.0 l)) c.deref.ensures.value
    ∙ seconds-range c.self.inside.set c.self.inside.index.positions.items
    (positions_of c.args.stroke c.self.inside.set) c.self.inside.index.seconds.items c.range-start.result.0
    (c.range-start.result.1 - c.range-start.result.0) c.self.invariant.1 part
    ∙ ap (λ (rules : List Rule). seconds_of rules (positions_of c.args.stroke rules)) c.self.view_is
