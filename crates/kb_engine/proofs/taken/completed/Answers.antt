use Rattle.std.proofs.Common.{◌∙◌, ap}
use Rattle.kb_bindings.specs.Sources.{rules_of}
use Rattle.kb_engine.proofs.TakenLemmas.{completes_gone, completes_rule}
use Rattle.kb_engine.proofs.taken.completed.Goals as goal

pub returns-in-Some-clause-taken : goal.returns-in-Some-clause-taken
returns-in-Some-clause-taken c =
    completes_rule c.args.session.now.state c.args.found c.in-At.position c.resolver.result.now c.args.before c.in-At.is
    (c.resolver.ensures ∙ ap rules_of c.bindings.ensures) c.in-Some.rule.now c.taken_by_rule.result c.in-Some.ensures
    c.taken_by_rule.ensures

pub returns-in-None-clause-taken : goal.returns-in-None-clause-taken
returns-in-None-clause-taken c =
    completes_gone c.args.session.now.state c.args.found c.in-At.position c.resolver.result.now c.args.before c.in-At.is
    (c.resolver.ensures ∙ ap rules_of c.bindings.ensures) c.in-None.ensures
