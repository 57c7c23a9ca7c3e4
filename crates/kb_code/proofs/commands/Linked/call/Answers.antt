use Rattle.std.proofs.Common.{◌∙◌, ◌<◌, sym, ap, subst, length, map}
use Rattle.kb_core.specs.Native.{named}
use Rattle.kb_code.specs.Handler.{HandlerData}
use Rattle.kb_code.proofs.TargetLemmas.{target_native}
use Rattle.kb_code.proofs.commands.Linked.call.Goals as goal

pub returns-clause-native : goal.returns-clause-native
returns-clause-native c =
    let calls = ap (λ (h : HandlerData). h.calls) (sym c.self.view_is) ∙ sym c.calls.ensures in
    target_native c.self.inside.targets.now c.calls.result.now c.args.index _ c.index-calls-index.result
    (c.self.invariant ∙ ap (map named) (sym c.calls.ensures))
    (subst (λ calls. c.args.index < length calls) calls c.requires)
    c.index-calls-index.is
