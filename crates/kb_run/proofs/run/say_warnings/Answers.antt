use Rattle.std.proofs.Common.{arith}
use Rattle.kb_run.proofs.RunLemmas.{warned_one, warned_none, warned_all}
use Rattle.kb_run.proofs.run.say_warnings.Goals as goal

pub loop-warning-preserved : goal.loop-warning-preserved
loop-warning-preserved g c = λ end says.
    let warnings = c.warnings-warnings.result.now in
    c.loop-warning.invariant end
    (warned_one c.args.session.now.state.sources _ _ _ warnings c.loop-warning.warning-index _ _ (omega arith)
    c.source-source.ensures c.say.ensures says)

pub returns : goal.returns
returns g c =
    let sources = c.args.session.now.state.sources in
    let warnings = c.warnings-warnings.result.now in
    warned_all sources _ _ warnings _ c.warnings-warnings.ensures
    (c.loop-warning.invariant _ (warned_none sources _ warnings c.loop-warning.warning-index (omega arith)))
