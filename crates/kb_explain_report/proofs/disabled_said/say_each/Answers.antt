use Rattle.kb_explain_report.specs.DisabledSaid.{SaysIdle}
use Rattle.kb_explain_report.proofs.SaidLemmas.{wrote_front}
use Rattle.kb_explain_report.proofs.disabled_said.say_each.Goals as goal

pub loop-left-preserved : goal.loop-left-preserved
loop-left-preserved g c = λ new rest. c.loop-left.invariant new
    (wrote_front (SaysIdle c.args.form c.args.named.now) c.loop-left.left.now c.first-item.result _ _ new
    c.first-item.is c.in-len1-up.len_at_least c.in_ok-say_one.ensures rest)
