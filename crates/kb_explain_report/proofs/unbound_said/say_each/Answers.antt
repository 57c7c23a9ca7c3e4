use Rattle.kb_explain_report.specs.UnboundSaid.{SaysLent}
use Rattle.kb_explain_report.proofs.SaidLemmas.{wrote_front}
use Rattle.kb_explain_report.proofs.unbound_said.say_each.Goals as goal

pub loop-left-preserved : goal.loop-left-preserved
loop-left-preserved g c = λ new rest. c.loop-left.invariant new
    (wrote_front (SaysLent c.args.form) c.loop-left.left.now c.first-item.result _ _ new
    c.first-item.is c.in-len1-up.len_at_least c.in_ok-say_one.ensures rest)
