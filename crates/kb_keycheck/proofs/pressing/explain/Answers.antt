use Rattle.kb_keycheck.proofs.PressingLemmas.{said_front}
use Rattle.kb_keycheck.proofs.pressing.explain.Goals as goal

pub loop-left-preserved : goal.loop-left-preserved
loop-left-preserved g c = λ new rest. c.loop-left.invariant new
    (said_front c.args.form c.loop-left.left.now c.stroke-item.result c.is_empty.result c.loop-left.session.state
    c.explain_stroke.new.session.state _ _ new c.stroke-item.is c.in-len1-up.len_at_least c.is_empty.ensures
    c.in_ok-explain_stroke.ensures.said c.in_ok-explain_stroke.ensures.state rest)
