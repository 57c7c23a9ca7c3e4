use Rattle.kb_context.specs.Scopes.{context}
use Rattle.kb_explain_report.specs.PaletteSaid.{SaysListing}
use Rattle.kb_explain_report.proofs.SaidLemmas.{wrote_front}
use Rattle.kb_explain_report.proofs.palette_said.say_each.Goals as goal

pub loop-left-preserved : goal.loop-left-preserved
loop-left-preserved g c = λ new rest. c.loop-left.invariant new
    (wrote_front
    (SaysListing c.args.form (context c.args.scopes.now.seen) c.args.query.now c.args.bindings.now)
    c.loop-left.left.now c.first-item.result _ _ new c.first-item.is c.in-len1-up.len_at_least
    (rw c.command.ensures at c.in_ok-say_command.ensures) rest)
