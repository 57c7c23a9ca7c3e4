use Rattle.std.proofs.Common.{List, subst}
use Rattle.std.specs.Borrow.{Bor}
use Rattle.kb_explain_report.specs.UnboundSaid.{SaysLent, SaysUnbound}
use Rattle.kb_explain_report.specs.Said.{WritesEach}
use Rattle.kb_explain_report.proofs.SaidLemmas.{wrote_mapped}
use Rattle.kb_explain_report.proofs.unbound_said.say_unbound.Goals as goal
use Rattle.kb_palette.specs.Command.{CommandData}

pub returns : goal.returns
returns g c =
    let old = g.W.Write.contents c.args.out.now in
    let new = g.W.Write.contents c.say_each.new.out in
    let is = SaysUnbound c.args.form in
    let said = subst
    (λ (l : List (Bor CommandData)). WritesEach (SaysLent c.args.form) l old new)
    c.as_slice.ensures.value c.in_ok-say_each.ensures in
    subst (λ (l : List CommandData). WritesEach is l old new) c.in_ok-all.ensures
    (wrote_mapped (λ r. r.now) is c.in_ok-all.all.items old new said)
