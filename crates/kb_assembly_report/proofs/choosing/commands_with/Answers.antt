use Rattle.std.proofs.Common.{◌∙◌, sym, arith}
use Rattle.kb_assembly_report.proofs.RaisingLemmas.{no_declared, no_drafts}
use Rattle.kb_assembly_report.proofs.choosing.commands_with.Goals as goal
use Rattle.kb_assembly_report.proofs.choosing.commands_with.Goals.{in_default, in_default-2}

pub returns : goal.returns
returns c =
    let l = c.loop-left in
    elim c.if-left-lt1.branch [
      | in_default w ↦ sym (no_drafts l.callable l.left.now l.others.now (omega arith)) ∙ l.invariant
      | in_default-2 w ↦
          sym (no_declared l.callable l.left.now l.others.now (grind (arith, w.in_default))) ∙ l.invariant
    ]
