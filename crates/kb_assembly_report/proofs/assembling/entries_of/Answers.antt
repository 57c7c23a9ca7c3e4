use Rattle.std.proofs.Common.{arith, length}
use Rattle.kb_assembly_report.proofs.TranslatingLemmas.{all_filled}
use Rattle.kb_assembly_report.proofs.assembling.entries_of.Goals as goal
use Rattle.kb_assembly_report.proofs.assembling.entries_of.Goals.{in_default, in_default-2}

pub returns : goal.returns
returns c =
    let l = c.loop-left in
    all_filled c.args.sections.now (length l.entries.items) c.args.drafts.now l.left.now c.args.declared.now
    l.others.now l.entries.items l.invariant.fills l.invariant.same
    (elim c.if-left-lt1.branch [
      | in_default w ↦ omega arith
      | in_default-2 w ↦ grind (arith, l.invariant.same, w.in_default)
    ])
