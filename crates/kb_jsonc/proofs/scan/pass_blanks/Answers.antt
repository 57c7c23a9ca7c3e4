use Rattle.std.proofs.Common.{sym}
use Rattle.kb_jsonc.proofs.PassLemmas.{past_blank, more_blank}
use Rattle.kb_jsonc.proofs.scan.pass_blanks.Goals as goal

pub loop-at-init : goal.loop-at-init
loop-at-init c = past_blank c.requires.stands c.requires.within c.requires.first

pub loop-at-preserved : goal.loop-at-preserved
loop-at-preserved c = more_blank c.loop-at.at c.loop-at.invariant c.loop-at-test.true
    (sym c.if-is_blank.ensures)
