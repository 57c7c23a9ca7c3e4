use Rattle.std.proofs.Common.{sym, refl, ◌∙◌}
use Rattle.kb_jsonc.proofs.PassLemmas.{stands_first, outcome_first, outcome_last}
use Rattle.kb_jsonc.proofs.scan.make_plain.Goals as goal

pub loop-scan-init : goal.loop-scan-init
loop-scan-init c = record {
  stands = stands_first c.args.bytes.now c.requires;
  length = refl;
  same = outcome_first c.args.bytes.now;
}

pub returns-clause-ok : goal.returns-clause-ok
returns-clause-ok c = sym c.loop-scan.invariant.same
    ∙ outcome_last c.loop-scan.bytes c.loop-scan.scan c.loop-scan-test.false
