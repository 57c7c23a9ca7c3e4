use Rattle.std.proofs.Common.{rules, ◌≡◌, ◌∙◌, sym, true, false}
use Rattle.kb_base.specs.ExtensionId.{same_id}
use Rattle.kb_verify.proofs.ProviderLemmas.{met, passed}
use Rattle.kb_verify.proofs.provider.is_needed.Goals as goal

pub returns-then-same_id : goal.returns-then-same_id
returns-then-same_id c =
    let same : same_id c.args.id.now c.other-item.result ≡ true = search rules in
    sym (met _ _ _ c.other-item.result c.loop-other-test.true c.other-item.is same) ∙ c.loop-other.invariant

pub loop-other-preserved : goal.loop-other-preserved
loop-other-preserved c =
    let differs : same_id c.args.id.now c.other-item.result ≡ false = search rules in
    passed _ _ _ c.other-item.result c.loop-other-test.true c.other-item.is differs ∙ c.loop-other.invariant
