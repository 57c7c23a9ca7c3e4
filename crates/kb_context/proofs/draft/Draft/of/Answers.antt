use Rattle.kb_context.proofs.DraftLemmas.{IsPlaced-empty}
use Rattle.kb_context.proofs.draft.Draft.of.Goals as goal

pub invariant_of-draft : goal.invariant_of-draft
invariant_of-draft c = IsPlaced-empty c.new.result.items c.new-2.result c.new.ensures.items c.new-2.ensures
