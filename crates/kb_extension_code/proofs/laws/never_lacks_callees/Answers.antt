use Rattle.kb_extension_code.proofs.LackingLemmas.{never_lacks_callees}
use Rattle.kb_extension_code.proofs.laws.never_lacks_callees.Goals as goal

pub returns : goal.returns
returns c = never_lacks_callees
