use Rattle.std.proofs.Common.{ap, ◌∙◌}
use Rattle.kb_files.specs.Context.{context_in}
use Rattle.kb_files.proofs.ContextLemmas.{true_read, false_read}
use Rattle.kb_files.proofs.context_text.read_context_text.Goals as goal

pub returns-in-true : goal.returns-in-true
returns-in-true c = ap context_in c.in-true.is ∙ true_read

pub returns-in-false : goal.returns-in-false
returns-in-false c = ap context_in c.in-false.is ∙ false_read
