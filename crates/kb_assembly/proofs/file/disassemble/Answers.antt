use Rattle.kb_assembly.proofs.FileLemmas.{given_again}
use Rattle.kb_assembly.proofs.file.disassemble.Goals as goal

pub returns-clause-again : goal.returns-clause-again
returns-clause-again c =
    given_again c.args.drafts.now c.write_text.result c.write_text.ensures.text c.write_text.ensures.texts c.write_text.ensures.limits
    c.write_text.ensures.code
