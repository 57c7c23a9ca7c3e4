use Rattle.kb_assembly.proofs.FileLemmas.{given_file, given_drafts}
use Rattle.kb_assembly.proofs.file.assemble.Goals as goal

pub returns-clause-grammar : goal.returns-clause-grammar
returns-clause-grammar c = given_file c.args.text.now c.read_text.result c.read_text.ensures

pub returns-clause-only : goal.returns-clause-only
returns-clause-only c = λ drafts is. given_drafts c.args.text.now c.read_text.result drafts is c.read_text.ensures
