use Rattle.kb_assembly.proofs.HeadLemmas.{given_head, given_lines}
use Rattle.kb_assembly.proofs.head.head_of.Goals as goal

pub returns-clause-grammar : goal.returns-clause-grammar
returns-clause-grammar c = given_head c.args.lines.now c.read_head.result c.read_head.ensures

pub returns-clause-only : goal.returns-clause-only
returns-clause-only c = λ head is. given_lines c.args.lines.now c.read_head.result head is c.read_head.ensures
