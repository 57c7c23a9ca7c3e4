use Rattle.kb_assembly.proofs.DraftLemmas.{given_handler, given_lines}
use Rattle.kb_assembly.proofs.draft.draft_of.Goals as goal

pub returns-clause-grammar : goal.returns-clause-grammar
returns-clause-grammar c = given_handler c.args.command c.args.lines.now c.read_draft.result c.read_draft.ensures

pub returns-clause-only : goal.returns-clause-only
returns-clause-only c = λ draft is.
    given_lines c.args.command c.args.lines.now c.read_draft.result draft is c.read_draft.ensures
