use Rattle.kb_when.proofs.parser.begin.Goals as goal

pub returns-in_ok-condition-in-Word-clause-ok : goal.returns-in_ok-condition-in-Word-clause-ok
returns-in_ok-condition-in-Word-clause-ok c =
    rw (c.in-Some.ensures, c.in-Word.is) (c.in_ok-condition-in-Word.ensures.ok c.args.depth)
