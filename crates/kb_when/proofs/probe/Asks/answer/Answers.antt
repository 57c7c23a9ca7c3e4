use Rattle.std.proofs.Common.{rules}
use Rattle.kb_when.proofs.ProbeLemmas.{holds_answers, text_answers, equals_answers}
use Rattle.kb_when.proofs.probe.Asks.answer.Goals as goal

pub returns-in-Holds : goal.returns-in-Holds
returns-in-Holds c = λ leaf keys asks bytes is. holds_answers keys leaf c.args.seen.now (search rules) is

pub returns-in-Equals : goal.returns-in-Equals
returns-in-Equals c = λ leaf keys asks bytes is.
    equals_answers keys leaf c.args.seen.now c.in-Equals.start c.is_text.result (search rules) bytes is
    c.is_text.ensures

pub returns-else-seen : goal.returns-else-seen
returns-else-seen c = λ leaf keys asks bytes is.
    text_answers keys leaf c.args.seen.now (search rules) is (search rules)
