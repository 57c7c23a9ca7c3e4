use Rattle.kb_when.proofs.ClauseLemmas.{by_grammar, only, stands}
use Rattle.kb_when.proofs.TokenizerLemmas.{count_suffices}
use Rattle.kb_when.proofs.clause.Clause.parse.Goals as goal

pub returns-in_err-tree-clause-counted : goal.returns-in_err-tree-clause-counted
returns-in_err-tree-clause-counted c = count_suffices c.args.text.now

pub returns-in_err-unread-clause-counted : goal.returns-in_err-unread-clause-counted
returns-in_err-unread-clause-counted c = count_suffices c.args.text.now

pub returns-clause-counted : goal.returns-clause-counted
returns-clause-counted c = count_suffices c.args.text.now

pub returns-in_err-tree-clause-grammar : goal.returns-in_err-tree-clause-grammar
returns-in_err-tree-clause-grammar c = by_grammar c.args.text.now

pub returns-in_err-unread-clause-grammar : goal.returns-in_err-unread-clause-grammar
returns-in_err-unread-clause-grammar c = by_grammar c.args.text.now

pub returns-clause-grammar : goal.returns-clause-grammar
returns-clause-grammar c = by_grammar c.args.text.now

pub returns-clause-stands : goal.returns-clause-stands
returns-clause-stands c = stands _ _ c.in_ok-tree.ensures

pub returns-clause-only : goal.returns-clause-only
returns-clause-only c = λ u s. only _ _ u c.in_ok-tree.ensures s

pub returns-in_err-flat-clause-counted : goal.returns-in_err-flat-clause-counted
returns-in_err-flat-clause-counted c = count_suffices c.args.text.now

pub returns-in_err-flat-clause-grammar : goal.returns-in_err-flat-clause-grammar
returns-in_err-flat-clause-grammar c = by_grammar c.args.text.now
