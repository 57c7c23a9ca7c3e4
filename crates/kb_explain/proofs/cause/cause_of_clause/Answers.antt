use Rattle.std.proofs.Common.{◌≡◌}
use Rattle.kb_context.specs.Scopes.{context}
use Rattle.kb_explain.specs.Cause.{cause_data}
use Rattle.kb_when.specs.Tree.{marked_of}
use Rattle.kb_explain.proofs.CauseLemmas.{holds_where_ok, fails_where_ok}
use Rattle.kb_explain.proofs.cause.cause_of_clause.Goals as goal

pub returns-in-Some-clause-holds : goal.returns-in-Some-clause-holds
returns-in-Some-clause-holds c =
    rw c.in-Some.is
    (holds_where_ok cause_data (context c.args.scopes.now.seen) (marked_of c.tree.result.now) c.in-Some.clause.now
    c.tree.ensures c.cause_in.result c.cause_in.ensures)

pub returns-in-Some-clause-fails : goal.returns-in-Some-clause-fails
returns-in-Some-clause-fails c =
    rw c.in-Some.is
    (fails_where_ok cause_data (context c.args.scopes.now.seen) (marked_of c.tree.result.now) c.in-Some.clause.now
    c.tree.ensures c.cause_in.result c.cause_in.ensures)
