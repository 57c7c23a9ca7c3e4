use Rattle.std.proofs.Common.{subst}
use Rattle.kb_context.specs.Scopes.{ReachesRoot}
use Rattle.kb_context.proofs.OutwardLemmas.{no_further}
use Rattle.kb_context.proofs.scope_tree.ScopeTree.value_in_seat.Goals as goal

pub returns-in-Some-clause-whole : goal.returns-in-Some-clause-whole
returns-in-Some-clause-whole c =
    subst ReachesRoot c.self.view_is
    (no_further c.self.inside.scopes.items c.self.inside.focus c.self.invariant.rooted
    c.self.invariant.inside)

pub returns-in-None-clause-whole : goal.returns-in-None-clause-whole
returns-in-None-clause-whole c =
    subst ReachesRoot c.self.view_is
    (no_further c.self.inside.scopes.items c.self.inside.focus c.self.invariant.rooted
    c.self.invariant.inside)
