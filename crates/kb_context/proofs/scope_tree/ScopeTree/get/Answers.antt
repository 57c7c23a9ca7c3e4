use Rattle.std.proofs.Common.{subst}
use Rattle.kb_context.specs.Scopes.{ReachesRoot}
use Rattle.kb_context.proofs.OutwardLemmas.{no_further}
use Rattle.kb_context.proofs.scope_tree.ScopeTree.get.Goals as goal

pub returns-clause-whole : goal.returns-clause-whole
returns-clause-whole c =
    subst ReachesRoot c.self.view_is
    (no_further c.self.inside.scopes.items c.self.inside.focus c.self.invariant.rooted
    c.self.invariant.inside)
