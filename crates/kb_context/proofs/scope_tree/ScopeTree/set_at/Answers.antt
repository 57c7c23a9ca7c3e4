use Rattle.kb_context.proofs.ScopesLemmas.{set_changes}
use Rattle.kb_context.proofs.scope_tree.ScopeTree.set_at.Goals as goal

pub returns-clause-change : goal.returns-clause-change
returns-clause-change c =
    set_changes c.args.self.now _ c.args.at c.args.key.now c.args.value c.in_ok-put_at.ensures.ok c.requires
