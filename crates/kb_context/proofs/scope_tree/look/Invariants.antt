use Rattle.std.proofs.Common.{◌<◌, length}
use Rattle.std.specs.FinMap as map
use Rattle.kb_context.specs.Scopes.{seen_from}
use Rattle.kb_context.proofs.OutwardLemmas.{GoesOn}
use Rattle.kb_context.proofs.scope_tree.look.Given as goal

abbrev pub invariant-loop-value : goal.invariant-loop-value
invariant-loop-value l = record {
  inside : l.at < length l.scopes;
  search : GoesOn l.scopes l.key (map.get (seen_from l.scopes l.from) l.key) l.at;
}

-- each parent stands before its scope
abbrev pub decreases-loop-value : goal.decreases-loop-value
decreases-loop-value l = l.at
