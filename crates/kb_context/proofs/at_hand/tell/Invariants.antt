use Rattle.kb_context.specs.Scopes.{context}
use Rattle.kb_context.proofs.SightLemmas.{TellsBelow}
use Rattle.kb_context.proofs.at_hand.tell.Given as goal

-- the sights that were made are right
abbrev pub invariant-loop-hash : goal.invariant-loop-hash
invariant-loop-hash l = TellsBelow (context l.tree) l.sights.items l.hash
