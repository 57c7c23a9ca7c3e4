use Rattle.std.proofs.Common.{◌≡◌, []}
use Rattle.std.specs.Vec.Iter.{into_iter_items}
use Rattle.kb_context.specs.Draft.{built}
use Rattle.kb_context.proofs.draft.Draft.of.Given as goal

-- what is left goes behind the draft
abbrev pub invariant-loop-scope : goal.invariant-loop-scope
invariant-loop-scope l = built l.draft (into_iter_items l.scope-iterator) ≡ built [] l.fn.scopes.items
