use Rattle.std.proofs.Common.{◌≡◌}
use Rattle.std.specs.Vec.Iter.{into_iter_items}
use Rattle.kb_manifest.specs.Notes.{with_unread}
use Rattle.kb_manifest.proofs.notes.Notes.mark.Given as goal

-- what there is, and then those that are left
abbrev pub invariant-loop-one : goal.invariant-loop-one
invariant-loop-one l =
    with_unread l.fn.origin l.fn.part l.fn.place (into_iter_items l.one-iterator) l.self
    ≡ with_unread l.fn.origin l.fn.part l.fn.place l.fn.patterns l.fn.self
