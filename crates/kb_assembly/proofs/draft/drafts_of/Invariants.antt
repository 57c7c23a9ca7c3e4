use Rattle.std.proofs.Common.{◌≡◌, ◌++◌}
use Rattle.std.specs.Vec.Iter.{into_iter_items}
use Rattle.kb_base.specs.Reading.{seen}
use Rattle.kb_assembly.specs.Draft.{drafts_of}
use Rattle.kb_assembly.proofs.draft.drafts_of.Given as goal

-- the handlers so far, and then those that are left
abbrev pub invariant-loop-section : goal.invariant-loop-section
invariant-loop-section l =
    seen (λ rest. l.drafts ++ rest) (drafts_of (into_iter_items l.section-iterator)) ≡ drafts_of l.fn.sections
