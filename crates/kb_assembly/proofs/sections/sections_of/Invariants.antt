use Rattle.std.proofs.Common.{◌≡◌, ◌+◌, ◌++◌, length}
use Rattle.std.specs.Vec.Iter.{into_iter_items}
use Rattle.kb_base.specs.Reading.{seen}
use Rattle.kb_assembly.specs.Sections.{cut_from, sections_of}
use Rattle.kb_assembly.proofs.sections.sections_of.Given as goal

-- the handlers so far, and those of what is left
abbrev pub invariant-loop-words : goal.invariant-loop-words
invariant-loop-words l = record {
  told : sections_of l.fn.lines ≡ seen (λ more. l.cut.done ++ more) (cut_from l.line l.cut.last (into_iter_items l.words-iterator));
  size : l.line + length (into_iter_items l.words-iterator) ≡ length l.fn.lines;
}
