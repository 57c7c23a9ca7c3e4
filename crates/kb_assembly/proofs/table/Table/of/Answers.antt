use Rattle.std.proofs.Common.{ap, ◌∙◌}
use Rattle.kb_assembly.specs.Places.{place_in}
use Rattle.kb_assembly.proofs.IndexLemmas.{same_names}
use Rattle.kb_assembly.proofs.table.Table.of.Goals as goal

pub invariant_of-result : goal.invariant_of-result
invariant_of-result c = λ name.
    c.in_ok-index.ensures name ∙ ap (λ xs. place_in 0 xs name) (same_names c.as_slice.result.now ∙ c.as_slice.ensures)
