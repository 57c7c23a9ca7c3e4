use Rattle.std.proofs.Common.{sym, ap, ◌∙◌, option_and_then}
use Rattle.std.specs.Prelude.{slice_get}
use Rattle.kb_assembly.specs.Names.{label_named}
use Rattle.kb_assembly.proofs.IndexLemmas.{found_label}
use Rattle.kb_assembly.proofs.table.Labels.named.Goals as goal

pub returns-in-Some : goal.returns-in-Some
returns-in-Some c =
    let labels = c.self.inside.labels in
    c.label_at.ensures ∙ ap (λ xs. slice_get xs c.in-Some.place) c.as_slice.ensures
    ∙ ap (option_and_then (slice_get labels)) (sym c.in-Some.is ∙ c.place.ensures)
    ∙ found_label labels c.self.inside.index c.args.name.now c.self.invariant
    ∙ ap (λ xs. label_named xs c.args.name.now) c.self.view_is

pub returns-in-None : goal.returns-in-None
returns-in-None c =
    let labels = c.self.inside.labels in
    ap (option_and_then (slice_get labels)) (sym c.in-None.is ∙ c.place.ensures)
    ∙ found_label labels c.self.inside.index c.args.name.now c.self.invariant
    ∙ ap (λ xs. label_named xs c.args.name.now) c.self.view_is
