use Rattle.std.proofs.Common.{sym, ap, ◌∙◌}
use Rattle.std.specs.Prelude.{bytes_eq}
use Rattle.kb_base.specs.TextMap.{filled}
use Rattle.kb_assembly.specs.Index.{number_in}
use Rattle.kb_assembly.specs.Places.{place_in}
use Rattle.kb_assembly.proofs.IndexLemmas.{one_behind}
use Rattle.kb_assembly.proofs.table.Table.with.Goals as goal

pub invariant_of-result : goal.invariant_of-result
invariant_of-result c = λ name.
    one_behind c.self.inside.texts c.args.text c.self.inside.index c.in_ok-index.index c.self.invariant
    (λ other. c.in_ok-index.ensures other
    ∙ ap (λ t. filled (number_in c.self.inside.index other) (bytes_eq t other) c.len.result) c.as_str.ensures
    ∙ ap (λ n. filled (number_in c.self.inside.index other) (bytes_eq c.args.text other) n) c.len.ensures)
    name
    ∙ ap (λ xs. place_in 0 xs name) (sym c.in_ok-push.ensures.ok)
