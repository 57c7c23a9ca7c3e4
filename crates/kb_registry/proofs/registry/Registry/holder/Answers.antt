use Rattle.std.proofs.Common.{◌∙◌, option_map, sym, ap}
use Rattle.std.specs.Map.Iter.{deref_pair}
use Rattle.kb_registry.specs.Live.{holder}
use Rattle.kb_registry.proofs.Entries.{holder-at, holder-none}
use Rattle.kb_registry.proofs.registry.Registry.holder.Goals as goal

pub returns-in-Some : goal.returns-in-Some
returns-in-Some g c =
    let at = sym c.get_index.ensures.entry ∙ ap (option_map deref_pair) c.unwrap.ensures in
    let p = c.in-Some.ensures.place in
    let e = deref_pair c.unwrap.result in
    sym (holder-at (λ e. e.ticket) c.args.ticket.0 c.self.inside.table.entries c.in-Some.place e p.1 at (p.2 e at))
    ∙ ap (holder c.args.ticket.0) c.self.view_is

pub returns-in-None : goal.returns-in-None
returns-in-None g c =
    sym (holder-none (λ e. e.ticket) c.args.ticket.0 c.self.inside.table.entries c.in-None.ensures.place)
    ∙ ap (holder c.args.ticket.0) c.self.view_is
