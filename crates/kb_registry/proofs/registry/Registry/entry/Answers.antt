use Rattle.std.proofs.Common.{◌∙◌, is_some, sym, ap}
use Rattle.indexmap.specs.IndexMap.{get}
use Rattle.kb_handler_table.specs.Live.{same_native}
use Rattle.kb_registry.specs.Live.{is_live}
use Rattle.kb_registry.proofs.Entries.{live-get, is_some-lent, holds_lent}
use Rattle.kb_registry.proofs.registry.Registry.entry.Goals as goal

pub returns-clause-live : goal.returns-clause-live
returns-clause-live g c =
    sym (is_some-lent c.entry_of.result) ∙ ap is_some c.entry_of.ensures
    ∙ sym (live-get (λ e. e.ticket) c.self.inside.limit c.self.inside.made c.self.inside.code c.self.inside.table c.args.native)
    ∙ ap (is_live c.args.native) c.self.view_is

pub returns-clause-native : goal.returns-clause-native
returns-clause-native g c =
    holds_lent c.entry_of.result (get same_native c.self.inside.table c.args.native) c.entry_of.ensures
    (c.self.invariant.keyed c.args.native)
