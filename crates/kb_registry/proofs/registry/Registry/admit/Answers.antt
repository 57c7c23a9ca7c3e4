use Rattle.std.proofs.Common.{◌∙◌, ◌+◌, ◌<◌, sym, ap, subst}
use Rattle.kb_registry.specs.Live.{is_live, registered}
use Rattle.kb_registry.specs.declared.registry.Entry.{Entry}
use Rattle.kb_registry.proofs.Entries.{live-get, registered-entries}
use Rattle.kb_registry.proofs.Sounds.{sound_inserted, sound_same}
use Rattle.kb_registry.proofs.registry.Registry.admit.Goals as goal

pub invariant_of-self : goal.invariant_of-self
invariant_of-self g c =
    let e : Entry _ = record { ticket = c.self.inside.made + 1; signature = c.args.signature; command = c.args.command } in
    let none = sym (live-get (λ e. e.ticket) c.self.inside.limit c.self.inside.made c.self.inside.code c.self.inside.table c.args.native)
    ∙ ap (is_live c.args.native) c.self.view_is ∙ c.requires.free in
    sound_inserted (λ e. g.C.HostCommand.stands_for e.command) (λ e. e.signature) (λ e. e.ticket)
    c.self.inside.limit c.self.inside.made c.self.inside.table c.insert.new.self c.args.native e
    c.self.invariant (sym c.requires.native) c.requires.signature
    (subst (λ l. l.made < l.limit) (sym c.self.view_is) c.requires.room) c.in-Ok.ensures.updates
    (registered-entries (λ e. e.ticket) c.self.inside.table c.insert.new.self.entries c.args.native e none
    c.in-Ok.ensures.entries)

pub returns-in-Ok-clause-ok : goal.returns-in-Ok-clause-ok
returns-in-Ok-clause-ok g c =
    let e : Entry _ = record { ticket = c.self.inside.made + 1; signature = c.args.signature; command = c.args.command } in
    let none = sym (live-get (λ e. e.ticket) c.self.inside.limit c.self.inside.made c.self.inside.code c.self.inside.table c.args.native)
    ∙ ap (is_live c.args.native) c.self.view_is ∙ c.requires.free in
    ap (λ entries. record { limit = c.self.inside.limit; made = c.self.inside.made + 1; commands = entries; code = c.self.inside.code })
    (registered-entries (λ e. e.ticket) c.self.inside.table c.insert.new.self.entries c.args.native e none
    c.in-Ok.ensures.entries)
    ∙ ap (registered c.args.native) c.self.view_is

pub invariant_of-self-in-Err : goal.invariant_of-self-in-Err
invariant_of-self-in-Err g c =
    sound_same (λ e. g.C.HostCommand.stands_for e.command) (λ e. e.signature) (λ e. e.ticket)
    c.self.inside.limit c.self.inside.made c.self.inside.table c.insert.new.self c.self.invariant c.in-Err.ensures.err
