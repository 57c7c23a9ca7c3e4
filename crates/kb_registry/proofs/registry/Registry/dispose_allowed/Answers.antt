use Rattle.std.proofs.Common.{◌∙◌, Some, IsSome, true≢false, sym, ap, subst}
use Rattle.kb_registry.specs.Live.{holder, holder_in, disposed}
use Rattle.kb_registry.specs.Sound.{plain_entries}
use Rattle.kb_registry.proofs.Allowed.{is_held}
use Rattle.kb_registry.proofs.Entries.{holder-at, holder-none, without-at}
use Rattle.kb_registry.proofs.Sounds.{sound_removed}
use Rattle.kb_registry.proofs.Tickets.{holder_gone, holder_of_another}
use Rattle.kb_registry.proofs.registry.Registry.dispose_allowed.Goals as goal

pub invariant_of-self : goal.invariant_of-self
invariant_of-self g c =
    let at = sym c.shift_remove_index.ensures.entry ∙ c.unwrap-entry.ensures in
    let p = c.in-Some.ensures.place in
    let e = c.unwrap-entry.result in
    let left = ap (plain_entries (λ e. e.ticket)) c.shift_remove_index.ensures.entries
    ∙ without-at (λ e. e.ticket) c.args.ticket.0 c.self.inside.table.entries c.in-Some.place e p.1 at (p.2 e at) in
    sound_removed (λ e. g.C.HostCommand.stands_for e.command) (λ e. e.signature) (λ e. e.ticket)
    c.self.inside.limit c.self.inside.made c.self.inside.table c.shift_remove_index.new.self c.args.ticket.0
    c.shift_remove_index.result c.self.invariant c.shift_remove_index.ensures.updates
    c.shift_remove_index.ensures.unchanged left

pub returns-clause-closure : goal.returns-clause-closure
returns-clause-closure g c =
    let at = sym c.shift_remove_index.ensures.entry ∙ c.unwrap-entry.ensures in
    let p = c.in-Some.ensures.place in
    let e = c.unwrap-entry.result in
    sym (ap (holder c.args.ticket.0) c.self.view_is)
    ∙ holder-at (λ e. e.ticket) c.args.ticket.0 c.self.inside.table.entries c.in-Some.place e p.1 at (p.2 e at)
    ∙ ap Some (sym (c.self.invariant.keyed e.0 e.1 (c.in-Some.ensures.got e at)))

pub returns-clause-ok : goal.returns-clause-ok
returns-clause-ok g c =
    let at = sym c.shift_remove_index.ensures.entry ∙ c.unwrap-entry.ensures in
    let p = c.in-Some.ensures.place in
    let e = c.unwrap-entry.result in
    let left = ap (plain_entries (λ e. e.ticket)) c.shift_remove_index.ensures.entries
    ∙ without-at (λ e. e.ticket) c.args.ticket.0 c.self.inside.table.entries c.in-Some.place e p.1 at (p.2 e at) in
    ap (λ entries. record { limit = c.self.inside.limit; made = c.self.inside.made; commands = entries; code = c.self.inside.code }) left
    ∙ ap (disposed c.args.ticket.0) c.self.view_is

pub returns-clause-stale : goal.returns-clause-stale
returns-clause-stale g c =
    let at = sym c.shift_remove_index.ensures.entry ∙ c.unwrap-entry.ensures in
    let p = c.in-Some.ensures.place in
    let e = c.unwrap-entry.result in
    let left = ap (plain_entries (λ e. e.ticket)) c.shift_remove_index.ensures.entries
    ∙ without-at (λ e. e.ticket) c.args.ticket.0 c.self.inside.table.entries c.in-Some.place e p.1 at (p.2 e at) in
    ap (holder_in c.args.ticket.0) left
    ∙ holder_gone c.self.inside.made c.args.ticket.0 (plain_entries (λ e. e.ticket) c.self.inside.table.entries)
    c.self.invariant.numbered

pub returns-clause-others : goal.returns-clause-others
returns-clause-others g c =
    let at = sym c.shift_remove_index.ensures.entry ∙ c.unwrap-entry.ensures in
    let p = c.in-Some.ensures.place in
    let e = c.unwrap-entry.result in
    let left = ap (plain_entries (λ e. e.ticket)) c.shift_remove_index.ensures.entries
    ∙ without-at (λ e. e.ticket) c.args.ticket.0 c.self.inside.table.entries c.in-Some.place e p.1 at (p.2 e at) in
    λ t other. ap (holder_in t) left
    ∙ holder_of_another c.args.ticket.0 t (plain_entries (λ e. e.ticket) c.self.inside.table.entries) other
    ∙ ap (holder t) c.self.view_is

pub unreachable-requires : goal.unreachable-requires
unreachable-requires g c =
    true≢false (sym (subst IsSome
    (sym (ap (holder c.args.ticket.0) c.self.view_is)
    ∙ holder-none (λ e. e.ticket) c.args.ticket.0 c.self.inside.table.entries c.in-None.ensures.place)
    (is_held c.args.ticket.0 c.args.self.now c.requires)))
