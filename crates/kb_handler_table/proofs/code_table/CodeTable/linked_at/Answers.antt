use Rattle.std.proofs.Common.{◌≡◌, ◌∙◌, Some, IfSome, refl, sym, ap, subst, slice_get}
use Rattle.std.proofs.lemmas.Option.{slice_get_read}
use Rattle.kb_handler_table.specs.Live.{live_in}
use Rattle.kb_code.specs.Handler.{handler_named}
use Rattle.kb_handler_table.proofs.Apart.{found_here}
use Rattle.kb_handler_table.proofs.code_table.CodeTable.linked_at.Goals as goal

pub returns-in-Some : goal.returns-in-Some
returns-in-Some c =
    let i = c.near-place.result in
    let g = c.in-Some.group.now in
    let lookup = c.in-Some.ensures.lookup in
    let at = ap (λ gs. slice_get gs i) (sym c.deref.ensures.value)
    ∙ slice_get_read c.deref.result.now _ i g refl lookup.3.0 lookup.1 in
    subst (λ gs. IfSome c.named_at.result (λ h. handler_named c.args.name.now (live_in gs) ≡ Some h)) c.self.view_is
    (found_here c.args.name.now c.self.inside.groups.items i g _ c.named_at.result c.self.invariant at c.named_at.ensures)
