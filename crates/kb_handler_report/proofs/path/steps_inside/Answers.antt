use Rattle.std.proofs.Common.{◌≡◌, ◌∙◌, ap, sym}
use Rattle.kb_verify.specs.Paths.{Turns}
use Rattle.kb_verify.specs.Route.{before, route_of}
use Rattle.kb_verify.specs.declared.fault.Step.TheVariants as step
use Rattle.kb_verify.proofs.Routes.{turn_before}
use Rattle.kb_handler_report.proofs.path.steps_inside.Goals as goal

pub returns-in-Turns : goal.returns-in-Turns
returns-in-Turns c more turn rest e =
    let v = c.in-Turns.turn in
    let f : Turns (route_of v.items) more ≡ Turns turn rest =
    sym (turn_before v more) ∙ ap (λ z. before z more) (sym c.in-Turns.is) ∙ e in
    ap route_of c.as_slice.ensures.value ∙ (cc)
