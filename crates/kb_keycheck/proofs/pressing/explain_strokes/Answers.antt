use Rattle.std.proofs.Common.{◌∙◌, ap}
use Rattle.kb_core.specs.Core.{Core}
use Rattle.kb_keycheck.proofs.PressingLemmas.{said_why}
use Rattle.kb_keycheck.proofs.pressing.explain_strokes.Goals as goal

pub returns-clause-said : goal.returns-clause-said
returns-clause-said g c = λ stroke e.
    let s = c.args.session.now.state in
    let sees = c.scopes.ensures ∙ ap (λ (k : Core). k.scopes) c.core.ensures in
    said_why c.args.form c.args.is_last
    (record { bindings = c.bindings.result; files = c.args.files; places = c.args.places }) s stroke
    c.args.strokes.now c.scopes.result.now.seen _ _ c.bindings.ensures sees e
    (c.in_ok-say_press.ensures s.pressed stroke e)
