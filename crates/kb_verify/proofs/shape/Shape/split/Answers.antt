use Rattle.std.proofs.Common.{◌-◌, ◌/◌, ◌∷◌, ◌∙◌, sym, ap}
use Rattle.kb_verify.specs.Packed.{kinds_in}
use Rattle.kb_verify.proofs.Packed.{one_less}
use Rattle.kb_verify.proofs.shape.Shape.split.Goals as goal

pub returns : goal.returns
returns c =
    let s = c.self.inside in
    sym c.self.view_is ∙ one_less s.height s.low s.high c.if-self-eq0.false
    ∙ ap (λ k. k ∷ kinds_in (s.height - 1) (s.low / 2) (s.high / 2)) (sym c.kind_of.ensures)
