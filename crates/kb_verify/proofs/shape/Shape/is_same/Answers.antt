use Rattle.std.proofs.Common.{◌∙◌, sym, ap}
use Rattle.std.proofs.lemmas.Bool.{false≢true}
use Rattle.std.proofs.lemmas.Bool.Decides.{Decides-eqb}
use Rattle.kb_verify.specs.Packed.{kinds_in}
use Rattle.kb_verify.proofs.Packed.{same_height, same_low, same_high}
use Rattle.kb_verify.proofs.shape.Shape.is_same.Goals as goal

pub returns-then-self-other : goal.returns-then-self-other
returns-then-self-other c =
    let a = c.self.inside in let b = c.other.inside in
    (λ t. absurd (false≢true t), λ e. absurd (c.if-self-other.true (same_height a.height a.low a.high b.height b.low b.high (c.self.view_is ∙ e ∙ sym c.other.view_is))))

pub returns-then-self-other-2 : goal.returns-then-self-other-2
returns-then-self-other-2 c =
    let a = c.self.inside in let b = c.other.inside in
    (λ t. absurd (false≢true t), λ e. absurd (c.if-self-other-2.true (same_low a.height a.low a.high b.height b.low b.high c.self.invariant.1 c.other.invariant.1 (c.self.view_is ∙ e ∙ sym c.other.view_is))))

pub returns : goal.returns
returns c =
    let a = c.self.inside in let b = c.other.inside in
    let d = Decides-eqb a.high b.high in (
      λ t. sym c.self.view_is ∙ ap (λ h. kinds_in h a.low a.high) c.if-self-other.false ∙ ap (λ l. kinds_in b.height l a.high) c.if-self-other-2.false ∙ ap (kinds_in b.height b.low) (d.0 t) ∙ c.other.view_is,
      λ e. d.1 (same_high a.height a.low a.high b.height b.low b.high c.self.invariant.2 c.other.invariant.2 (c.self.view_is ∙ e ∙ sym c.other.view_is)),
    )
