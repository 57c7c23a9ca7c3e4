use Rattle.std.proofs.Common.{◌≡◌, ◌≤◌, ◌+◌, ◌*◌, ◌∷◌, ◌∙◌, suc, sym, ap, length, arith, Ok}
use Rattle.kb_verify.specs.Packed.{kinds_in, low_bit, counted}
use Rattle.kb_verify.proofs.Packed.{one_more, fits}
use Rattle.kb_verify.proofs.shape.Shape.with.Goals as goal

pub returns : goal.returns
returns c =
    let s = c.self.inside in
    let n : length c.args.self ≡ s.height = sym (ap length c.self.view_is) ∙ counted s.height s.low s.high in
    let le : suc (length c.args.self) ≤ 64 = omega (arith, n, c.if-self-ge-OPERAND_LIMIT.false) in
    let more : s.height + 1 ≡ suc s.height = omega arith in
    ap Ok (ap (λ n. kinds_in n (2 * s.low + c.low_bit.result) (2 * s.high + c.high_bit.result)) more
    ∙ ap (λ b. kinds_in (suc s.height) (2 * s.low + b) (2 * s.high + c.high_bit.result)) c.low_bit.ensures
    ∙ ap (λ b. kinds_in (suc s.height) (2 * s.low + low_bit c.args.kind) (2 * s.high + b)) c.high_bit.ensures
    ∙ one_more s.height s.low s.high c.args.kind ∙ ap (λ ks. c.args.kind ∷ ks) c.self.view_is)
    ∙ fits (c.args.kind ∷ c.args.self) le
