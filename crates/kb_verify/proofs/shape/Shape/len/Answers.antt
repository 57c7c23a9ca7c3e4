use Rattle.std.proofs.Common.{◌∙◌, sym, ap, length}
use Rattle.kb_verify.specs.Packed.{counted}
use Rattle.kb_verify.proofs.shape.Shape.len.Goals as goal

pub returns-clause-len : goal.returns-clause-len
returns-clause-len c =
    let s = c.self.inside in
    sym (counted s.height s.low s.high) ∙ ap length c.self.view_is
