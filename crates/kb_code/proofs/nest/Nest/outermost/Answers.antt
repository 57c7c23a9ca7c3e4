use Rattle.std.proofs.Common.{◌∙◌, ap, arith}
use Rattle.kb_code.specs.Blocks.{outermost}
use Rattle.kb_code.proofs.Lists.{bottom_is}
use Rattle.kb_code.proofs.nest.Nest.outermost.Goals as goal

pub returns-else-self-eq0 : goal.returns-else-self-eq0
returns-else-self-eq0 c =
    let n = c.if-self-eq0.false in let l = c.self.told in
    bottom_is c.self.inside.starts c.self.inside.count (omega (arith, n)) (omega (arith, l))
    ∙ ap outermost c.self.view_is
