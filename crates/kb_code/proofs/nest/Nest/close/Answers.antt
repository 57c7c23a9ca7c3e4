use Rattle.std.proofs.Common.{◌∙◌, ap, arith}
use Rattle.kb_code.specs.Blocks.{closed}
use Rattle.kb_code.proofs.Lists.{closed_taken}
use Rattle.kb_code.proofs.nest.Nest.close.Goals as goal

pub returns-then-self-gt0 : goal.returns-then-self-gt0
returns-then-self-gt0 c =
    let some = c.if-self-gt0.true in let l = c.self.told in
    closed_taken c.self.inside.starts c.self.inside.count (omega (arith, some)) (omega (arith, l))
    ∙ ap closed c.self.view_is
