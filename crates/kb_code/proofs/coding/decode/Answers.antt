use Rattle.std.proofs.Common.{arith}
use Rattle.kb_code.proofs.CodingLemmas.{written_again}
use Rattle.kb_code.proofs.coding.decode.Goals as goal

pub returns-in-Ok-clause-written_again : goal.returns-in-Ok-clause-written_again
returns-in-Ok-clause-written_again c =
    written_again c.args.version c.args.bytes.now c.in-Ok.code (λ i. omega (arith, c.type_inv.bytes i)) c.if-bytes-ne0.false
    c.in-Ok.ensures
