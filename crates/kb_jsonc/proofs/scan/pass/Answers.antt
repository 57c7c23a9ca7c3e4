use Rattle.std.proofs.Common.{sym, arith, rules}
use Rattle.kb_jsonc.proofs.PassLemmas.{ordinary_byte}
use Rattle.kb_jsonc.proofs.scan.pass.Goals as goal

pub pass_byte-requires-clause-ordinary : goal.pass_byte-requires-clause-ordinary
pass_byte-requires-clause-ordinary c =
    ordinary_byte (sym c.if-is_blank.ensures) (omega arith) (omega arith) (omega arith) (search rules)
    (search rules)
