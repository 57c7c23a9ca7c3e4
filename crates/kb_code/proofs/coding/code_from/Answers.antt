use Rattle.std.proofs.Common.{rules, ◌∙◌, sym}
use Rattle.kb_code.proofs.Reading.{read_next}
use Rattle.kb_code.proofs.coding.code_from.Goals as goal

pub loop-left-preserved : goal.loop-left-preserved
loop-left-preserved c =
    c.loop-left.invariant
    ∙ read_next c.args.version c.loop-left.code.items c.push.new.self.items c.in-Ok.instr c.loop-left.left.now
    c.in-len3-up.len_at_least (search (c.len.ensures, rules)) c.from_be_bytes-operand.ensures
    (sym c.instr_at.ensures ∙ c.in-Ok.is) c.in_ok-push-in-Ok.ensures.items
