use Rattle.std.proofs.Common.{◌∙◌, sym, arith}
use Rattle.std.proofs.lemmas.List.{take_rest, length-drop}
use Rattle.kb_code.proofs.Reading.{passed_over}
use Rattle.kb_code.proofs.coding.failure_in.Goals as goal

pub loop-left-preserved : goal.loop-left-preserved
loop-left-preserved c = (
  c.loop-left.invariant.0
      ∙ passed_over c.args.version c.loop-left.place c.in-Ok._instr c.loop-left.left.now c.in-len3-up.len_at_least
      c.from_be_bytes-operand.ensures (sym c.instr_at.ensures ∙ c.in-Ok.is),
  rw (take_rest c.loop-left.left.now 3) (omega (
    arith,
    c.loop-left.invariant.1,
    length-drop 3
        c.loop-left.left.now,
    c.in-len3-up.len_at_least,
  )),
)
