use Rattle.kb_assembly.proofs.CodeLemmas.{code_step}
use Rattle.kb_assembly.proofs.code.instrs_of.Goals as goal

pub loop-line-preserved : goal.loop-line-preserved
loop-line-preserved c =
    code_step c.args.names.now c.args.lines.now c.loop-line.instrs c.push_one.new.instrs c.loop-line.line c.index-lines-line.result
    c.as_slice.result.now c.in-Ok.read c.line_instr.result c.loop-line-test.true c.index-lines-line.is c.as_slice.ensures c.in-Ok.is
    c.line_instr.ensures c.in_ok-push_one-in-Ok.ensures c.loop-line.invariant
