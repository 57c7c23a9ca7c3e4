use Rattle.std.proofs.Common.{◌∙◌, sym, ap, arith, length}
use Rattle.std.proofs.lemmas.Bool.{ltb-false}
use Rattle.kb_code.specs.Blocks.{first_of, block_of}
use Rattle.kb_code.proofs.BlockLemmas.{past_code}
use Rattle.kb_code.proofs.code.Code.block.Goals as goal

pub returns-in-None : goal.returns-in-None
returns-in-None c =
    let v = c.self.invariant in
    let size = v.1.size in
    let same = ap length c.deref.ensures.value in
    let none = ltb-false c.args.place (length c.deref.result.now) (sym c.in-None.ensures.lookup.0) in
    sym (ap first_of (past_code c.self.inside.instrs c.args.place v.0 (omega (arith, size, same, none))))
    ∙ ap (λ code. block_of code c.args.place) c.self.view_is
