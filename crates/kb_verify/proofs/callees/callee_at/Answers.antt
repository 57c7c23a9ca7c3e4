use Rattle.std.proofs.Common.{◌≡◌, ◌≢◌, ◌∙◌, ap, sym, Some, length, get_or, arith}
use Rattle.std.specs.Prelude.{slice_get}
use Rattle.kb_code.specs.declared.instr.Instr.TheVariants.{Call, Return}
use Rattle.kb_verify.specs.Marks.{mark_at}
use Rattle.kb_verify.specs.Callable.{declaration_at}
use Rattle.kb_verify.specs.declared.forward.Mark.TheVariants as mark
use Rattle.kb_verify.proofs.Calls.{found_callee, none_undeclared, one_index, unread}
use Rattle.kb_verify.proofs.Edges.{at_place}
use Rattle.kb_verify.proofs.Passes.{read_as, reach_marked}
use Rattle.kb_verify.proofs.callees.callee_at.Goals as goal

pub returns-in-Unreached : goal.returns-in-Unreached
returns-in-Unreached c = λ index is.
    let h = c.args.handler.now in
    let size = c.requires.marked.size in
    reach_marked c.args.callable.now h (length h.code) c.args.marks.now c.requires.marked c.args.place (omega (arith, c.requires.within)) is.reached
    (read_as c.args.marks.now c.args.place c.index-marks-place.result _ (omega (arith, size, c.requires.within)) c.index-marks-place.is c.in-Unreached.is)

pub returns-in_default : goal.returns-in_default
returns-in_default c = λ index is.
    let at = at_place c.args.handler.now.code c.instrs.result.now c.args.place (c.instrs.ensures.same ∙ c.code.ensures) c.requires.within in
    let e : get_or c.instrs.result.now c.args.place Return ≡ Call index = cc (is.at, at) in
    c.in_default.not-Call index e

pub returns-in-Some : goal.returns-in-Some
returns-in-Some c =
    let h = c.args.handler.now in
    let at : slice_get h.code c.args.place ≡ Some (Call c.in-Call.index) = at_place h.code c.instrs.result.now c.args.place (c.instrs.ensures.same ∙ c.code.ensures) c.requires.within ∙ ap Some c.in-Call.is in
    let has = c.requires.marked in
    let marked : mark_at c.args.marks.now c.args.place ≢ mark.Unreached = λ e. c.in_default-marks.not-Unreached (c.index-marks-place.is ∙ unread c.args.marks.now c.args.place c.index-marks-place.result e (omega (arith, has.size, c.requires.within))) in
    found_callee c.args.callable.now h c.args.place c.in-Call.index c.in-Some.signature.now (has.reached c.args.place marked) at (sym c.in-Some.ensures)

pub returns-in-None : goal.returns-in-None
returns-in-None c = λ index is.
    let h = c.args.handler.now in
    let at : slice_get h.code c.args.place ≡ Some (Call c.in-Call.index) = at_place h.code c.instrs.result.now c.args.place (c.instrs.ensures.same ∙ c.code.ensures) c.requires.within ∙ ap Some c.in-Call.is in
    let same = one_index h c.args.place index c.in-Call.index is at in
    none_undeclared c.args.callable.now h c.requires.shapes c.args.place index is.reached is.at (ap (declaration_at c.args.callable.now h) same ∙ sym c.in-None.ensures)
