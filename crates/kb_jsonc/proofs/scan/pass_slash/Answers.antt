use Rattle.std.proofs.Common.{◌≡◌, ◌+◌, ◌-◌, drop, Err, arith}
use Rattle.std.proofs.lemmas.List.{take_rest}
use Rattle.std.proofs.lemmas.Result.{err_from_is_err_and}
use Rattle.kb_jsonc.specs.Pieces.{first_of}
use Rattle.kb_jsonc.proofs.PassLemmas.{outcome_fault, past_comment}
use Rattle.kb_jsonc.proofs.scan.pass_slash.Goals as goal

pub returns-in_err-len-clause-err : goal.returns-in_err-len-clause-err
returns-in_err-len-clause-err c =
    let p = err_from_is_err_and c.from_residual.result c.from_residual.ensures.1 in
    let e : first_of (drop c.args.scan.at c.args.bytes.now) ≡ Err c.in_err-len.field-0.0 =
    simp take_rest at c.in_err-len.ensures.err in
    rw (p.1, p.2) (outcome_fault c.args.bytes.now c.args.scan c.in_err-len.field-0.0 c.requires.within e)

pub returns-clause-ok : goal.returns-clause-ok
returns-clause-ok c =
    let n : c.args.scan.at + c.in-Some.len - c.args.scan.at ≡ c.in-Some.len = omega arith in
    let opens = simp take_rest at (rw c.in-Some.is at c.in_ok-len.ensures.ok) in
    past_comment c.in-Some.len
    (c.args.scan.at + c.in-Some.len - c.args.scan.at) c.blank.new.bytes c.requires.stands
    c.requires.first opens n (rw n at c.blank.ensures)
