use Rattle.std.proofs.Common.{◌≡◌, ◌-◌, ◌∙◌, refl, ap, length, map, drop, take}
use Rattle.std.specs.Prelude.{reverse}
use Rattle.kb_vm.specs.Operand.{arg_of}
use Rattle.kb_vm.proofs.Waiting.{last_operands, last_args, first_kept}
use Rattle.kb_vm.proofs.callers.take_last.Goals as goal

pub returns-clause-kept : goal.returns-clause-kept
returns-clause-kept c =
    let xs = c.args.values.now in
    let behind : c.len.result - c.args.operand_count ≡ length xs.items - c.args.operand_count = ap (λ n. n - c.args.operand_count) (c.len.ensures ∙ xs.ok.0) in
    ap (map arg_of) c.truncate.ensures.items
    ∙ first_kept arg_of xs.items c.args.arg_count c.args.operand_count _ _ c.requires.enough behind refl

pub returns-clause-args : goal.returns-clause-args
returns-clause-args c =
    let xs = c.args.values.now in
    let behind = c.len.result - c.args.operand_count in
    let first = behind - c.args.arg_count in
    let is : behind ≡ length xs.items - c.args.operand_count = ap (λ n. n - c.args.operand_count) (c.len.ensures ∙ xs.ok.0) in
    c.refill-2.ensures ∙ ap (λ zs. map arg_of (take (behind - first) (drop first zs))) c.deref-2.ensures.value
    ∙ last_args arg_of xs.items c.args.arg_count c.args.operand_count first behind c.requires.enough is refl

pub returns-clause-operands : goal.returns-clause-operands
returns-clause-operands c =
    let xs = c.args.values.now in
    let n = c.len.result - c.args.operand_count in
    let behind : n ≡ length xs.items - c.args.operand_count = ap (λ n. n - c.args.operand_count) (c.len.ensures ∙ xs.ok.0) in
    c.refill.ensures ∙ ap (λ zs. reverse (map arg_of (take (length zs - n) (drop n zs)))) c.deref.ensures.value
    ∙ ap reverse (last_operands arg_of xs.items c.args.arg_count c.args.operand_count n c.requires.enough behind)
