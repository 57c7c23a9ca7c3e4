use Rattle.std.proofs.Common.{◌≡◌, ◌-◌, ◌∙◌, ap, length, map, drop, take}
use Rattle.std.specs.Prelude.{reverse}
use Rattle.kb_vm.specs.Operand.{arg_of}
use Rattle.kb_vm.proofs.Ends.{topmost_seen, kept_seen}
use Rattle.kb_vm.proofs.operands.Operands.take.Goals as goal

pub returns-clause-given : goal.returns-clause-given
returns-clause-given c =
    let xs = c.self.inside.items in
    let n = c.len.result - c.args.count in
    let at : n ≡ length xs.items - c.args.count = ap (λ n. n - c.args.count) (c.len.ensures ∙ xs.ok.0) in
    c.refill.ensures ∙ ap (λ zs. map arg_of (take (length zs - n) (drop n zs))) c.deref.ensures.value
    ∙ topmost_seen arg_of xs.items c.args.self.now c.args.count n c.self.view_is c.requires.enough at

pub returns-clause-rest : goal.returns-clause-rest
returns-clause-rest c =
    let xs = c.self.inside.items in
    let at : c.len.result - c.args.count ≡ length xs.items - c.args.count = ap (λ n. n - c.args.count) (c.len.ensures ∙ xs.ok.0) in
    ap (λ ys. reverse (map arg_of ys)) c.truncate.ensures.items ∙ kept_seen arg_of xs.items c.args.self.now c.args.count _ c.self.view_is c.requires.enough at
