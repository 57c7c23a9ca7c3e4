use Rattle.std.proofs.Common.{◌≡◌, ◌-◌, ◌∙◌, ap, length, map, take, drop}
use Rattle.kb_vm.specs.Operand.{arg_of}
use Rattle.kb_vm.proofs.Ends.{topmost_seen}
use Rattle.kb_vm.proofs.operands.Operands.topmost.Goals as goal

pub returns : goal.returns
returns c =
    let xs = c.self.inside.items in
    let n = c.len.result - c.args.count in
    let at : n ≡ length xs.items - c.args.count = ap (λ m. m - c.args.count) (c.len.ensures ∙ xs.ok.0) in
    ap (λ zs. map arg_of (take (length zs - n) (drop n zs))) c.deref.ensures.value
    ∙ topmost_seen arg_of xs.items c.args.self.now c.args.count n c.self.view_is c.requires at
