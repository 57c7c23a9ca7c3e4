use Rattle.std.proofs.Common.{◌≡◌, ◌∙◌, ap, sym, subst, rules, nat_eq, length, true, false, arith}
use Rattle.kb_vm.specs.Meaning.{Stuck, first_world, run}
use Rattle.kb_vm.specs.Position.{outset}
use Rattle.kb_vm.specs.Outcome.{Ends}
use Rattle.kb_vm.specs.declared.trap.Trap.TheVariants.{BadCode}
use Rattle.kb_vm.proofs.Begun.{no_code, some_code}
use Rattle.kb_vm.proofs.Starts.{unspent_shows}
use Rattle.kb_vm.proofs.starting.start_handler.Goals as goal

pub start_begun-requires : goal.start_begun-requires
start_begun-requires g c =
    let h = c.args.handler in
    let same : c.instrs.result.now ≡ h.code = search rules in
    let left : c.budget.result ≡ h.signature.budget = search rules in
    let some : nat_eq (length h.code) 0 ≡ false =
    ap (λ code. nat_eq (length code) 0) (sym same) ∙ sym c.is_empty.ensures ∙ c.if-is_empty.false in
    some_code h.code h.signature.budget some (omega (arith, left, c.budget.ensures.some))

pub returns-then-is_empty-clause-ends : goal.returns-then-is_empty-clause-ends
returns-then-is_empty-clause-ends g c =
    let t = g.L.Commands.live c.args.commands.now in
    let h = c.args.handler in
    let w = first_world c.args.core in
    let a = run t h c.args.args h.signature.budget outset w in
    let o = c.unspent in
    let named : c.as_str-command.result.now ≡ h.command = search rules in
    let same : c.instrs.result.now ≡ h.code = search rules in
    let none : nat_eq (length h.code) 0 ≡ true =
    ap (λ code. nat_eq (length code) 0) (sym same) ∙ sym c.is_empty.ensures ∙ c.if-is_empty.true in
    subst (Ends c.args.core a o.result) (sym o.ensures.finish) (
      w,
      unspent_shows c.args.core _ _ _ o.ensures.core o.ensures.lines o.ensures.spent,
      no_code t h c.args.args w none ∙ ap (λ name. Stuck BadCode name 0 w) (sym named),
    )
