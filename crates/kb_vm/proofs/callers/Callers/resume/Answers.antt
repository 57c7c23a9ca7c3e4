use Rattle.std.proofs.Common.{◌∙◌, sym, map, subst}
use Rattle.std.specs.List.{All}
use Rattle.kb_vm.specs.Operand.{arg_of}
use Rattle.kb_vm.specs.Waiting.{IsSmall}
use Rattle.kb_vm.proofs.Waiting.{last_within, resumed, resumed_size, all_but_last}
use Rattle.kb_vm.proofs.callers.Callers.resume.Goals as goal

pub take_last-requires-clause-enough : goal.take_last-requires-clause-enough
take_last-requires-clause-enough c =
    last_within c.self.inside.waiting.items c.pop.new.self.items c.in-Some.waiting (map arg_of c.self.inside.values.items) c.in-Some.ensures.items c.self.invariant.0

pub invariant_of-self-2 : goal.invariant_of-self-2
invariant_of-self-2 c =
    let is = c.in-Some.ensures.items in (
      resumed_size c.self.inside.waiting.items c.pop.new.self.items c.in-Some.waiting (map arg_of c.self.inside.values.items) _ is c.self.invariant.0 c.take_last.ensures.kept,
      all_but_last c.pop.new.self.items c.in-Some.waiting (subst (All IsSmall) is c.self.invariant.1),
    )

pub returns : goal.returns
returns c =
    sym c.self.view_is
    ∙ resumed c.self.inside.waiting.items c.pop.new.self.items c.in-Some.waiting (map arg_of c.self.inside.values.items) _ _ _ c.in-Some.ensures.items c.self.invariant.0 c.take_last.ensures.kept c.take_last.ensures.args c.take_last.ensures.operands
