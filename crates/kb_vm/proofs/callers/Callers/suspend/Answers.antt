use Rattle.std.proofs.Common.{◌∙◌, ◌++◌, ◌∷◌, [], ap, sym, length, map, arith}
use Rattle.std.specs.Prelude.{reverse}
use Rattle.std.proofs.lemmas.List.{length-map}
use Rattle.std.proofs.lemmas.List.Elements.{All-push, All-same}
use Rattle.kb_vm.specs.Operand.{arg_of}
use Rattle.kb_vm.specs.Waiting.{IsSmall}
use Rattle.kb_vm.proofs.Waiting.{suspended, suspended_size}
use Rattle.kb_vm.specs.declared.callers.Waiting.{Waiting}
use Rattle.kb_vm.proofs.callers.Callers.suspend.Goals as goal

pub invariant_of-self-2 : goal.invariant_of-self-2
invariant_of-self-2 c =
    let f = c.args.frame in
    let ws = c.self.inside.waiting.items in
    let vs = map arg_of c.self.inside.values.items in
    let w : Waiting = record { handler = f.handler; place = f.place; turns = f.turns; left = f.left; args = length c.as_slice-2.result.now; operands = c.len-2.result } in
    let more = c.push_reserved.ensures.items ∙ ap (λ us. us ++ w ∷ []) c.make_room.ensures.waiting in
    let behind = c.save.ensures ∙ ap (λ xs. map arg_of xs ++ (f.args ++ reverse f.operands)) c.make_room.ensures.values in
    let args = sym (length-map c.as_slice-2.result.now arg_of) ∙ ap length c.as_slice-2.ensures.items in
    let small : IsSmall w = record { args = omega (arith, args, c.as_slice-2.ensures.few); operands = c.len-2.ensures.few } in (
      suspended_size ws _ w vs _ f.args f.operands c.self.invariant.0 more behind args c.len-2.ensures.value,
      All-same IsSmall _ _ more (All-push IsSmall ws w c.self.invariant.1 small),
    )

pub returns : goal.returns
returns c =
    let f = c.args.frame in
    let ws = c.self.inside.waiting.items in
    let vs = map arg_of c.self.inside.values.items in
    let w : Waiting = record { handler = f.handler; place = f.place; turns = f.turns; left = f.left; args = length c.as_slice-2.result.now; operands = c.len-2.result } in
    let more = c.push_reserved.ensures.items ∙ ap (λ us. us ++ w ∷ []) c.make_room.ensures.waiting in
    let behind = c.save.ensures ∙ ap (λ xs. map arg_of xs ++ (f.args ++ reverse f.operands)) c.make_room.ensures.values in
    let args = sym (length-map c.as_slice-2.result.now arg_of) ∙ ap length c.as_slice-2.ensures.items in (
      c.clear.ensures,
      suspended ws _ vs _ f w.args w.operands c.self.invariant.0 more behind args c.len-2.ensures.value ∙ ap (λ fs. fs ++ f ∷ []) c.self.view_is,
    )
