use Rattle.std.proofs.Common.{◌∷◌, ◌++◌, [], subst}
use Rattle.std.specs.Prelude.{IfErr, IfOk}
use Rattle.kb_context.specs.Scopes.{context}
use Rattle.kb_resolve.specs.Resolver.{MayAskPatterns}
use Rattle.kb_bindings.specs.Sources.{IsPlaceOf, Sources, enablement, found_behind, rules_of}
use Rattle.kb_bindings.proofs.BindingLemmas.{asks_among, found_among}
use Rattle.kb_bindings.proofs.bindings.Bindings.press.Goals as goal

pub returns-clause-memory : goal.returns-clause-memory
returns-clause-memory c =
    let pressed = c.args.chord.now ++ c.args.stroke ∷ [] in
    let keys = context c.args.scopes.now.seen in
    subst (λ (s : Sources). IfErr c.press.result (λ _. MayAskPatterns pressed keys (enablement s) (rules_of s)))
    c.self.view_is
    (asks_among c.press.result pressed keys _ _ c.self.inside.resolver _ c.self.invariant.enabled_is
    c.self.invariant.rules_are c.press.ensures.memory)

pub returns-clause-found : goal.returns-clause-found
returns-clause-found c =
    let pressed = c.args.chord.now ++ c.args.stroke ∷ [] in
    let keys = context c.args.scopes.now.seen in
    subst (λ (s : Sources). IfOk c.press.result (λ press. IsPlaceOf s press.found
    (found_behind c.args.chord.now c.args.stroke c.args.scopes.now.seen s)))
    c.self.view_is
    (found_among (λ press. press.found) c.press.result pressed keys _ _ c.self.inside.resolver _
    c.self.invariant.enabled_is c.self.invariant.rules_are c.press.ensures.found)
