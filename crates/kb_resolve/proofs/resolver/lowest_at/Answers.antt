use Rattle.std.proofs.Common.{◌≡◌, ◌∙◌, sym, ap, Some, true, false, rules}
use Rattle.kb_context.specs.Scopes.{context}
use Rattle.kb_resolve.specs.Enablements.{enablement_in}
use Rattle.kb_resolve.specs.Resolver.{may_start, HasPatterns}
use Rattle.kb_resolve.proofs.ResolverLemmas.{any_err}
use Rattle.kb_resolve.proofs.SecondLemmas.{any-before, any-last}
use Rattle.kb_resolve.proofs.WalkLemmas.{end-passes, end-fails, end-absent}
use Rattle.kb_resolve.proofs.resolver.lowest_at.Goals as goal

pub returns-then-branch-clause-value : goal.returns-then-branch-clause-value
returns-then-branch-clause-value c =
    let test = may_start (context c.args.scopes.now.seen) (enablement_in c.args.enablements.now) in
    let passes : test c.in-Some-at.rule.now.value ≡ true = search rules in
    ap Some c.deref-then-branch.ensures
    ∙ sym
    (end-passes test c.args.set.now _ _ c.in-Some.position.now c.in-Some-at.rule.now.value
    c.in-Some.ensures.steps (sym c.in-Some-at.ensures) passes)
    ∙ c.loop-position.invariant.same

pub loop-position-preserved-else-branch : goal.loop-position-preserved-else-branch
loop-position-preserved-else-branch c =
    let test = may_start (context c.args.scopes.now.seen) (enablement_in c.args.enablements.now) in
    let asks = HasPatterns (context c.args.scopes.now.seen) (enablement_in c.args.enablements.now) in
    let fails : test c.in-Some-at.rule.now.value ≡ false = search rules in
    record {
      same =
          sym
          (end-fails test c.args.set.now _ _ c.in-Some.position.now c.in-Some-at.rule.now.value
          c.in-Some.ensures.steps (sym c.in-Some-at.ensures) fails)
          ∙ c.loop-position.invariant.same;
      among = λ h.
          c.loop-position.invariant.among
          (any-before asks c.args.set.now _ _ c.in-Some.position.now c.in-Some.ensures.steps h);
    }

pub loop-position-preserved : goal.loop-position-preserved
loop-position-preserved c =
    let test = may_start (context c.args.scopes.now.seen) (enablement_in c.args.enablements.now) in
    let asks = HasPatterns (context c.args.scopes.now.seen) (enablement_in c.args.enablements.now) in
    record {
      same =
          sym
          (end-absent test c.args.set.now _ _ c.in-Some.position.now c.in-Some.ensures.steps (sym c.in_default.ensures))
          ∙ c.loop-position.invariant.same;
      among = λ h.
          c.loop-position.invariant.among
          (any-before asks c.args.set.now _ _ c.in-Some.position.now c.in-Some.ensures.steps h);
    }

pub returns-in_err-may_start-clause-memory : goal.returns-in_err-may_start-clause-memory
returns-in_err-may_start-clause-memory c =
    let asks = HasPatterns (context c.args.scopes.now.seen) (enablement_in c.args.enablements.now) in
    any_err c.from_residual.result _
    (c.loop-position.invariant.among
    (any-last asks c.args.set.now _ _ c.in-Some.position.now c.in-Some-at.rule.now.value c.in-Some.ensures.steps
    (sym c.in-Some-at.ensures) (rw (← c.deref.ensures) c.in_err-may_start.ensures.memory)))
