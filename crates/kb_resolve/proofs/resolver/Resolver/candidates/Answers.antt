use Rattle.std.proofs.Common.{ap, ◌∙◌, length, ℕ, List}
use Rattle.kb_rules.specs.declared.rule.Rule.{Rule}
use Rattle.kb_resolve.specs.Index.{begins}
use Rattle.kb_resolve.proofs.IndexLemmas.{length-places}
use Rattle.kb_resolve.proofs.resolver.Resolver.candidates.Goals as goal

pub returns : goal.returns
returns c =
    ap (λ (l : List ℕ). length l) c.positions.ensures
    ∙ length-places (λ (rule : Rule). begins c.args.stroke.now rule.chord) 0 c.args.self.now
