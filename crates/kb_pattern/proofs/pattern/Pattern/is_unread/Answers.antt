use Rattle.std.proofs.Common.{subst}
use Rattle.kb_pattern.specs.Pattern.{HasRightMark}
use Rattle.kb_pattern.proofs.PatternLemmas.{right_mark_apart}
use Rattle.kb_pattern.proofs.pattern.Pattern.is_unread.Goals as goal

pub returns-clause-right : goal.returns-clause-right
returns-clause-right c =
    subst HasRightMark c.self.view_is (right_mark_apart (λ b. b.value) _ _ c.self.inside.compiled c.self.invariant)
