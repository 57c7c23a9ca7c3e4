use Rattle.std.proofs.Common.{Bool, ap}
use Rattle.kb_pattern.proofs.PatternLemmas.{marked_apart}
use Rattle.kb_pattern.proofs.pattern.Pattern.new.Goals as goal

pub returns : goal.returns
returns c =
    ap (λ (b : Bool). record { text = c.args.text; flags = c.args.flags; unread = b })
    (marked_apart (λ b. b.value) c.args.text c.args.flags _ _ c.in_ok-compiled.ensures
    (rw c.as_str.ensures at c.in_ok-compile.ensures))
