use Rattle.std.proofs.Common.{◌≢◌, ℕ, ◌∙◌, get_or, arith, subst, List}
use Rattle.std.proofs.lemmas.Bool.Decides.{nat_tests}
use Rattle.kb_when.proofs.NumberLemmas.{number-parsed, not_there}
use Rattle.kb_when.proofs.number.read_number.Goals as goal
use Rattle.kb_when.proofs.number.read_number.Goals.{else-not-is_empty-via-then-not-is_empty+else-bytes-eq43}
use Rattle.kb_when.proofs.number.read_number.Goals.{else-not-is_empty-via-else-not-is_empty}

pub returns : goal.returns
returns c = c.ok.ensures.value ∙ number-parsed c.args.text.now c.parse.result
    (subst (λ (x : List ℕ). get_or x 0 0 ≢ 43) c.as_bytes-bytes.ensures.value
    (elim c.else-not-is_empty.branch [
      | else-not-is_empty-via-then-not-is_empty+else-bytes-eq43 w ↦
          w.if-bytes-eq43.false
      | else-not-is_empty-via-else-not-is_empty w ↦
          not_there c.as_bytes-bytes.result.now
          (let t = w.if-not-is_empty.false in grind (arith, nat_tests, t, c.is_empty.ensures))
    ]))
    c.parse.ensures.value.0
