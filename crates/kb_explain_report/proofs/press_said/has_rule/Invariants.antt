use Rattle.std.proofs.Common.{◌≡◌, drop, map}
use Rattle.kb_explain_report.specs.RulesSaid.{any_on}
use Rattle.kb_explain_report.proofs.press_said.has_rule.Given as goal

-- those that are left give the same
abbrev pub invariant-loop-rule : goal.invariant-loop-rule
invariant-loop-rule l =
    any_on l.strokes (map (λ r. r.value) (drop l.rule-index l.rules))
    ≡ any_on l.strokes (map (λ r. r.value) l.fn.rules)
