use Rattle.std.proofs.Common.{rules, ◌≤◌}
use Rattle.kb_when.proofs.ProbeLemmas.{not_spelled, other_start, exact_start}
use Rattle.kb_when.proofs.probe.is_text.Goals as goal

pub returns-in_default : goal.returns-in_default
returns-in_default c = λ value text e s vb tb. not_spelled value text (search rules)

pub returns-then-not-is : goal.returns-then-not-is
returns-then-not-is c = λ value text e s vb tb.
    other_start value text c.in-Some.its c.args.start.now (search rules) s (search rules)

pub returns-then-is_exact : goal.returns-then-is_exact
returns-then-is_exact c = λ value text e s vb tb.
    let few : c.args.start.now.length ≤ 8 = search rules in
    exact_start value text c.in-Some.its c.args.start.now (search rules) s (search rules) few vb tb
