use Rattle.std.proofs.Common.{◌≡◌, drop, map}
use Rattle.std.specs.List.{list_any}
use Rattle.kb_explain.specs.Started.{starts}
use Rattle.kb_explain.proofs.started.is_started.Given as goal

-- those that are left give the same
abbrev pub invariant-loop-rule : goal.invariant-loop-rule
invariant-loop-rule l =
    list_any (starts l.command) (map (λ r. r.value) (drop l.rule-index l.rules))
    ≡ list_any (starts l.command) (map (λ r. r.value) l.fn.rules)
