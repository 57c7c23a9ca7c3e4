use Rattle.std.proofs.Common.{◌≡◌, ◌++◌, filter, length, map, not}
use Rattle.kb_bindings.specs.Sources.{rules_of}
use Rattle.kb_explain.specs.Started.{is_started, without_keys}
use Rattle.kb_explain.proofs.started.commands_without_keys.Given as goal

-- with those that are left there are all
abbrev pub invariant-loop-left : goal.invariant-loop-left
invariant-loop-left l = map (λ c. c.now) l.made.items
    ++ filter (λ c. not (is_started (rules_of l.fn.bindings) c)) l.left
    ≡ without_keys l.fn.bindings

abbrev pub decreases-loop-left : goal.decreases-loop-left
decreases-loop-left l = length l.left
