use Rattle.std.proofs.Common.{◌≡◌, drop, map}
use Rattle.std.specs.Prelude.{option_map}
use Rattle.kb_context.specs.Scopes.{context}
use Rattle.kb_explain.specs.Cause.{cause_data, led_by}
use Rattle.kb_explain.specs.Cause as causes
use Rattle.kb_when.specs.Tree.{marked_of, markeds_of}
use Rattle.kb_explain.proofs.cause.+causes.Given as goal

-- those that are left give the same
abbrev pub invariant-first_cause-loop-tree : goal.invariant-first_cause-loop-tree
invariant-first_cause-loop-tree l =
    causes.first_cause (context l.fn.scopes.seen) l.fn.wanted (markeds_of (map marked_of (drop l.tree-index l.fn.trees)))
    ≡ causes.first_cause (context l.fn.scopes.seen) l.fn.wanted (markeds_of (map marked_of l.fn.trees))

-- those that are left give the same behind the first cause
abbrev pub invariant-cause_of_all-loop-tree : goal.invariant-cause_of_all-loop-tree
invariant-cause_of_all-loop-tree l =
    led_by (option_map cause_data l.first)
    (causes.cause_of_all (context l.fn.scopes.seen) l.fn.wanted (markeds_of (map marked_of (drop l.tree-index l.fn.trees))))
    ≡ causes.cause_of_all (context l.fn.scopes.seen) l.fn.wanted (markeds_of (map marked_of l.fn.trees))
