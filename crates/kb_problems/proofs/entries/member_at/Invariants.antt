use Rattle.std.proofs.Common.{◌≡◌, drop, map}
use Rattle.serde_json.specs.View.{view}
use Rattle.kb_problems.specs.Placed.{value_in}
use Rattle.kb_problems.proofs.entries.member_at.Given as goal

-- what is at the members that are left is what is at all of them
abbrev pub invariant-loop-name : goal.invariant-loop-name
invariant-loop-name l =
    value_in (map (λ name. name.now) (drop l.name-index l.names)) (view l.found)
    ≡ value_in (map (λ name. name.now) l.fn.names) (view l.fn.value)
