use Rattle.std.proofs.Common.{◌≡◌, ◌++◌, drop, map}
use Rattle.kb_places.specs.Place.{member, step_data}
use Rattle.kb_problems.proofs.entries.member_steps.Given as goal

-- those so far, and then those that are left
abbrev pub invariant-loop-name : goal.invariant-loop-name
invariant-loop-name l =
    map step_data l.steps.items ++ map (λ name. member name.now) (drop l.name-index l.names)
    ≡ map (λ name. member name.now) l.fn.names
