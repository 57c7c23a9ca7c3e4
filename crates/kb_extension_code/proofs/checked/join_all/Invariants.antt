use Rattle.std.proofs.Common.{◌+◌, ◌≤◌, length}
use Rattle.std.specs.Prelude.{Result}
use Rattle.std.specs.Vec.Iter.{into_iter_items}
use Rattle.kb_files.specs.declared.fault.LoadFault.{LoadFault}
use Rattle.kb_base.specs.declared.failure.Failure.{Failure}
use Rattle.kb_registry.specs.Live.{Live}
use Rattle.kb_extension_code.specs.Checked.{JoinAll}
use Rattle.kb_extension_code.proofs.Numbers.{AreBelow}
use Rattle.kb_extension_code.proofs.checked.join_all.Given as goal

-- the result for the remaining extensions is the result for all
abbrev pub invariant-loop-group : goal.invariant-loop-group
invariant-loop-group g l =
    ((result : Result Live (Failure LoadFault))
    → JoinAll l.extensions l.number (into_iter_items l.group-iterator) l.registry result
    → JoinAll l.extensions 0 l.fn.handlers l.fn.registry result)
    × (l.number + length (into_iter_items l.group-iterator) ≤ 100)
    × AreBelow l.number l.registry.code
