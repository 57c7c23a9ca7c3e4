use Rattle.std.proofs.Common.{◌≡◌, ◌+◌, ◌≤◌, length}
use Rattle.std.specs.Vec.Iter.{into_iter_items}
use Rattle.kb_extension_code.specs.Raw.{codes_held}
use Rattle.kb_extension_code.proofs.Numbers.{AreBelow}
use Rattle.kb_extension_code.proofs.raw.register_codes.Given as goal

-- the remaining extensions give the result
abbrev pub invariant-loop-group : goal.invariant-loop-group
invariant-loop-group g l =
    (codes_held l.number (into_iter_items l.group-iterator) l.registry
    ≡ codes_held 0 l.fn.handlers l.fn.registry)
    × (l.number + length (into_iter_items l.group-iterator) ≤ 100)
    × AreBelow l.number l.registry.code
