use Rattle.std.proofs.Common.{◌≡◌, map}
use Rattle.std.specs.Vec.Iter.{into_iter_items}
use Rattle.kb_registry.specs.Live.{all_registered, fresh}
use Rattle.kb_extension_code.proofs.natives.register_all.Given as goal

-- the remaining closures give the result
abbrev pub invariant-loop-command : goal.invariant-loop-command
invariant-loop-command g l =
    all_registered (map g.C.HostCommand.stands_for (into_iter_items l.command-iterator)) l.registry
    ≡ all_registered (map g.C.HostCommand.stands_for l.fn.natives.items) (fresh 1000000)
