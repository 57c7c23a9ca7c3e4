use Rattle.std.proofs.Common.{◌≡◌, drop, map}
use Rattle.kb_handler_file.specs.Names.{repeats_behind}
use Rattle.kb_handler_file.proofs.names.repeats_behind.Given as goal

-- beside those that were seen, those that are left give the same
abbrev pub invariant-loop-item : goal.invariant-loop-item
invariant-loop-item g l =
    repeats_behind l.seen.keys (map g.T.Named.named (drop l.item-index l.items))
    ≡ repeats_behind l.fn.seen.keys (map g.T.Named.named l.items)
