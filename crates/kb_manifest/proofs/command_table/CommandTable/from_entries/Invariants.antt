use Rattle.std.proofs.Common.{◌≡◌, ◌++◌, []}
use Rattle.std.specs.Vec.Iter.{into_iter_items}
use Rattle.kb_manifest.specs.CommandTable.{firsts_behind}
use Rattle.kb_manifest.proofs.command_table.CommandTable.from_entries.Given as goal

-- the table, and then the first ones of those that are left
abbrev pub invariant-loop-named : goal.invariant-loop-named
invariant-loop-named l =
    l.table ++ firsts_behind l.table (into_iter_items l.named-iterator) ≡ firsts_behind [] l.fn.entries
