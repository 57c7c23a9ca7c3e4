use Rattle.std.proofs.Common.{◌≡◌}
use Rattle.kb_places.specs.Lines.{begins_below}
use Rattle.kb_places.proofs.line_table.LineTable.new.Given as goal

-- the beginnings below the index
abbrev pub invariant-loop-index : goal.invariant-loop-index
invariant-loop-index l = l.starts.items ≡ begins_below l.text l.index
