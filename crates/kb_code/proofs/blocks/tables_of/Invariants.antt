use Rattle.std.proofs.Common.{◌≡◌, [], drop}
use Rattle.kb_code.specs.Blocks.{around_at}
use Rattle.kb_code.specs.Tables.{AreStarts, AreEnds}
use Rattle.kb_code.proofs.blocks.tables_of.Given as goal

abbrev pub invariant-loop-place : goal.invariant-loop-place
invariant-loop-place l = record {
  starts : AreStarts l.instrs l.starts.items l.place;
  ends : AreEnds l.instrs l.ends.items l.place;
  around : l.nest ≡ around_at l.instrs l.place;
}
