use Rattle.std.proofs.Common.{◌≡◌, ◌≤◌, drop, max}
use Rattle.kb_assembly_report.specs.Choice.{top}
use Rattle.kb_assembly_report.proofs.choosing.top.Given as goal

-- the depth so far, and what those that are left ask for
abbrev pub invariant-loop-index : goal.invariant-loop-index
invariant-loop-index l = record {
  some : 1 ≤ l.depth;
  most : max l.depth (top l.callable l.calls (drop l.index-index l.callees)) ≡ top l.callable l.calls l.callees;
}
