use Rattle.std.proofs.Common.{◌≡◌, drop, ◌||◌}
use Rattle.std.specs.List.{list_any}
use Rattle.kb_assembly_report.specs.Json.{has_blocks}
use Rattle.kb_assembly_report.proofs.json.version_of.Given as goal

-- what is known and those that are left decide as all do
abbrev pub invariant-loop-entry : goal.invariant-loop-entry
invariant-loop-entry l = (l.has || list_any has_blocks (drop l.entry-index l.entries)) ≡ list_any has_blocks l.entries
