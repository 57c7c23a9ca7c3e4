use Rattle.std.proofs.Common.{◌≡◌, drop, ◌||◌}
use Rattle.std.specs.List.{list_any}
use Rattle.kb_assembly_report.specs.Json.{is_of_block}
use Rattle.kb_assembly_report.proofs.json.has_blocks.Given as goal

-- what is known and those that are left decide as all do
abbrev pub invariant-loop-instr : goal.invariant-loop-instr
invariant-loop-instr l = (l.has || list_any is_of_block (drop l.instr-index l.code)) ≡ list_any is_of_block l.code
