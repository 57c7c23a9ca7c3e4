use Rattle.std.proofs.Common.{◌≡◌, ◌++◌, length}
use Rattle.std.specs.Prelude.{decimal, string_bytes}
use Rattle.kb_assembly_report.specs.Json.{joined}
use Rattle.kb_assembly_report.proofs.json.push_lines.Given as goal

-- the text so far, and what is added of those that are left
abbrev pub invariant-loop-left : goal.invariant-loop-left
invariant-loop-left l =
    string_bytes l.fn.text ++ joined decimal l.lines ≡ string_bytes l.text ++ joined decimal l.left

abbrev pub decreases-loop-left : goal.decreases-loop-left
decreases-loop-left l = length l.left
