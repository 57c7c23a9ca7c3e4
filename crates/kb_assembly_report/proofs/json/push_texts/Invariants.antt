use Rattle.std.proofs.Common.{◌≡◌, ◌++◌, length}
use Rattle.std.specs.Prelude.{string_bytes}
use Rattle.kb_assembly_report.specs.Json.{joined, json_string}
use Rattle.kb_assembly_report.proofs.json.push_texts.Given as goal

-- the text so far, and what is added of those that are left
abbrev pub invariant-loop-left : goal.invariant-loop-left
invariant-loop-left l =
    string_bytes l.fn.text ++ joined json_string l.shown ≡ string_bytes l.text ++ joined json_string l.left

abbrev pub decreases-loop-left : goal.decreases-loop-left
decreases-loop-left l = length l.left
