use Rattle.std.proofs.Common.{◌≡◌, drop, ◌&&◌}
use Rattle.std.specs.List.{list_all}
use Rattle.kb_trace.specs.Lines.{has_itself}
use Rattle.kb_trace.proofs.lines.is_plain.Given as goal

-- what is known and the bytes that are left decide as the whole text does
abbrev pub invariant-loop-byte : goal.invariant-loop-byte
invariant-loop-byte l =
    (l.plain && list_all has_itself (drop l.byte-index l.text)) ≡ list_all has_itself l.text
