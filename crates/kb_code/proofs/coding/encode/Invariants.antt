use Rattle.std.proofs.Common.{◌≡◌, true, take, flat_map}
use Rattle.std.specs.List.{list_all}
use Rattle.kb_code.proofs.CodingLemmas.{has_room}
use Rattle.kb_code.specs.Coding.{bytes_of}
use Rattle.kb_code.proofs.coding.encode.Given as goal

abbrev pub invariant-loop-instr : goal.invariant-loop-instr
invariant-loop-instr l =
    (l.bytes.items ≡ flat_map bytes_of (take l.instr-index l.code))
    × (list_all has_room (take l.instr-index l.code) ≡ true)
