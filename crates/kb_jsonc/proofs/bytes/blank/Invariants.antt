use Rattle.std.proofs.Common.{◌≡◌, ◌++◌, map, take, drop}
use Rattle.kb_jsonc.specs.Bytes.{blanked}
use Rattle.kb_jsonc.proofs.bytes.blank.Given as goal

abbrev pub invariant-loop-byte : goal.invariant-loop-byte
invariant-loop-byte l = l.bytes ≡ map blanked (take l.byte-index l.fn.bytes) ++ drop l.byte-index l.fn.bytes
