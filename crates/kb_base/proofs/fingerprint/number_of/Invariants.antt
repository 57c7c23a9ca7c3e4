use Rattle.std.proofs.Common.{◌≡◌, take}
use Rattle.std.specs.Int.Digits.{number_from_digits}
use Rattle.kb_base.proofs.fingerprint.number_of.Given as goal

-- the number of those that were read
abbrev pub invariant-loop-byte : goal.invariant-loop-byte
invariant-loop-byte l = l.word ≡ number_from_digits 256 (take l.byte-index l.bytes)
