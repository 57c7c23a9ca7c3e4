use Rattle.std.proofs.Common.{◌≡◌, ◌<◌, drop}
use Rattle.kb_base.specs.HashedText.{hash_from}
use Rattle.kb_base.proofs.hashed_text.hash_of.Given as goal

-- the hash of those behind is the hash of all
abbrev pub invariant-loop-byte : goal.invariant-loop-byte
invariant-loop-byte l =
    (l.hash < 1024) × (hash_from l.hash (drop l.byte-index l.byte-items) ≡ hash_from 0 l.byte-items)
