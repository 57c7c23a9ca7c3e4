use Rattle.std.proofs.Common.{arith}
use Rattle.kb_base.proofs.FingerprintLemmas.{next_fits}
use Rattle.kb_base.proofs.fingerprint.number_of.Goals as goal

pub overflow_mul-word : goal.overflow_mul-word
overflow_mul-word c =
    omega (
      arith,
      next_fits c.args.bytes.now c.loop-byte.byte-index c.loop-byte.word (λ i. omega (arith, c.type_inv.bytes i)) c.requires
          c.loop-byte-test.true c.loop-byte.invariant,
    )

pub overflow_add-word : goal.overflow_add-word
overflow_add-word c =
    omega (
      arith,
      c.from.ensures,
      next_fits c.args.bytes.now c.loop-byte.byte-index c.loop-byte.word
          (λ i. omega (arith, c.type_inv.bytes i)) c.requires c.loop-byte-test.true c.loop-byte.invariant,
    )
