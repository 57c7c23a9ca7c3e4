use Rattle.std.proofs.Common.{◌<◌, sym, ap, ◌∙◌, subst}
use Rattle.kb_base.specs.declared.fingerprint.Fingerprint.{Fingerprint}
use Rattle.kb_base.proofs.FingerprintLemmas.{hash_in_fingerprint, hash_small}
use Rattle.kb_context.proofs.sight.Sight.of.Goals as goal

pub returns-clause-hash : goal.returns-clause-hash
returns-clause-hash c =
    c.hash.ensures ∙ ap (λ (f : Fingerprint). f.hash) c.numbers_of-numbers.ensures.numbers
    ∙ hash_in_fingerprint c.args.key.now

pub returns-clause-small : goal.returns-clause-small
returns-clause-small c =
    subst (λ n. n < 1024) (sym (c.hash.ensures
    ∙ ap (λ (f : Fingerprint). f.hash) c.numbers_of-numbers.ensures.numbers ∙ hash_in_fingerprint c.args.key.now))
    (hash_small c.args.key.now)

pub returns-clause-tells : goal.returns-clause-tells
returns-clause-tells c = λ keys hash has.
    c.of_numbers.ensures keys c.args.key.now hash c.numbers_of-numbers.ensures.numbers
    c.numbers_of-numbers.ensures.bytes has
