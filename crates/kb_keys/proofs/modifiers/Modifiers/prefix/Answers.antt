use Rattle.std.proofs.Common.{◌≡◌, ℕ, List, map, ap, Bor}
use Rattle.kb_keys.proofs.ModifiersLemmas.{prefixes, prefix_read, prefix-short}
use Rattle.kb_keys.proofs.modifiers.Modifiers.prefix.Goals as goal

pub returns-clause-spelling : goal.returns-clause-spelling
unfolding prefixes
returns-clause-spelling c =
    let same : map (λ (prefix : Bor (List ℕ)). prefix.now) c.as_slice-prefixes.result.now ≡ prefixes =
    ap (λ (all : List (Bor (List ℕ))). map (λ (prefix : Bor (List ℕ)). prefix.now) all)
    c.as_slice-prefixes.ensures in
    rw c.number.ensures.value (prefix_read c.as_slice-prefixes.result.now c.args.self same)
