use Rattle.std.proofs.Common.{◌≡◌, ℕ, List, map, ap, Bor}
use Rattle.kb_keys.specs.KeyName.{names}
use Rattle.kb_keys.proofs.KeyNameLemmas.{name_read}
use Rattle.kb_keys.proofs.key_name.name_at.Goals as goal

pub returns : goal.returns
unfolding names
returns c =
    let same : map (λ (name : Bor (List ℕ)). name.now) c.as_slice-names.result.now ≡ names =
    ap (λ (all : List (Bor (List ℕ))). map (λ (name : Bor (List ℕ)). name.now) all)
    c.as_slice-names.ensures in
    name_read c.as_slice-names.result.now c.args.index same
