use Rattle.std.proofs.Common.{◌≡◌, sym, ap, ◌∙◌, rules, tests, bytes_eq, List, ℕ, Bor, map}
use Rattle.std.proofs.lemmas.Iterator.{YieldsList-from_slice}
use Rattle.std.proofs.lemmas.Iterator.Search.{position_from_yields_List}
use Rattle.kb_keys.specs.KeyName.{key_named, lowered, names}
use Rattle.kb_keys.proofs.KeyNameLemmas.{named_read}
use Rattle.kb_keys.proofs.key_name.KeyName.searched.Goals as goal

pub returns-in_err-index : goal.returns-in_err-index
unfolding names
returns-in_err-index c =
    let same : map (λ (name : Bor (List ℕ)). name.now) c.as_slice-names.result.now ≡ names =
    ap (λ (all : List (Bor (List ℕ))). map (λ (name : Bor (List ℕ)). name.now) all) c.as_slice-names.ensures
    in
    let found : c.position.result ≡ key_named c.args.text.now =
    named_read c.as_slice-names.result.now c.args.text.now c.position.result same
    (position_from_yields_List
    (λ name. bytes_eq (lowered name.now) (lowered c.args.text.now)) _ _ c.position.result
    c.position.ensures.ran (YieldsList-from_slice c.as_slice-names.result.now c.iter.ensures.rest)
    (λ x b q k. search (rules, tests)))
    in
    c.from_residual.ensures ∙ (sym c.in_err-index.was ∙ found)

pub returns : goal.returns
unfolding names
returns c =
    let same : map (λ (name : Bor (List ℕ)). name.now) c.as_slice-names.result.now ≡ names =
    ap (λ (all : List (Bor (List ℕ))). map (λ (name : Bor (List ℕ)). name.now) all) c.as_slice-names.ensures
    in
    let found : c.position.result ≡ key_named c.args.text.now =
    named_read c.as_slice-names.result.now c.args.text.now c.position.result same
    (position_from_yields_List
    (λ name. bytes_eq (lowered name.now) (lowered c.args.text.now)) _ _ c.position.result
    c.position.ensures.ran (YieldsList-from_slice c.as_slice-names.result.now c.iter.ensures.rest)
    (λ x b q k. search (rules, tests)))
    in
    sym c.in_ok-index.was ∙ found
