-- The lists of enabled extensions, one after another.
use Rattle.std.proofs.Common.{◌≡◌, List, [], ◌∷◌, ◌++◌, ◌∙◌, Bool, true, false, ap, sym, map}
use Rattle.std.proofs.lemmas.List.{append_assoc}
use Rattle.kb_rules.specs.RuleList.{Listed}
use Rattle.kb_rules.specs.RuleSet.{enabled_of}

-- one more, and then those that are left
pub enabled_next : {X : Type 0} (list_of : X → Listed) (now before whole : List Listed) (x : X) (xs rest : List X)
    (flag : Bool) (flags left : List Bool) → xs ≡ x ∷ rest → flags ≡ flag ∷ left
    → now ≡ before ++ enabled_of (list_of x ∷ []) (flag ∷ [])
    → before ++ enabled_of (map list_of xs) flags ≡ whole → now ++ enabled_of (map list_of rest) left ≡ whole
enabled_next list_of now before whole x xs rest true flags left e f n h =
    ap (λ ys. ys ++ enabled_of (map list_of rest) left) n
    ∙ append_assoc before (list_of x ∷ []) (enabled_of (map list_of rest) left)
    ∙ sym (λ i. before ++ enabled_of (map list_of (e i)) (f i)) ∙ h
enabled_next list_of now before whole x xs rest false flags left e f n h =
    ap (λ ys. ys ++ enabled_of (map list_of rest) left) n
    ∙ append_assoc before [] (enabled_of (map list_of rest) left)
    ∙ sym (λ i. before ++ enabled_of (map list_of (e i)) (f i)) ∙ h
