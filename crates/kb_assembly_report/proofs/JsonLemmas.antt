-- A text to which parts are added one after another.
use Rattle.std.proofs.Common.{◌≡◌, ◌++◌, ◌∙◌, ℕ, List, refl, ap, append_assoc}

pub three_added : (t u v w a b c : List ℕ) → u ≡ t ++ a → v ≡ u ++ b → w ≡ v ++ c → w ≡ t ++ (a ++ (b ++ c))
three_added t u v w a b c first second third =
    third
    ∙ ap (λ xs. xs ++ c) (second ∙ ap (λ xs. xs ++ b) first)
    ∙ append_assoc (t ++ a) b c
    ∙ append_assoc t a (b ++ c)

pub five_added : (t u v w x y a b c d e : List ℕ) → u ≡ t ++ a → v ≡ u ++ b → w ≡ v ++ c → x ≡ w ++ d
    → y ≡ x ++ e → y ≡ t ++ (a ++ (b ++ (c ++ (d ++ e))))
five_added t u v w x y a b c d e first second third fourth fifth =
    three_added v w x y c d e third fourth fifth
    ∙ three_added t u v (v ++ (c ++ (d ++ e))) a b (c ++ (d ++ e)) first second refl
