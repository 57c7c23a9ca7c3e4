-- The steps of the loop over the characters.
use Rattle.std.proofs.Common.{◌≡◌, ℕ, true, false, List, [], ◌∷◌, ◌++◌, length, refl, ap, ◌∙◌}
use Rattle.std.proofs.Common.{append_assoc, arith, chars}
use Rattle.std.specs.Char.{is_whitespace, encode_utf8}
use Rattle.std.proofs.lemmas.Str.{chars-nil}
use Rattle.kb_palette.specs.Words.{closed, words_from}

closed-append : (begun : List ℕ) (ws : List (List ℕ)) → closed begun [] ++ ws ≡ closed begun ws
closed-append [] ws = refl
closed-append (b ∷ bs) ws = refl

-- a word ends
pub white-step : (done now : List (List ℕ)) (begun left fresh cs : List ℕ) (c : ℕ) (total : List (List ℕ))
    → now ≡ done ++ closed left [] → left ≡ begun → fresh ≡ [] → is_whitespace c ≡ true
    → done ++ words_from begun (c ∷ cs) ≡ total → now ++ words_from fresh cs ≡ total
white-step done now begun left fresh cs c total e same new white held =
    rw (e, same, new)
    (append_assoc done (closed begun []) (words_from [] cs)
    ∙ (ap (λ ws. done ++ ws) (closed-append begun (words_from [] cs)) ∙ (rw white at held)))

-- a word goes on
pub other-step : (done : List (List ℕ)) (begun longer cs : List ℕ) (c : ℕ) (total : List (List ℕ))
    → longer ≡ begun ++ encode_utf8 c → is_whitespace c ≡ false
    → done ++ words_from begun (c ∷ cs) ≡ total → done ++ words_from longer cs ≡ total
other-step done begun longer cs c total e other held = rw e (rw other at held)

pub chars-empty : (bs : List ℕ) → length bs ≡ 0 → chars bs ≡ []
chars-empty [] h = chars-nil
chars-empty (b ∷ bs) h = absurd (omega arith)
