-- The lines of a handler, one part after another.
use Rattle.std.proofs.Common.{◌≡◌, refl, sym, ap, ◌∙◌, ℕ, ◌<◌, ◌^◌, List, [], ◌∷◌, ◌++◌, length, true, append_assoc}
use Rattle.std.specs.Prelude.{◌&&◌, nat_lt}
use Rattle.std.specs.List.{list_all}
use Rattle.std.proofs.lemmas.Bool.{lt-ltb}
use Rattle.kb_code.specs.declared.instr.Instr.{Instr}
use Rattle.kb_assembly.specs.Code.{has_room}

pub all_pushed : {X : Type 0} (a : List X) (h : X) (b c d t l k : List X) →
    ((((((a ++ h ∷ []) ++ b) ++ c) ++ d) ++ t) ++ l) ++ k ≡ a ++ (h ∷ (b ++ (c ++ (d ++ (t ++ l)))) ++ k)
all_pushed [] h b c d t l k =
    ap (λ xs. h ∷ xs ++ k)
    (append_assoc ((b ++ c) ++ d) t l ∙ append_assoc (b ++ c) d (t ++ l) ∙ append_assoc b c (d ++ (t ++ l)))
all_pushed (x ∷ a) h b c d t l k = ap (λ xs. x ∷ xs) (all_pushed a h b c d t l k)

pub code_fits : (code : List Instr) → length code < 2 ^ 64 → list_all has_room code ≡ true →
    nat_lt (length code) 18446744073709551616 && list_all has_room code ≡ true
code_fits code few fits =
    ap (λ b. b && list_all has_room code) (lt-ltb (length code) 18446744073709551616 few) ∙ fits
