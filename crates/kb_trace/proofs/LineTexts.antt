-- The canonical text of a chord with one more keystroke.
use Rattle.std.proofs.Common.{◌≡◌, ℕ, List, [], ◌∷◌, ◌++◌, refl, sym, ap, ◌∙◌, append_assoc, append-nil}
use Rattle.std.proofs.Common.{length, ◌<◌, arith, true}
use Rattle.kb_keys.specs.declared.keystroke.Keystroke.{Keystroke}
use Rattle.kb_keys.specs.Keystroke.{spelling}
use Rattle.kb_keys.specs.Chord.{chord_spelling}
use Rattle.kb_keys.proofs.KeyNameLemmas.{and_both}
use Rattle.std.specs.Prelude.{codes}
use Rattle.json.specs.Print.{print, print_from}
use Rattle.json.specs.Token as token
use Rattle.kb_trace.specs.Lines.{key_text, json_string, has_itself}
use Rattle.std.specs.List.{list_all}
use Rattle.json.specs.Print.{escape, escape_byte}

pub chord_spelling_first : (key : Keystroke) → chord_spelling (key ∷ []) ≡ spelling key
chord_spelling_first key = refl

pub chord_spelling_more : (pressed : List Keystroke) (key : Keystroke) → 0 < length pressed
    → chord_spelling (pressed ++ key ∷ []) ≡ chord_spelling pressed ++ (32 ∷ spelling key)
chord_spelling_more [] key some = absurd (omega arith)
chord_spelling_more (p ∷ []) key some = refl
chord_spelling_more (p ∷ q ∷ ps) key some =
    ap (λ (l : List ℕ). spelling p ++ (32 ∷ l)) (chord_spelling_more (q ∷ ps) key (omega arith))
    ∙ sym (append_assoc (spelling p) (32 ∷ chord_spelling (q ∷ ps)) (32 ∷ spelling key))

-- the beginning of the line of a first press
pub key_text_first : (pressed : List Keystroke) (key : Keystroke) (text : List ℕ) → length pressed ≡ 0
    → text ≡ codes "key " ++ spelling key → text ≡ key_text pressed key
key_text_first [] key text none made = made
key_text_first (p ∷ ps) key text none made = absurd (omega arith)

-- the same of a later press
pub key_text_more : (pressed : List Keystroke) (key : Keystroke) (text : List ℕ) → (length pressed ≡ 0 → ⊥)
    → text ≡ ((codes "key " ++ chord_spelling pressed) ++ 32 ∷ []) ++ spelling key
    → text ≡ key_text pressed key
key_text_more pressed key text some made =
    made
    ∙ append_assoc (codes "key " ++ chord_spelling pressed) (32 ∷ []) (spelling key)
    ∙ append_assoc (codes "key ") (chord_spelling pressed) (32 ∷ spelling key)
    ∙ ap (λ (l : List ℕ). codes "key " ++ l) (sym (chord_spelling_more pressed key (omega arith)))

pub ruleset key_texts = (key_text_first, key_text_more)

-- what a writer of JSON gives for a text alone
pub print_string : (text : List ℕ) → print (token.string text ∷ []) ≡ json_string text
unfolding print_from
print_string text = append-nil (json_string text)

-- JSON has a plain byte as it is
plain_byte : (x : ℕ) → has_itself x ≡ true → escape_byte x ≡ x ∷ []
unfolding escape_byte
plain_byte x plain = grind arith

-- JSON has a plain text as it is
plain_escape : (text : List ℕ) → list_all has_itself text ≡ true → escape text ≡ text
plain_escape [] all = refl
plain_escape (x ∷ xs) all =
    let both = and_both (has_itself x) (list_all has_itself xs) all in
    ap (λ (l : List ℕ). l ++ escape xs) (plain_byte x both.0)
    ∙ ap (λ (l : List ℕ). x ∷ l) (plain_escape xs both.1)

pub plain_string : (text : List ℕ) → list_all has_itself text ≡ true
    → 34 ∷ (text ++ 34 ∷ []) ≡ json_string text
plain_string text all = ap (λ (l : List ℕ). 34 ∷ (l ++ 34 ∷ [])) (sym (plain_escape text all))
