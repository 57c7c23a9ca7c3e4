-- What a string of JSON says, by cases.
use Rattle.std.proofs.Common.{◌≡◌, ℕ, List, true, false, Some, None, refl}
use Rattle.std.specs.Prelude.{bytes_eq}
use Rattle.std.specs.Str.{is_utf8, IsUtf8}
use Rattle.std.proofs.lemmas.Bool.{false_from_ne_true}
use Rattle.std.proofs.lemmas.Str.{IsUtf8-from_is_utf8, is_utf8-from_IsUtf8}
use Rattle.serde_json.specs.Data.{Data}
use Rattle.serde_json.specs.Find.{as_str}
use Rattle.serde_json.specs.Read.{read}
use Rattle.kb_exchange.specs.Says.{has_escape, inside, is_text, read_text, says, text_of}

no_text : (text : List ℕ) → ¬ IsUtf8 text → is_utf8 text ≡ false
no_text text h = false_from_ne_true (is_utf8 text) (λ e. h (IsUtf8-from_is_utf8 text e))

-- ---- what is read of a string

pub not_utf8 : (string : List ℕ) → ¬ IsUtf8 string → None ≡ read_text string
unfolding read_text
not_utf8 string h = rw (no_text string h) refl

pub is_read : (string : List ℕ) (d : Data) → IsUtf8 string → read string ≡ Some d → as_str d ≡ read_text string
unfolding read_text
is_read string d h e = rw (is_utf8-from_IsUtf8 string h, e) refl

pub is_unread : (string : List ℕ) → IsUtf8 string → read string ≡ None → None ≡ read_text string
unfolding read_text
is_unread string h e = rw (is_utf8-from_IsUtf8 string h, e) refl

pub ruleset readings = (not_utf8, is_read, is_unread)

-- ---- what a string says

pub escaped : (string : List ℕ) → has_escape string ≡ true → read_text string ≡ text_of string
unfolding text_of
escaped string e = rw e refl

pub plain_text : (string : List ℕ) → has_escape string ≡ false → IsUtf8 (inside string)
    → Some (inside string) ≡ text_of string
unfolding text_of
plain_text string e h = rw (e, is_utf8-from_IsUtf8 (inside string) h) refl

pub no_plain_text : (string : List ℕ) → has_escape string ≡ false → ¬ IsUtf8 (inside string)
    → None ≡ text_of string
unfolding text_of
no_plain_text string e h = rw (e, no_text (inside string) h) refl

pub ruleset texts = (escaped, plain_text, no_plain_text)

pub escaped_says : (text string : List ℕ) → has_escape string ≡ true
    → is_text text (read_text string) ≡ says text string
unfolding says
escaped_says text string e = rw e refl

pub plain_says : (text string : List ℕ) → has_escape string ≡ false
    → bytes_eq (inside string) text ≡ says text string
unfolding says
plain_says text string e = rw e refl

pub ruleset sayings = (escaped_says, plain_says)
