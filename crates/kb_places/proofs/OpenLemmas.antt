-- A file that is read has a text, whose comments can be blanked.
use Rattle.std.proofs.Common.{◌≡◌, ◌⊎◌, inl, inr, Bool, true, false, ℕ, List, refl, sym, ◌∙◌}
use Rattle.std.specs.Prelude.{Result, Ok, Err, IsOk}
use Rattle.std.specs.Str.{IsUtf8, is_utf8}
use Rattle.std.proofs.lemmas.Str.{IsUtf8-from_is_utf8, is_utf8-from_IsUtf8}
use Rattle.serde_json.specs.Data.{Data}
use Rattle.kb_base.specs.Reading.{◌>>=◌}
use Rattle.kb_jsonc.specs.declared.fault.JsoncFault.{JsoncFault}
use Rattle.kb_jsonc.specs.Reader.{value_of, plain_value, without_mark}
use Rattle.kb_jsonc.specs.Text.{plain_text}
use Rattle.kb_jsonc.proofs.ReaderLemmas.{value_not_utf8, value_of_text}

told : (t : Bool) → (t ≡ true) ⊎ (t ≡ false)
told true = inl refl
told false = inr refl

no_text : (file : List ℕ) → is_utf8 (without_mark file) ≡ false → IsUtf8 (without_mark file) → ⊥
no_text file p u = let q = is_utf8-from_IsUtf8 (without_mark file) u in cc

pub has_text : (file : List ℕ) (d : Data) → value_of file ≡ Ok d → IsUtf8 (without_mark file)
has_text file d e =
    elim (told (is_utf8 (without_mark file))) [
      | inl p ↦ IsUtf8-from_is_utf8 (without_mark file) p
      | inr p ↦ let q = value_not_utf8 file (no_text file p) in cc
    ]

bound : (r : Result (List ℕ) JsoncFault) (d : Data) → (r >>= plain_value) ≡ Ok d → IsOk r
bound (Ok text) d e = refl
bound (Err fault) d e = cc

pub has_plain : (file : List ℕ) (d : Data) → value_of file ≡ Ok d → IsOk (plain_text (without_mark file))
has_plain file d e =
    bound (plain_text (without_mark file)) d (sym (value_of_text file (has_text file d e)) ∙ e)
