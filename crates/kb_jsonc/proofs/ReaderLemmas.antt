-- The value of a file: one equation for each return of `read`.
use Rattle.std.proofs.Common.{◌≡◌, ◌⊎◌, inl, inr, subst, arith, encode_utf8, ℕ, Bool, true, false, ◌&&◌}
use Rattle.std.proofs.Common.{List, [], ◌∷◌, ◌++◌, Some, None, Result, Ok, Err, refl, sym, ap, ◌∙◌, eqb}
use lib.Utf8.{encode}
use Rattle.std.specs.Str.{IsUtf8, is_utf8}
use Rattle.std.specs.List.{list_all}
use Rattle.std.proofs.lemmas.Bool.Decides.{nat_tests}
use Rattle.std.proofs.lemmas.Str.{IsUtf8-from_is_utf8, is_utf8-from_IsUtf8, IsUtf8-append, IsUtf8-encode}
use Rattle.std.proofs.lemmas.Str.{IsUtf8-past_char}
use Rattle.serde_json.specs.Data.{Data, array, no_items}
use Rattle.serde_json.specs.Errors.{IsMemory}
use Rattle.serde_json.specs.Read.{read as read_text}
use Rattle.serde_json.specs.declared.error.Error.{Error}
use Rattle.kb_jsonc.specs.declared.fault.JsoncFault.{JsoncFault}
use Rattle.kb_jsonc.specs.declared.fault.JsoncFault.TheVariants.{NotUtf8, Syntax}
use Rattle.kb_base.specs.declared.failure.Failure.{Failure}
use Rattle.kb_base.specs.declared.failure.Failure.TheVariants.{NoMemory, Fault}
use Rattle.kb_base.specs.Failure.{Fails}
use Rattle.kb_base.specs.Reading.{◌>>=◌, or_fault}
use Rattle.kb_base.specs.Blank.{is_blank}
use Rattle.kb_jsonc.specs.Text.{plain_text}
use Rattle.kb_jsonc.specs.Reader.{without_mark, plain_value, value_of, TellsError}

told : (t : Bool) → (t ≡ true) ⊎ (t ≡ false)
told true = inl refl
told false = inr refl

-- the byte order mark is a whole character
mark_is : (a b c : ℕ) (rest : List ℕ) → (eqb a 239 && (eqb b 187 && eqb c 191)) ≡ true
    → a ∷ b ∷ c ∷ rest ≡ encode_utf8 65279 ++ rest
unfolding encode
mark_is a b c rest e =
    let x : a ≡ 239 = grind (arith, nat_tests) in
    let y : b ≡ 187 = grind (arith, nat_tests) in
    let z : c ≡ 191 = grind (arith, nat_tests) in
    rw (x, y, z) refl

utf8_unmarked : (bytes : List ℕ) → IsUtf8 (without_mark bytes) → IsUtf8 bytes
utf8_unmarked [] u = u
utf8_unmarked (a ∷ []) u = u
utf8_unmarked (a ∷ b ∷ []) u = u
utf8_unmarked (a ∷ b ∷ c ∷ rest) u =
    elim (told (eqb a 239 && (eqb b 187 && eqb c 191))) [
      | inl e ↦ subst IsUtf8 (sym (mark_is a b c rest e))
          (IsUtf8-append (encode_utf8 65279) rest (IsUtf8-encode 65279 refl) (rw e at u))
      | inr e ↦ rw e at u
    ]

utf8_marked : (bytes : List ℕ) → IsUtf8 bytes → IsUtf8 (without_mark bytes)
utf8_marked [] u = u
utf8_marked (a ∷ []) u = u
utf8_marked (a ∷ b ∷ []) u = u
utf8_marked (a ∷ b ∷ c ∷ rest) u =
    elim (told (eqb a 239 && (eqb b 187 && eqb c 191))) [
      | inl e ↦ rw e (IsUtf8-past_char (a ∷ b ∷ c ∷ rest) rest 65279 u (mark_is a b c rest e))
      | inr e ↦ rw e u
    ]

pub value_not_utf8 : (bytes : List ℕ) → (IsUtf8 (without_mark bytes) → ⊥) → value_of bytes ≡ Err NotUtf8
unfolding value_of
value_not_utf8 bytes not_text =
    elim (told (is_utf8 bytes)) [
      | inl e ↦ absurd (not_text (utf8_marked bytes (IsUtf8-from_is_utf8 bytes e)))
      | inr e ↦ rw e refl
    ]

pub value_of_text : (bytes : List ℕ) → IsUtf8 (without_mark bytes)
    → value_of bytes ≡ (plain_text (without_mark bytes) >>= plain_value)
unfolding value_of
value_of_text bytes u = rw (is_utf8-from_IsUtf8 bytes (utf8_unmarked bytes u)) refl

-- a fault of the plain text is one of the whole
bind_fails : (failure : Failure JsoncFault) (r : Result (List ℕ) JsoncFault)
    (f : List ℕ → Result Data JsoncFault) → Fails failure r → Fails failure (r >>= f)
bind_fails NoMemory r f e = tt
bind_fails (Fault fault) r f e = ap (λ x. x >>= f) e

pub value_fault : (bytes : List ℕ) (failure : Failure JsoncFault) → IsUtf8 (without_mark bytes)
    → Fails failure (plain_text (without_mark bytes)) → Fails failure (value_of bytes)
value_fault bytes failure u e =
    rw (value_of_text bytes u) (bind_fails failure (plain_text (without_mark bytes)) plain_value e)

pub value_whole : (bytes text : List ℕ) → IsUtf8 (without_mark bytes)
    → plain_text (without_mark bytes) ≡ Ok text → value_of bytes ≡ plain_value text
value_whole bytes text u e = value_of_text bytes u ∙ ap (λ r. r >>= plain_value) e

pub blank_value : (text : List ℕ) → list_all is_blank text ≡ true → plain_value text ≡ Ok (array no_items)
unfolding plain_value
blank_value text e = rw e refl

pub read_value : (text : List ℕ) (d : Data) → list_all is_blank text ≡ false → read_text text ≡ Some d
    → plain_value text ≡ Ok d
unfolding plain_value
read_value text d e r = rw e (ap (or_fault Syntax) r)

pub no_value : (text : List ℕ) → list_all is_blank text ≡ false → read_text text ≡ None
    → plain_value text ≡ Err Syntax
unfolding plain_value
no_value text e r = rw e (ap (or_fault Syntax) r)

-- an error that isn't refused memory is the text's
pub failed_value : (text : List ℕ) (error : Error) (failure : Failure JsoncFault)
    → list_all is_blank text ≡ false → ((IsMemory error → ⊥) → read_text text ≡ None)
    → TellsError error failure
    → Fails failure (plain_value text)
failed_value text error NoMemory blank none tells = tt
failed_value text error (Fault fault) blank none tells =
    no_value text blank (none tells.0) ∙ ap Err (sym tells.1)
