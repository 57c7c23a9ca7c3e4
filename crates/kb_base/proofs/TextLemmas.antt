-- The first and the last character of an appended text.
use Rattle.std.proofs.Common.{◌≡◌, ℕ, ◌-◌, ◌≤◌, List, [], ◌∷◌, ◌++◌, length, take, drop, refl, sym, ap, ◌∙◌}
use Rattle.std.proofs.Common.{subst, arith, length-append, append-nil}
use Rattle.std.proofs.Math.Seq.{take-append_seam, drop-append_seam}
use Rattle.std.specs.Str.{chars, IsUtf8}
use Rattle.std.specs.Char.{encode_utf8}
use Rattle.std.proofs.lemmas.Str.{chars-append, chars-nil, encodes-chars, IsUtf8-string_bytes, IsUtf8-drop}
use Rattle.std.proofs.lemmas.Str.{IsCharBoundary-from_take, chars_past_char, IsUtf8-past_char}
use Rattle.std.specs.Prelude.{Option, Some, None, MatchOption, IfSome, IfNone, String, string_bytes}
use Rattle.std.specs.Prelude.{string_len}
use Rattle.std.specs.declared.alloc.Global.{Global}
use Rattle.kb_base.specs.Text.{without_last, only_last, without_first, only_first}

-- if a text begins with a text, the rest is a text
IsUtf8-suffix : (all bs rest : List ℕ) → all ≡ bs ++ rest → IsUtf8 all → IsUtf8 bs → IsUtf8 rest
IsUtf8-suffix all bs rest e u v =
    let at : take (length bs) all ≡ bs = rw e (take-append_seam bs rest) in
    let past : drop (length bs) all ≡ rest = rw e (drop-append_seam bs rest) in
    let fits : length bs ≤ length all = rw e (omega (arith, length-append bs rest)) in
    let cut = IsCharBoundary-from_take all (length bs) u fits (subst IsUtf8 (sym at) v) in
    subst IsUtf8 past (IsUtf8-drop all (length bs) u cut)

chars_push : (all bs : List ℕ) (c : ℕ) → all ≡ bs ++ encode_utf8 c → IsUtf8 all → IsUtf8 bs
    → chars all ≡ chars bs ++ c ∷ []
chars_push all bs c e u v =
    let w = IsUtf8-suffix all bs (encode_utf8 c) e u v in
    let one = chars_past_char (encode_utf8 c) [] c w (sym (append-nil (encode_utf8 c)))
    ∙ ap (λ l. c ∷ l) chars-nil in
    ap chars e ∙ chars-append bs (encode_utf8 c) v ∙ ap (λ l. chars bs ++ l) one

front_of_push : (xs : List ℕ) (c : ℕ) → take (length (xs ++ c ∷ []) - 1) (xs ++ c ∷ []) ≡ xs
front_of_push xs c =
    let e : length (xs ++ c ∷ []) - 1 ≡ length xs = omega (arith, length-append xs (c ∷ [])) in
    rw e (take-append_seam xs (c ∷ []))

last_of_push : (xs : List ℕ) (c : ℕ) → drop (length (xs ++ c ∷ []) - 1) (xs ++ c ∷ []) ≡ c ∷ []
last_of_push xs c =
    let e : length (xs ++ c ∷ []) - 1 ≡ length xs = omega (arith, length-append xs (c ∷ [])) in
    rw e (drop-append_seam xs (c ∷ []))

pub without_last-push : (all bs : List ℕ) (c : ℕ) → all ≡ bs ++ encode_utf8 c → IsUtf8 all → IsUtf8 bs
    → without_last all ≡ bs
unfolding without_last
without_last-push all bs c e u v =
    rw (chars_push all bs c e u v, front_of_push (chars bs) c) (encodes-chars bs v)

pub only_last-push : (all bs : List ℕ) (c : ℕ) → all ≡ bs ++ encode_utf8 c → IsUtf8 all → IsUtf8 bs
    → only_last all ≡ encode_utf8 c
unfolding only_last
only_last-push all bs c e u v =
    rw (chars_push all bs c e u v, last_of_push (chars bs) c) (append-nil (encode_utf8 c))

pub without_first-past : (all rest : List ℕ) (c : ℕ) → IsUtf8 all → all ≡ encode_utf8 c ++ rest
    → without_first all ≡ rest
unfolding without_first
without_first-past all rest c u e =
    rw (chars_past_char all rest c u e) (encodes-chars rest (IsUtf8-past_char all rest c u e))

pub only_first-past : (all rest : List ℕ) (c : ℕ) → IsUtf8 all → all ≡ encode_utf8 c ++ rest
    → only_first all ≡ encode_utf8 c
unfolding only_first
only_first-past all rest c u e = rw (chars_past_char all rest c u e) (append-nil (encode_utf8 c))

empty_list : (bs : List ℕ) → length bs ≡ 0 → bs ≡ []
empty_list [] e = refl
empty_list (b ∷ bs) e = absurd (omega arith)

-- an empty text has neither
pub record HasNone (bs : List ℕ) : Type 0 where
  pub no_last : only_last bs ≡ []
  pub no_first : only_first bs ≡ []
  pub same_last : without_last bs ≡ bs
  pub same_first : without_first bs ≡ bs

pub HasNone-nil : HasNone []
unfolding without_last only_last without_first only_first
HasNone-nil = record {
  no_last = rw chars-nil refl;
  no_first = rw chars-nil refl;
  same_last = rw chars-nil refl;
  same_first = rw chars-nil refl;
}

pub HasNone-empty : (bs : List ℕ) → length bs ≡ 0 → HasNone bs
HasNone-empty [] e = HasNone-nil
HasNone-empty (b ∷ bs) e = absurd (omega arith)

-- what `pop` gives
pub without_last-pop : (old new : String Global) (r : Option ℕ)
    → IfSome r (λ c. string_bytes old ≡ string_bytes new ++ encode_utf8 c) → IfNone r (string_len old ≡ 0)
    → string_len new ≤ string_len old
    → (string_bytes new ≡ without_last (string_bytes old))
    × MatchOption r (only_last (string_bytes old) ≡ [])
    (λ c. only_last (string_bytes old) ≡ encode_utf8 c)
without_last-pop old new (Some c) e z b = (
  sym (without_last-push _ _ c e (IsUtf8-string_bytes old) (IsUtf8-string_bytes new)),
  only_last-push _ _
      c e (IsUtf8-string_bytes old) (IsUtf8-string_bytes new),
)
without_last-pop old new None e z b =
    let n = HasNone-empty (string_bytes old) (sym old.bytes.ok.0 ∙ z) in
    let m : length (string_bytes new) ≡ 0 = omega (arith, old.bytes.ok.0, new.bytes.ok.0, z, b) in (
      empty_list (string_bytes new) m ∙ sym (empty_list (string_bytes old) (sym old.bytes.ok.0 ∙ z))
          ∙ sym n.same_last,
      n.no_last,
    )
