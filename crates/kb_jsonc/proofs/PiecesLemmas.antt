-- Lengths of strings and comments, one step at a time, and the first piece of a text.
use Rattle.std.proofs.Common.{◌≡◌, ◌≢◌, ℕ, lit<, ◌+◌, ◌-◌, ◌<◌, ◌≤◌, true, false, List, [], ◌∷◌, length}
use Rattle.std.proofs.Common.{get_or, take, drop, suc, Option, Some, None, option_map, Ok, Err, refl, ap}
use Rattle.std.proofs.Common.{arith, eqb, ◌&&◌}
use Rattle.std.proofs.lemmas.List.{drop_more, drop_all, drop-drop, length-drop}
use Rattle.std.proofs.lemmas.Str.{IsUtf8-drop, lead_after_ascii}
use Rattle.std.proofs.lemmas.Bool.{ne_eqb}
use Rattle.std.proofs.lemmas.Bool.Decides.{nat_tests}
use Rattle.kb_jsonc.specs.Bytes.{is_line_end}
use Rattle.kb_jsonc.specs.declared.fault.JsoncFault.TheVariants.{OpenComment, OpenString}
use Rattle.kb_jsonc.specs.Pieces.{quoted, comment, single, string_len, block_len, line_len, first_piece}
use Rattle.kb_jsonc.specs.Pieces.{first_of, OpensComment}

map_twice : (o : Option ℕ) (m n k : ℕ) → n + m ≡ k
    → option_map (λ x. x + n) (option_map (λ x. x + m) o) ≡ option_map (λ x. x + k) o
map_twice None m n k e = refl
map_twice (Some x) m n k e = ap Some (omega arith)

shifted : (at m n : ℕ) → at + m + n ≡ at + (m + n)
shifted at m n = omega arith

abbrev pub string_from : List ℕ → ℕ → Option ℕ
string_from bytes at = option_map (λ n. n + at) (string_len (drop at bytes))

pub quote_first : (b : ℕ) (bs : List ℕ) → b ≡ 34 → string_len (b ∷ bs) ≡ Some 1
quote_first b [] e = rw e refl
quote_first b (c ∷ bs) e = rw e refl

pub escape_first : (b : ℕ) (bs : List ℕ) → b ≡ 92
    → string_len (b ∷ bs) ≡ option_map (λ n. n + 2) (string_len (drop 1 bs))
escape_first b [] e = rw e refl
escape_first b (c ∷ bs) e = rw e refl

pub other_first : (b : ℕ) (bs : List ℕ) → eqb b 34 ≡ false → eqb b 92 ≡ false
    → string_len (b ∷ bs) ≡ option_map (λ n. n + 1) (string_len bs)
other_first b [] p q = rw p refl
other_first b (c ∷ bs) p q = rw (p, q) refl

pub string_quote : (bytes : List ℕ) (at : ℕ) → at < length bytes → get_or bytes at 0 ≡ 34
    → string_from bytes at ≡ Some (at + 1)
string_quote bytes at l e =
    rw (drop_more bytes at 0 l, quote_first (get_or bytes at 0) (drop (at + 1) bytes) e)
    (ap Some (omega arith))

pub string_escape : (bytes : List ℕ) (at : ℕ) → at < length bytes → get_or bytes at 0 ≡ 92
    → string_from bytes at ≡ string_from bytes (at + 2)
string_escape bytes at l e =
    rw (
      drop_more bytes at 0 l,
      escape_first (get_or bytes at 0) (drop (at + 1) bytes) e,
      drop-drop 1
          (at + 1) bytes,
      shifted at 1 1,
    )
    (map_twice (string_len (drop (at + 2) bytes)) 2 at (at + 2) (omega arith))

pub string_other : (bytes : List ℕ) (at : ℕ) → at < length bytes → get_or bytes at 0 ≢ 34
    → get_or bytes at 0 ≢ 92 → string_from bytes at ≡ string_from bytes (at + 1)
string_other bytes at l p q =
    rw (
      drop_more bytes at 0 l,
      other_first (get_or bytes at 0) (drop (at + 1) bytes) (ne_eqb _ _ p)
          (ne_eqb _ _ q),
    )
    (map_twice (string_len (drop (at + 1) bytes)) 1 at (at + 1) (omega arith))

pub string_none : (bytes : List ℕ) (at : ℕ) → length bytes ≤ at → string_from bytes at ≡ None
string_none bytes at l = rw drop_all refl

pub string_whole : (bytes : List ℕ) → string_from bytes 0 ≡ string_len bytes
string_whole bytes = elim (string_len bytes) as
    (λ o. option_map (λ n. n + 0) o ≡ o) [ None ↦ refl | Some n ↦ ap Some (omega arith) ]

pub ruleset string_steps = (string_quote, string_escape, string_other, string_none, string_whole)

abbrev pub block_from : List ℕ → ℕ → Option ℕ
block_from bytes at = option_map (λ n. n + at) (block_len (drop at bytes))

no_mark : (b c : ℕ) → (b ≡ 42 → c ≢ 47) → (eqb b 42 && eqb c 47) ≡ false
no_mark b c p = grind (arith, nat_tests)

none_at : (bs : List ℕ) → length bs ≤ 1 → (at : ℕ) → option_map (λ n. n + at) (block_len bs) ≡ None
none_at [] l at = refl
none_at (b ∷ []) l at = refl
none_at (b ∷ c ∷ bs) l at = absurd (omega arith)

pub block_end : (bytes : List ℕ) (at : ℕ) → at + 1 < length bytes → get_or bytes at 0 ≡ 42
    → get_or bytes (at + 1) 0 ≡ 47 → block_from bytes at ≡ Some (at + 2)
block_end bytes at l p q =
    rw (drop_more bytes at 0 (omega arith), drop_more bytes (at + 1) 0 l, p, q) (ap Some (omega arith))

pub block_other : (bytes : List ℕ) (at : ℕ) → at + 1 < length bytes
    → (get_or bytes at 0 ≡ 42 → get_or bytes (at + 1) 0 ≢ 47)
    → block_from bytes at ≡ block_from bytes (at + 1)
block_other bytes at l p =
    rw (
      drop_more bytes at 0 (omega arith),
      drop_more bytes (at + 1) 0 l,
      no_mark (get_or bytes at 0)
          (get_or bytes (at + 1) 0) p,
    )
    (map_twice (block_len (get_or bytes (at + 1) 0 ∷ drop (at + 1 + 1) bytes)) 1 at (at + 1) (omega arith))

pub block_none : (bytes : List ℕ) (at : ℕ) → length bytes ≤ at + 1 → block_from bytes at ≡ None
block_none bytes at l = none_at (drop at bytes) (rw (length-drop at bytes) (omega arith)) at

pub block_whole : (bytes : List ℕ) → block_from bytes 0 ≡ block_len bytes
block_whole bytes = elim (block_len bytes) as
    (λ o. option_map (λ n. n + 0) o ≡ o) [ None ↦ refl | Some n ↦ ap Some (omega arith) ]

pub ruleset block_steps = (block_end, block_other, block_none, block_whole)

pub line_end : (bytes : List ℕ) (at : ℕ) → at < length bytes → is_line_end (get_or bytes at 0) ≡ true
    → line_len (drop at bytes) ≡ 0
line_end bytes at l e = rw (drop_more bytes at 0 l, e) refl

pub line_more : (bytes : List ℕ) (at : ℕ) → at < length bytes → is_line_end (get_or bytes at 0) ≡ false
    → line_len (drop at bytes) ≡ 1 + line_len (drop (at + 1) bytes)
line_more bytes at l e = rw (drop_more bytes at 0 l, e) refl

pub line_none : (bytes : List ℕ) (at : ℕ) → length bytes ≤ at → line_len (drop at bytes) ≡ 0
line_none bytes at l = rw drop_all refl

pub line_end_ascii : (b : ℕ) → is_line_end b ≡ true → b < 128
line_end_ascii b e = grind (arith, nat_tests)

pub ruleset line_steps = (line_end, line_more, line_none, line_end_ascii)

-- what stands first, an equation for each kind

pub first_quoted : (text : List ℕ) (n : ℕ) → 0 < length text → get_or text 0 0 ≡ 34
    → string_len (drop 1 text) ≡ Some n → first_of text ≡ Ok (quoted (take (1 + n) text))
unfolding first_piece
first_quoted [] n l q e = absurd (omega arith)
first_quoted (b ∷ bs) n l q e = let s : 1 + n ≡ suc n = omega arith in rw (q, e, s) refl

pub first_open_string : (text : List ℕ) → get_or text 0 0 ≡ 34 → string_len (drop 1 text) ≡ None
    → first_of text ≡ Err OpenString
unfolding first_piece
first_open_string text q e = rw (q, e) refl

pub first_single : (text : List ℕ) → get_or text 0 0 ≢ 34 → get_or text 0 0 ≢ 47
    → first_of text ≡ Ok (single (get_or text 0 0))
unfolding first_piece
first_single text q s = rw (ne_eqb _ _ q, ne_eqb _ _ s) refl

-- the comment whose mark stands first

two_more : (n : ℕ) → 2 + n ≡ suc (suc n)
two_more n = omega arith

first_line : (a b n : ℕ) (rest : List ℕ) → a ≡ 47 → b ≡ 47 → line_len rest ≡ n
    → first_of (a ∷ b ∷ rest) ≡ Ok (comment (take (2 + n) (a ∷ b ∷ rest)))
unfolding first_piece
first_line a b n rest p q e =
    let m : 1 + n ≡ suc n = omega arith in
    rw (two_more n, p, q, e, m) refl

first_block : (a b n : ℕ) (rest : List ℕ) → a ≡ 47 → b ≡ 42 → block_len rest ≡ Some n
    → first_of (a ∷ b ∷ rest) ≡ Ok (comment (take (2 + n) (a ∷ b ∷ rest)))
unfolding first_piece
first_block a b n rest p q e =
    let m : n + 1 ≡ suc n = omega arith in
    rw (two_more n, p, q, e, m) refl

pub line_comment : (text : List ℕ) (n : ℕ) → 2 ≤ length text → get_or text 0 0 ≡ 47 → get_or text 1 0 ≡ 47
    → line_len (drop 2 text) ≡ n → n ≤ length (drop 2 text)
    → (n < length (drop 2 text) → get_or (drop 2 text) n 0 < 128) → OpensComment text (2 + n)
line_comment [] n l p q e w f = absurd (omega arith)
line_comment (a ∷ []) n l p q e w f = absurd (omega arith)
line_comment (a ∷ b ∷ rest) n l p q e w f = record {
  first = first_line a b n rest p q e;
  some = omega arith;
  within = omega arith;
  rest = λ u. IsUtf8-drop (a ∷ b ∷ rest) (2 + n) u (
    omega arith,
    λ more high.
        let low : get_or (a ∷ b ∷ rest) (2 + n) 0 < 128 = rw two_more (f (omega arith)) in
        absurd (omega arith),
  );
}

pub block_comment : (text : List ℕ) (n : ℕ) → 2 ≤ length text → get_or text 0 0 ≡ 47 → get_or text 1 0 ≡ 42
    → block_len (drop 2 text) ≡ Some n → n ≤ length (drop 2 text)
    → (0 < n) × (get_or (drop 2 text) (n - 1) 0 ≡ 47) → OpensComment text (2 + n)
block_comment [] n l p q e w m = absurd (omega arith)
block_comment (a ∷ []) n l p q e w m = absurd (omega arith)
block_comment (a ∷ b ∷ rest) n l p q e w m = record {
  first = first_block a b n rest p q e;
  some = omega arith;
  within = omega arith;
  rest = λ u. IsUtf8-drop (a ∷ b ∷ rest) (2 + n) u (
    omega arith,
    λ more high.
        let i : 2 + n ≡ suc (suc (n - 1)) + 1 = omega arith in
        let low : get_or (a ∷ b ∷ rest) (suc (suc (n - 1))) 0 < 128 = rw m.1 (lit< tt) in
        rw i (lead_after_ascii (a ∷ b ∷ rest) (suc (suc (n - 1))) u low (omega arith) (rw i at high)),
  );
}

pub open_block : (text : List ℕ) → 2 ≤ length text → get_or text 0 0 ≡ 47 → get_or text 1 0 ≡ 42
    → block_len (drop 2 text) ≡ None → first_of text ≡ Err OpenComment
unfolding first_piece
open_block [] l p q e = absurd (omega arith)
open_block (a ∷ []) l p q e = absurd (omega arith)
open_block (a ∷ b ∷ rest) l p q e = rw (p, q, e) refl

-- a slash behind which no mark stands
pub lone_slash : (text : List ℕ) → get_or text 0 0 ≡ 47 → (2 ≤ length text → get_or text 1 0 ≢ 47)
    → (2 ≤ length text → get_or text 1 0 ≢ 42) → first_of text ≡ Ok (single 47)
unfolding first_piece
lone_slash [] p f g = absurd (omega arith)
lone_slash (a ∷ []) p f g = rw p refl
lone_slash (a ∷ b ∷ rest) p f g = rw (p, ne_eqb b 47 (f (omega arith)), ne_eqb b 42 (g (omega arith))) refl
