-- Indices and positions that come back.
use Rattle.std.proofs.Common.{◌≡◌, ◌∙◌, ◌++◌, ◌<◌, ◌≤◌, ◌+◌, ◌-◌, ℕ, zero, suc, List, [], ◌∷◌, Bool, true, false}
use Rattle.std.proofs.Common.{ap, append-nil, arith, cond, length, refl, sym, take, drop, get_or, ◌⊎◌, inl, inr}
use Rattle.std.specs.Prelude.{not, ◌==◌, ◌&&◌, ◌||◌, min, nat_lt, slice_index, slice_get, Some}
use Rattle.std.specs.List.{before_first, prefix_len}
use Rattle.std.proofs.lemmas.List.{take_all, get_or_past, length-append, length-drop, length-take-le, get_or-drop, get_or-take}
use Rattle.std.proofs.lemmas.List.Sums.{prefix_len-le-length, prefix_len_passes}
use Rattle.std.proofs.lemmas.Bool.{ltb-true, ltb-false}
use Rattle.std.proofs.Math.Seq.{get_or-append_seam}
use Rattle.std.proofs.Math.ListN.{get_or-append}
use Rattle.std.proofs.lemmas.Option.{get_or_from_slice_get, slice_get-get_or, slice_get_within}
use Rattle.kb_documents.specs.declared.encoding.Encoding.{Encoding}
use Rattle.kb_documents.specs.declared.position.Position.{Position}
use Rattle.kb_documents.specs.Columns.{column, fit, is_inside}
use Rattle.kb_documents.specs.Document.{column_at, index_in, index_of, place_of, position_of}
use Rattle.kb_documents.specs.Lines.{begins, ends_line, line_of, starts, starts_below}
use Rattle.kb_documents.specs.Places.{is_between, line_from, IsPlace, IsPosition}
use Rattle.kb_documents.proofs.ColumnLemmas.{fit_column}
use Rattle.kb_documents.proofs.LineLemmas.{is_line_of, more_starts, none_further, start_within, some_starts, start_is}

told : (b : Bool) → (b ≡ true) ⊎ (b ≡ false)
told true = inl refl
told false = inr refl

not_true : (b : Bool) → not b ≡ true → b ≡ false
not_true true e = cc
not_true false e = refl

-- ---- no line end in front

-- none of the first n bytes ends a line
abbrev NoneEnds : List ℕ → ℕ → Type 0
NoneEnds bytes n = (k : ℕ) → k < n → ends_line (slice_index bytes k) ≡ false

none_next : (b : ℕ) (bs : List ℕ) (n : ℕ) → NoneEnds (b ∷ bs) (suc n) → NoneEnds bs n
none_next b bs n none = λ k below. none (suc k) (omega (arith, below))

-- then the first line is at least as long
reaches : (bytes : List ℕ) (n : ℕ) → n ≤ length bytes → NoneEnds bytes n → n ≤ prefix_len (λ b. not (ends_line b)) bytes
reaches bytes zero within none = omega arith
reaches [] (suc n) within none = absurd (omega (arith, within))
reaches (b ∷ bs) (suc n) within none =
    let here = ap not (none 0 (omega arith)) in
    let more = reaches bs n (omega (arith, within)) (none_next b bs n none) in
    let all = ap (λ (t : Bool). cond t (1 + prefix_len (λ b. not (ends_line b)) bs) 0) here in
    omega (arith, more, all)

cut_twice : (n m : ℕ) (bytes : List ℕ) → n ≤ m → take n (take m bytes) ≡ take n bytes
cut_twice zero m bytes within = refl
cut_twice (suc n) zero bytes within = absurd (omega (arith, within))
cut_twice (suc n) (suc m) [] within = refl
cut_twice (suc n) (suc m) (b ∷ bs) within = ap (λ (t : List ℕ). b ∷ t) (cut_twice n m bs (omega (arith, within)))

all_of : (bytes : List ℕ) → NoneEnds bytes (length bytes) → before_first ends_line bytes ≡ bytes
all_of bytes none =
    take_all (prefix_len (λ b. not (ends_line b)) bytes) bytes (reaches bytes (length bytes) (omega arith) none)

-- ---- an index

-- the line that begins at an index has no end before another one
abbrev IsOneLine : List ℕ → ℕ → ℕ → Type 0
IsOneLine text begin index = (k : ℕ) → begin ≤ k → k < index → ends_line (slice_index text k) ≡ false

-- how long the line is
line_len : (text : List ℕ) (begin : ℕ)
    → length (line_from text begin) ≡ prefix_len (λ b. not (ends_line b)) (drop begin text)
line_len text begin =
    length-take-le (prefix_len (λ b. not (ends_line b)) (drop begin text)) (drop begin text)
    (prefix_len-le-length (λ b. not (ends_line b)) (drop begin text))

-- its bytes
line_byte : (text : List ℕ) (begin n : ℕ) → n < length (line_from text begin)
    → slice_index (line_from text begin) n ≡ slice_index text (begin + n)
line_byte text begin n within =
    get_or-take (prefix_len (λ b. not (ends_line b)) (drop begin text)) (drop begin text) n 0
    (omega (arith, within, line_len text begin))
    ∙ get_or-drop begin text n 0

-- what stands in it up to an index
line_part : (text : List ℕ) (begin n : ℕ) → n ≤ length (line_from text begin)
    → before_first ends_line (take n (drop begin text)) ≡ take n (line_from text begin)
line_part text begin n within =
    let rest = drop begin text in
    let len = line_len text begin in
    let fits : n ≤ length rest =
    omega (arith, within, len, prefix_len-le-length (λ b. not (ends_line b)) rest) in
    let count = length-take-le n rest fits in
    let none : NoneEnds (take n rest) (length (take n rest)) = λ k below.
    let low : k < n = omega (arith, below, count) in
    let is = get_or-take n rest k 0 low in
    let passes = prefix_len_passes (λ b. not (ends_line b)) rest k 0 (omega (arith, low, within, len)) in
    ap ends_line is ∙ not_true (ends_line (slice_index rest k)) passes in
    all_of (take n rest) none
    ∙ sym (cut_twice n (prefix_len (λ b. not (ends_line b)) rest) rest (omega (arith, within, len)))

come_back : (encoding : Encoding) (text : List ℕ) (begin index : ℕ) → begin ≤ index → index ≤ length text
    → IsOneLine text begin index → is_inside (slice_index text index) ≡ false
    → begin + fit encoding (line_from text begin) (column_at encoding text begin index) ≡ index
come_back encoding text begin index ordered within one whole =
    let rest = drop begin text in
    let n = index - begin in
    let sum : begin + n ≡ index = omega (arith, ordered) in
    let none : NoneEnds rest n = λ k below.
    ap ends_line (get_or-drop begin text k 0) ∙ one (begin + k) (omega arith) (omega (arith, below)) in
    let long = reaches rest n (omega (arith, within, length-drop begin text)) none in
    let fits : n ≤ length (line_from text begin) = omega (arith, long, line_len text begin) in
    let there : is_inside (slice_index (line_from text begin) n) ≡ false =
    elim (told (nat_lt n (length (line_from text begin)))) [
      | inl e ↦
          ap is_inside (line_byte text begin n (ltb-true n (length (line_from text begin)) e)
          ∙ ap (λ (i : ℕ). slice_index text i) sum) ∙ whole
      | inr e ↦
          ap is_inside (get_or_past (line_from text begin) n 0 (ltb-false n (length (line_from text begin)) e))
    ] in
    ap (λ (part : List ℕ). begin + fit encoding (line_from text begin) (column encoding part)) (line_part text begin n fits)
    ∙ ap (λ (m : ℕ). begin + m) (fit_column encoding (line_from text begin) n fits there)
    ∙ sum

-- ---- the last beginning

none_below : (text : List ℕ) → starts_below text zero ≡ []
unfolding starts_below
none_below text = refl

abbrev last : List ℕ → ℕ
last bytes = get_or bytes (length bytes - 1) 0

-- one index more begins a line, or it doesn't
next_begins : (text : List ℕ) (n : ℕ) → begins text n ≡ true → starts_below text (suc n) ≡ starts_below text n ++ n ∷ []
unfolding starts_below
next_begins text n e = ap (λ (b : Bool). starts_below text n ++ cond b (n ∷ []) []) e

next_goes_on : (text : List ℕ) (n : ℕ) → begins text n ≡ false → starts_below text (suc n) ≡ starts_below text n
unfolding starts_below
next_goes_on text n e =
    ap (λ (b : Bool). starts_below text n ++ cond b (n ∷ []) []) e ∙ append-nil (starts_below text n)

last_pushed : (xs : List ℕ) (n : ℕ) → last (xs ++ n ∷ []) ≡ n
last_pushed xs n =
    let e : length (xs ++ n ∷ []) - 1 ≡ length xs = omega (arith, length-append xs (n ∷ [])) in
    ap (λ (k : ℕ). get_or (xs ++ n ∷ []) k 0) e ∙ get_or-append_seam xs n [] 0

-- no line begins between the last beginning up to an index and the index
no_later : (text : List ℕ) (n k : ℕ) → last (starts_below text (suc n)) < k → k ≤ n → begins text k ≡ false
no_later text zero k behind within =
    let is = ap last (next_begins text zero refl) ∙ last_pushed (starts_below text zero) zero in
    absurd (omega (arith, behind, within, is))
no_later text (suc n) k behind within =
    elim (told (begins text (suc n))) [
      | inl e ↦
          let is = ap last (next_begins text (suc n) e) ∙ last_pushed (starts_below text (suc n)) (suc n) in
          absurd (omega (arith, behind, within, is))
      | inr e ↦
          let is = ap last (next_goes_on text (suc n) e) in
          elim (told (nat_lt k (suc n))) [
            | inl f ↦ no_later text n k (omega (arith, behind, is)) (omega (arith, ltb-true k (suc n) f))
            | inr f ↦
                let same : k ≡ suc n = omega (arith, within, ltb-false k (suc n) f) in
                ap (begins text) same ∙ e
          ]
    ]

-- what the tests of a byte and the next one say
record Returns (is_feed is_return is_next : Bool) : Type 0 where
  no_feed : is_feed ≡ false
  return : is_return ≡ true
  next : is_next ≡ true

returns : (x y z : Bool) → (x || y) ≡ true → (x || (y && not z)) ≡ false → Returns x y z
returns true y z e f = cc
returns false true true e f = record { no_feed = refl; return = refl; next = refl }
returns false true false e f = cc
returns false false z e f = cc

both_true : (x y : Bool) → x ≡ true → y ≡ true → (x && y) ≡ true
both_true x y e f = ap (λ (b : Bool). b && y) e ∙ f

feed_begins : (x y : Bool) → x ≡ true → (x || y) ≡ true
feed_begins x y e = ap (λ (b : Bool). b || y) e

clash : (b : Bool) → b ≡ true → b ≡ false → ⊥
clash b e f = cc

one_line : (text : List ℕ) (begin index : ℕ) → is_between text index ≡ false
    → ((k : ℕ) → begin < k → k ≤ index → begins text k ≡ false) → IsOneLine text begin index
one_line text begin index apart none k low high =
    elim (told (ends_line (slice_index text k))) [
      | inr e ↦ e
      | inl e ↦
          let r = returns (slice_index text k == 10) (slice_index text k == 13) (slice_index text (suc k) == 10) e
          (none (suc k) (omega (arith, low)) (omega (arith, high))) in
          elim (told (nat_lt (suc k) index)) [
            | inl f ↦
                absurd (clash (begins text (suc (suc k)))
                (feed_begins (slice_index text (suc k) == 10)
                (slice_index text (suc k) == 13 && not (slice_index text (suc (suc k)) == 10)) r.next)
                (none (suc (suc k)) (omega (arith, low)) (omega (arith, ltb-true (suc k) index f))))
            | inr f ↦
                let same : index ≡ suc k = omega (arith, high, ltb-false (suc k) index f) in
                absurd (clash (is_between text (suc k))
                (both_true (slice_index text k == 13) (slice_index text (suc k) == 10) r.return r.next)
                (sym (ap (is_between text) same) ∙ apart))
          ]
    ]

-- the position of a character leads back to its index
pub indices_back : (encoding : Encoding) (text : List ℕ) (index : ℕ) → IsPlace text index
    → index_of encoding text (position_of encoding text index) ≡ index
indices_back encoding text index place =
    let within = place.within in
    let line = line_of text index in
    let begin = slice_index (starts text) line in
    let is = is_line_of text index line within refl in
    let some = some_starts text index in
    let start = start_is text index line within (omega (arith, some)) in
    let up : index + 1 ≡ suc index = omega arith in
    let last_is : begin ≡ last (starts_below text (suc index)) =
    start ∙ ap (λ (n : ℕ). last (starts_below text n)) up in
    let none : (k : ℕ) → begin < k → k ≤ index → begins text k ≡ false = λ k low high.
    no_later text index k (omega (arith, low, last_is)) high in
    let one = one_line text begin index place.apart none in
    let min_is : min index (length text) ≡ index = omega (arith, within) in
    let found = slice_get-get_or (starts text) line 0 is.there in
    ap (λ (n : ℕ). index_of encoding text (place_of encoding text n)) min_is
    ∙ ap (index_in encoding text (column_at encoding text begin index)) found
    ∙ come_back encoding text begin index is.begins_before within one place.whole

-- ---- a position

-- how many lines begin up to the beginning of a line
counted_up : (text : List ℕ) (limit n : ℕ) → n < length (starts_below text limit)
    → length (starts_below text (suc (get_or (starts_below text limit) n 0))) ≡ suc n
counted_up text zero n there = absurd (omega (arith, there, ap (λ (l : List ℕ). length l) (none_below text)))
counted_up text (suc limit) n there =
    elim (told (begins text limit)) [
      | inr e ↦
          let same = next_goes_on text limit e in
          ap (λ (l : List ℕ). length (starts_below text (suc (get_or l n 0)))) same
          ∙ counted_up text limit n (omega (arith, there, ap (λ (l : List ℕ). length l) same))
      | inl e ↦
          let before = starts_below text limit in
          let same = next_begins text limit e in
          let len = ap (λ (l : List ℕ). length l) same ∙ length-append before (limit ∷ []) in
          elim (told (nat_lt n (length before))) [
            | inl f ↦
                let low = ltb-true n (length before) f in
                ap (λ (l : List ℕ). length (starts_below text (suc (get_or l n 0)))) same
                ∙ ap (λ (k : ℕ). length (starts_below text (suc k))) (get_or-append before (limit ∷ []) 0 n low)
                ∙ counted_up text limit n low
            | inr f ↦
                let here : n ≡ length before = omega (arith, there, len, ltb-false n (length before) f) in
                let at : get_or (starts_below text (suc limit)) n 0 ≡ limit =
                ap (λ (l : List ℕ). get_or l n 0) same ∙ ap (λ (k : ℕ). get_or (before ++ limit ∷ []) k 0) here
                ∙ get_or-append_seam before limit [] 0 in
                ap (λ (k : ℕ). length (starts_below text (suc k))) at ∙ omega (arith, len, here)
          ]
    ]

-- no line begins behind bytes that end none
neither : (x y z : Bool) → (x || y) ≡ false → (x || (y && z)) ≡ false
neither true y z e = cc
neither false true z e = cc
neither false false z e = refl

line_ends_none : (text : List ℕ) (begin k : ℕ) → k < length (line_from text begin)
    → ends_line (slice_index text (begin + k)) ≡ false
line_ends_none text begin k within =
    let passes = prefix_len_passes (λ b. not (ends_line b)) (drop begin text) k 0
    (omega (arith, within, line_len text begin)) in
    ap ends_line (sym (get_or-drop begin text k 0))
    ∙ not_true (ends_line (slice_index (drop begin text) k)) passes

none_begins : (text : List ℕ) (begin n k : ℕ) → n ≤ length (line_from text begin) → k < n
    → begins text (suc begin + k) ≡ false
none_begins text begin n k fits below =
    let up : suc begin + k ≡ suc (begin + k) = omega arith in
    ap (begins text) up
    ∙ neither (slice_index text (begin + k) == 10) (slice_index text (begin + k) == 13)
    (not (slice_index text (suc (begin + k)) == 10)) (line_ends_none text begin k (omega (arith, fits, below)))

-- the line of an index in the line that begins at another one
same_line : (text : List ℕ) (line begin n : ℕ) → slice_get (starts text) line ≡ Some begin
    → n ≤ length (line_from text begin) → line_of text (begin + n) ≡ line
same_line text line begin n found fits =
    let there = slice_get_within (starts text) line begin found in
    let at = get_or_from_slice_get (starts text) line begin 0 found in
    let count = ap (λ (k : ℕ). length (starts_below text (suc k))) (sym at) ∙ counted_up text (length text + 1) line there in
    let up : begin + n + 1 ≡ suc begin + n = omega arith in
    let all = ap (starts_below text) up ∙ more_starts text (suc begin) n
    ∙ ap (λ (l : List ℕ). starts_below text (suc begin) ++ l)
    (none_further text (suc begin) n (λ k below. none_begins text begin n k fits below))
    ∙ append-nil (starts_below text (suc begin)) in
    omega (arith, ap (λ (l : List ℕ). length l) all, count)

-- the index of a character's position leads back to it
pub positions_back : (encoding : Encoding) (text : List ℕ) (position : Position) → IsPosition encoding text position
    → position_of encoding text (index_of encoding text position) ≡ position
positions_back encoding text position is =
    let begin = is.begin in
    let n = is.len in
    let line = line_from text begin in
    let within = start_within text position.line begin (sym is.line) in
    let fits : begin + n ≤ length text =
    omega (
      arith,
      within,
      is.within,
      line_len text begin,
      prefix_len-le-length (λ b. not (ends_line b)) (drop begin text),
      length-drop begin text,
    ) in
    let index : index_of encoding text position ≡ begin + n =
    ap (index_in encoding text position.character) is.line
    ∙ ap (λ (k : ℕ). begin + fit encoding line k) is.column_is
    ∙ ap (λ (k : ℕ). begin + k) (fit_column encoding line n is.within is.whole) in
    let min_is : min (begin + n) (length text) ≡ begin + n = omega (arith, fits) in
    let number = same_line text position.line begin n is.line is.within in
    let start : slice_index (starts text) (line_of text (begin + n)) ≡ begin =
    ap (λ (k : ℕ). slice_index (starts text) k) number
    ∙ get_or_from_slice_get (starts text) position.line begin 0 is.line in
    let less : begin + n - begin ≡ n = omega arith in
    let character : column_at encoding text begin (begin + n) ≡ position.character =
    ap (λ (k : ℕ). column encoding (before_first ends_line (take k (drop begin text)))) less
    ∙ ap (column encoding) (line_part text begin n is.within)
    ∙ sym is.column_is in
    ap (position_of encoding text) index
    ∙ ap (place_of encoding text) min_is
    ∙ ap (λ (k : ℕ). at (line_of text (begin + n)) (column_at encoding text k (begin + n))) start
    ∙ ap (λ (k : ℕ). at k (column_at encoding text begin (begin + n))) number
    ∙ ap (at position.line) character
  where
    at : ℕ → ℕ → Position
    at line character = record { line = line; character = character }
