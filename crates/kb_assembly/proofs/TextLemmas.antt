-- The text of lines is read as the lines.
use Rattle.std.proofs.Common.{◌≡◌, refl, sym, ap, ◌∙◌, subst, ℕ, zero, suc, ◌+◌, ◌%◌, ◌<◌, ◌≤◌, ◌^◌, List, [], ◌∷◌, ◌++◌, length}
use Rattle.std.proofs.Common.{map, take, drop, get_or, Bool, true, false, cond, Option, Some, None, option_map, option_and_then}
use Rattle.std.proofs.Common.{Result, Ok, Err, arith, append_assoc, length-append, ◌-◌}
use Rattle.std.specs.Prelude.{◌==◌, ◌||◌, ◌&&◌, not, nat_lt, if◌then◌else◌, flat_map, decimal, IfOk, slice_get, is_some, bytes_eq}
use Rattle.std.specs.List.{list_all, slice_split, onto_first}
use Rattle.std.specs.Str.{is_utf8}
use Rattle.std.proofs.lemmas.List.{append-nil, drop_more, drop_all, take_rest, length-drop}
use Rattle.std.proofs.lemmas.Bool.{false≢true, lt-ltb, ltb-true, ne_eqb}
use Rattle.std.proofs.lemmas.Bool.Decides.{Decides-eqb}
use Rattle.std.proofs.lemmas.Fmt.{decimal_by_steps, decimal_nonempty}
use Rattle.kb_base.specs.declared.failure.Failure.{Failure}
use Rattle.kb_base.specs.declared.failure.Failure.TheVariants.{NoMemory, Fault}
use Rattle.kb_base.specs.Failure.{Fails}
use Rattle.kb_base.specs.Reading.{◌>>=◌, seen}
use Rattle.kb_code.specs.declared.instr.Instr.{Instr}
use Rattle.kb_code.specs.Instr.{operand_of}
use Rattle.kb_assembly.specs.declared.code.TextFault.{TextFault}
use Rattle.kb_assembly.specs.declared.table.Label.{Label}
use Rattle.kb_assembly.specs.declared.names.Names.{Names}
use Rattle.kb_assembly.specs.declared.mnemonic.Mnemonic.{Mnemonic}
use Rattle.kb_assembly.specs.declared.mnemonic.Mnemonic.TheVariants as m
use Rattle.kb_assembly.specs.declared.mnemonic.Space.{Space}
use Rattle.kb_assembly.specs.declared.mnemonic.Space.TheVariants as space
use Rattle.kb_assembly.specs.declared.words.Word.{Word}
use Rattle.kb_assembly.specs.Words.{quote, semicolon, backslash, is_plain, words_of}
use Rattle.kb_assembly.specs.Grammar.{IsBody, no_bytes, plain_byte, escape_bytes, IsWord, bare_word, quoted_word}
use Rattle.kb_assembly.specs.Grammar.{IsText, no_text, blank_text, word_text, written_byte, written_text, gap, written_line, can_stand}
use Rattle.kb_assembly.specs.Mnemonic.{name_of, mnemonic_of, space_of}
use Rattle.kb_assembly.specs.Names.{after_hash, needs_quotes, found, short, label_named, label_name, name_in, is_number, chosen}
use Rattle.kb_assembly.specs.Line.{bare, written_name, written_word, written_operand, written}
use Rattle.kb_assembly.specs.Targets.{is_target}
use Rattle.kb_assembly.specs.Code.{Part, no_part, label_part, instr_part, part_of, noted, behind, labels_of, in_line, part_read}
use Rattle.kb_assembly.specs.Code.{instrs_of, with_labels, assembled, made_here, next_line, made}
use Rattle.kb_assembly.specs.Code.{label_line, label_lines, lines_from, lines_of, has_room}
use Rattle.kb_assembly.specs.Text.{is_feed, line_len, words_from, line_taken, lines_in, indent_of, row, text_of, are_utf8}
use Rattle.kb_assembly.proofs.ScanLemmas.{parts_of_and, not_true, plain_utf8, text_is_read}

-- ---- lines of a text, one step at a time

pub line_end : (bytes : List ℕ) (at : ℕ) → at < length bytes → (get_or bytes at 0 == 10) ≡ true
    → line_len (drop at bytes) ≡ 0
line_end bytes at l e = rw (drop_more bytes at 0 l, e) refl

pub line_more : (bytes : List ℕ) (at : ℕ) → at < length bytes → (get_or bytes at 0 == 10) ≡ false
    → line_len (drop at bytes) ≡ 1 + line_len (drop (at + 1) bytes)
line_more bytes at l e = rw (drop_more bytes at 0 l, e) refl

pub line_none : (bytes : List ℕ) (at : ℕ) → length bytes ≤ at → line_len (drop at bytes) ≡ 0
line_none bytes at l = rw drop_all refl

pub ruleset line_steps = (line_end, line_more, line_none)

-- the first line, and those behind it
abbrev Cut : List ℕ → Type 0
Cut text = line_len text < length text →
    slice_split is_feed text ≡ take (line_len text) text ∷ slice_split is_feed (drop (line_len text + 1) text)

pub cut_more : (text : List ℕ) → Cut text
cut_more [] less = absurd (omega (arith, less))
cut_more (b ∷ bs) less = by (is_feed b) less (cut_more bs) where
  by : (t : Bool) → cond (not t) (1 + line_len bs) 0 < suc (length bs) → Cut bs →
      cond t ([] ∷ slice_split is_feed bs) (onto_first b (slice_split is_feed bs))
      ≡ take (cond (not t) (1 + line_len bs) 0) (b ∷ bs) ∷ slice_split is_feed (drop (cond (not t) (1 + line_len bs) 0 + 1) (b ∷ bs))
  by true less rest = refl
  by false less rest =
      let n = line_len bs in
      let one : 1 + n ≡ suc n = omega arith in
      let two : 1 + n + 1 ≡ suc (n + 1) = omega arith in
      ap (onto_first b) (rest (omega (arith, less)))
      ∙ sym (ap (λ k. take k (b ∷ bs) ∷ slice_split is_feed (drop (1 + n + 1) (b ∷ bs))) one
      ∙ ap (λ k. (b ∷ take n bs) ∷ slice_split is_feed (drop k (b ∷ bs))) two)

abbrev Last : List ℕ → Type 0
Last text = length text ≤ line_len text → slice_split is_feed text ≡ text ∷ []

pub cut_last : (text : List ℕ) → Last text
cut_last [] more = refl
cut_last (b ∷ bs) more = by (is_feed b) more (cut_last bs) where
  by : (t : Bool) → suc (length bs) ≤ cond (not t) (1 + line_len bs) 0 → Last bs →
      cond t ([] ∷ slice_split is_feed bs) (onto_first b (slice_split is_feed bs)) ≡ (b ∷ bs) ∷ []
  by true more rest = absurd (omega (arith, more))
  by false more rest = ap (onto_first b) (rest (omega (arith, more)))

pub words_more : (done : List (List Word)) (words : List Word) (line : ℕ) (rest : List (List ℕ)) (r : Result (List Word) TextFault) →
    r ≡ Ok words →
    seen (λ more. done ++ more) (r >>= λ words. seen (λ more. words ∷ more) (words_from (line + 1) rest))
    ≡ seen (λ more. (done ++ words ∷ []) ++ more) (words_from (line + 1) rest)
words_more done words line rest r e =
    ap (λ r. seen (λ more. done ++ more) (r >>= λ words. seen (λ more. words ∷ more) (words_from (line + 1) rest))) e
    ∙ by (words_from (line + 1) rest) where
      by : (r : Result (List (List Word)) TextFault) →
          seen (λ more. done ++ more) (seen (λ more. words ∷ more) r) ≡ seen (λ more. (done ++ words ∷ []) ++ more) r
      by (Ok more) = ap (λ xs. Ok xs) (sym (append_assoc done (words ∷ []) more))
      by (Err fault) = refl

taken : (done new : List (List Word)) (r : Result (List Word) TextFault) →
    seen (λ words. done ++ words ∷ []) r ≡ Ok new → (words : List Word) × (r ≡ Ok words) × (new ≡ done ++ words ∷ [])
taken done new (Ok words) e = let s : done ++ words ∷ [] ≡ new = cc in (words, refl, sym s)
taken done new (Err fault) e = absurd (cc)

abbrev pub Told : List ℕ → List (List Word) → List ℕ → Type 0
Told all done left = lines_in all ≡ seen (λ more. done ++ more) (words_from (length done) (slice_split is_feed left))

pub cut_step : (all : List ℕ) (done new : List (List Word)) (left : List ℕ) (end : ℕ) →
    end ≡ line_len left → end < length left → Told all done left → line_taken done (take end left) ≡ Ok new →
    Told all new (take (length left - (end + 1)) (drop (end + 1) left))
cut_step all done new left end is less told read =
    let less' : line_len left < length left = omega (arith, less, is) in
    let rest = slice_split is_feed (drop (end + 1) left) in
    let p = taken done new (in_line (length done) (words_of (take end left))) read in
    let words = p.0 in
    let size : length done + 1 ≡ length new = sym (ap length p.2 ∙ length-append done (words ∷ [])) in
    told
    ∙ ap (λ lines. seen (λ more. done ++ more) (words_from (length done) lines))
    (cut_more left less' ∙ ap (λ n. take n left ∷ slice_split is_feed (drop (n + 1) left)) (sym is))
    ∙ words_more done words (length done) rest (in_line (length done) (words_of (take end left))) p.1
    ∙ ap (λ n. seen (λ more. (done ++ words ∷ []) ++ more) (words_from n rest)) size
    ∙ ap (λ xs. seen (λ more. xs ++ more) (words_from (length new) rest)) (sym p.2)
    ∙ ap (λ bytes. seen (λ more. new ++ more) (words_from (length new) (slice_split is_feed bytes))) (sym (take_rest left (end + 1)))

pub cut_end : (all : List ℕ) (done new : List (List Word)) (left : List ℕ) (end : ℕ) →
    end ≡ line_len left → length left ≤ end → Told all done left → line_taken done left ≡ Ok new → lines_in all ≡ Ok new
cut_end all done new left end is more told read =
    let p = taken done new (in_line (length done) (words_of left)) read in
    told
    ∙ ap (λ lines. seen (λ more. done ++ more) (words_from (length done) lines)) (cut_last left (omega (arith, more, is)))
    ∙ words_more done p.0 (length done) [] (in_line (length done) (words_of left)) p.1
    ∙ ap (λ xs. Ok xs) (append-nil (done ++ p.0 ∷ []) ∙ sym p.2)

refused : (r : Result (List Word) TextFault) (done : List (List Word)) (fault : TextFault) →
    seen (λ words. done ++ words ∷ []) r ≡ Err fault → r ≡ Err fault
refused (Ok words) done fault e = absurd (cc)
refused (Err f) done fault e = let s : f ≡ fault = cc in ap (λ f. Err f) s

fails_too : (failure : Failure TextFault) (r : Result (List (List Word)) TextFault) (all : Result (List (List Word)) TextFault) →
    Fails failure r → ((fault : TextFault) → r ≡ Err fault → all ≡ Err fault) → Fails failure all
fails_too NoMemory r all e rest = tt
fails_too (Fault fault) r all e rest = rest fault e

pub cut_fault : (all : List ℕ) (done : List (List Word)) (left : List ℕ) (end : ℕ) (failure : Failure TextFault) →
    end ≡ line_len left → end < length left → Told all done left →
    Fails failure (line_taken done (take end left)) → Fails failure (lines_in all)
cut_fault all done left end failure is less told failed = fails_too failure (line_taken done (take end left)) (lines_in all) failed
    (λ fault e.
    let less' : line_len left < length left = omega (arith, less, is) in
    let rest = slice_split is_feed (drop (end + 1) left) in
    told
    ∙ ap (λ lines. seen (λ more. done ++ more) (words_from (length done) lines))
    (cut_more left less' ∙ ap (λ n. take n left ∷ slice_split is_feed (drop (n + 1) left)) (sym is))
    ∙ ap (λ r. seen (λ more. done ++ more) (r >>= λ words. seen (λ more. words ∷ more) (words_from (length done + 1) rest)))
    (refused (in_line (length done) (words_of (take end left))) done fault e))

pub last_fault : (all : List ℕ) (done : List (List Word)) (left : List ℕ) (end : ℕ) (failure : Failure TextFault) →
    end ≡ line_len left → length left ≤ end → Told all done left →
    Fails failure (line_taken done left) → Fails failure (lines_in all)
last_fault all done left end failure is more told failed = fails_too failure (line_taken done left) (lines_in all) failed
    (λ fault e.
    told
    ∙ ap (λ lines. seen (λ more. done ++ more) (words_from (length done) lines)) (cut_last left (omega (arith, more, is)))
    ∙ ap (λ r. seen (λ more. done ++ more) (r >>= λ words. seen (λ more. words ∷ more) (words_from (length done + 1) [])))
    (refused (in_line (length done) (words_of left)) done fault e))

shorter : (left : List ℕ) (k : ℕ) → length (take (length left - k) (drop k left)) ≤ length left
shorter left k = rw (take_rest left k) (let e = length-drop k left in omega (arith, e))

pub within_more : (left all : List ℕ) (k : ℕ) → length left ≤ length all →
    length (take (length left - k) (drop k left)) ≤ length all
within_more left all k within = let a = shorter left k in omega (arith, a, within)

pub told_first : (all : List ℕ) (none : List (List Word)) → none ≡ [] → Told all none all
told_first all none e = subst (λ none. Told all none all) (sym e) (by (lines_in all)) where
  by : (r : Result (List (List Word)) TextFault) → r ≡ seen (λ more. [] ++ more) r
  by (Ok more) = refl
  by (Err fault) = refl

-- ---- what can stand as a word is read as it

body_of : (text : List ℕ) → IsBody (flat_map written_byte text) text
body_of [] = no_bytes
body_of (b ∷ text) =
    by (b == quote) refl (b == backslash) refl (b == 10) refl (b == 13) refl (b == 9) refl (body_of text) where
      rest : List ℕ
      rest = flat_map written_byte text

      escaped_by : (c k : ℕ) → IsBody (backslash ∷ c ∷ rest) (k ∷ text) → (b == k) ≡ true → IsBody (backslash ∷ c ∷ rest) (b ∷ text)
      escaped_by c k body e = subst (λ d. IsBody (backslash ∷ c ∷ rest) (d ∷ text)) (sym ((Decides-eqb b k).0 e)) body

      by : (v : Bool) → (b == quote) ≡ v → (w : Bool) → (b == backslash) ≡ w → (x : Bool) → (b == 10) ≡ x →
          (y : Bool) → (b == 13) ≡ y → (z : Bool) → (b == 9) ≡ z → IsBody rest text →
          IsBody ((if v then backslash ∷ quote ∷ [] else if w then backslash ∷ backslash ∷ [] else if x then backslash ∷ 110 ∷ []
          else if y then backslash ∷ 114 ∷ [] else if z then backslash ∷ 116 ∷ [] else b ∷ []) ++ rest) (b ∷ text)
      by true v w _ x _ y _ z _ more = escaped_by quote quote (escape_bytes refl more) v
      by false v true w x _ y _ z _ more = escaped_by backslash backslash (escape_bytes refl more) w
      by false v false w true x y _ z _ more = escaped_by 110 10 (escape_bytes refl more) x
      by false v false w false x true y z _ more = escaped_by 114 13 (escape_bytes refl more) y
      by false v false w false x false y true z more = escaped_by 116 9 (escape_bytes refl more) z
      by false v false w false x false y false z more = plain_byte v w more

some_length : (text : List ℕ) → not (length text == 0) ≡ true → 0 < length text
some_length [] e = absurd (false≢true e)
some_length (b ∷ text) e = omega arith

word_is : (word : Word) → can_stand word ≡ true → IsWord (written_text word) word
word_is word e = by word.is_quoted refl e where
  by : (q : Bool) → word.is_quoted ≡ q →
      (if q then is_utf8 word.text else not (length word.text == 0) && list_all is_plain word.text) ≡ true →
      IsWord (if q then quote ∷ flat_map written_byte word.text ++ quote ∷ [] else word.text) word
  by true is e =
      subst (λ q. IsWord (quote ∷ flat_map written_byte word.text ++ quote ∷ []) (record { is_quoted = q; text = word.text }))
      (sym is) (quoted_word (body_of word.text) e)
  by false is e =
      let p = parts_of_and (not (length word.text == 0)) (list_all is_plain word.text) e in
      subst (λ q. IsWord word.text (record { is_quoted = q; text = word.text })) (sym is)
      (bare_word (some_length word.text p.0) p.1)

line_is : (words : List Word) → list_all can_stand words ≡ true → IsText (written_line words) words
line_is [] e = no_text
line_is (word ∷ []) e = word_text (word_is word (parts_of_and (can_stand word) true e).0) refl no_text
line_is (word ∷ other ∷ words) e =
    let p = parts_of_and (can_stand word) (list_all can_stand (other ∷ words)) e in
    word_text (word_is word p.0) refl (blank_text refl (line_is (other ∷ words) p.1))

row_is : (words : List Word) → list_all can_stand words ≡ true → IsText (row words) words
row_is words e = by (part_of words) where
  by : (part : Part) → IsText (indent_of part ++ written_line words) words
  by no_part = line_is words e
  by (label_part name) = line_is words e
  by instr_part = blank_text refl (blank_text refl (blank_text refl (blank_text refl (line_is words e))))

-- ---- no line feed is in a line

abbrev no_feed : ℕ → Bool
no_feed b = not (is_feed b)

all_append : (p : ℕ → Bool) (xs ys : List ℕ) → list_all p xs ≡ true → list_all p ys ≡ true → list_all p (xs ++ ys) ≡ true
all_append p [] ys e f = f
all_append p (x ∷ xs) ys e f =
    let q = parts_of_and (p x) (list_all p xs) e in
    ap (λ b. b && list_all p (xs ++ ys)) q.0 ∙ all_append p xs ys q.1 f

plain_no_feed : (b : ℕ) → is_plain b ≡ true → no_feed b ≡ true
plain_no_feed b e =
    let p = parts_of_and (nat_lt 32 b && nat_lt b 127 && not (b == quote)) (not (b == semicolon)) e in
    let q = parts_of_and (nat_lt 32 b && nat_lt b 127) (not (b == quote)) p.0 in
    let r = parts_of_and (nat_lt 32 b) (nat_lt b 127) q.0 in
    let more : 32 < b = ltb-true 32 b r.0 in
    ap not (ne_eqb b 10 (λ e. omega (arith, more, e)))

plain_all : (text : List ℕ) → list_all is_plain text ≡ true → list_all no_feed text ≡ true
plain_all [] e = refl
plain_all (b ∷ text) e =
    let p = parts_of_and (is_plain b) (list_all is_plain text) e in
    ap (λ q. q && list_all no_feed text) (plain_no_feed b p.0) ∙ plain_all text p.1

byte_no_feed : (b : ℕ) → list_all no_feed (written_byte b) ≡ true
byte_no_feed b = by (b == quote) (b == backslash) (b == 10) refl (b == 13) (b == 9) where
  by : (v w x : Bool) → (b == 10) ≡ x → (y z : Bool) →
      list_all no_feed (if v then backslash ∷ quote ∷ [] else if w then backslash ∷ backslash ∷ [] else if x then backslash ∷ 110 ∷ []
      else if y then backslash ∷ 114 ∷ [] else if z then backslash ∷ 116 ∷ [] else b ∷ []) ≡ true
  by true w x e y z = refl
  by false true x e y z = refl
  by false false true e y z = refl
  by false false false e true z = refl
  by false false false e false true = refl
  by false false false e false false = ap (λ q. not q && true) e

body_no_feed : (text : List ℕ) → list_all no_feed (flat_map written_byte text) ≡ true
body_no_feed [] = refl
body_no_feed (b ∷ text) = all_append no_feed (written_byte b) (flat_map written_byte text) (byte_no_feed b) (body_no_feed text)

word_no_feed : (word : Word) → can_stand word ≡ true → list_all no_feed (written_text word) ≡ true
word_no_feed word e = by word.is_quoted e where
  by : (q : Bool) → (if q then is_utf8 word.text else not (length word.text == 0) && list_all is_plain word.text) ≡ true →
      list_all no_feed (if q then quote ∷ flat_map written_byte word.text ++ quote ∷ [] else word.text) ≡ true
  by true e = all_append no_feed (flat_map written_byte word.text) (quote ∷ []) (body_no_feed word.text) refl
  by false e = plain_all word.text (parts_of_and (not (length word.text == 0)) (list_all is_plain word.text) e).1

gap_no_feed : (words : List Word) → list_all no_feed (gap words) ≡ true
gap_no_feed [] = refl
gap_no_feed (word ∷ words) = refl

line_no_feed : (words : List Word) → list_all can_stand words ≡ true → list_all no_feed (written_line words) ≡ true
line_no_feed [] e = refl
line_no_feed (word ∷ words) e =
    let p = parts_of_and (can_stand word) (list_all can_stand words) e in
    all_append no_feed (written_text word) (gap words ++ written_line words) (word_no_feed word p.0)
    (all_append no_feed (gap words) (written_line words) (gap_no_feed words) (line_no_feed words p.1))

row_no_feed : (words : List Word) → list_all can_stand words ≡ true → list_all no_feed (row words) ≡ true
row_no_feed words e = by (part_of words) where
  by : (part : Part) → list_all no_feed (indent_of part ++ written_line words) ≡ true
  by no_part = line_no_feed words e
  by (label_part name) = line_no_feed words e
  by instr_part = line_no_feed words e

-- ---- the lines of a text

split_at : (xs ys : List ℕ) → list_all no_feed xs ≡ true → slice_split is_feed (xs ++ 10 ∷ ys) ≡ xs ∷ slice_split is_feed ys
split_at [] ys e = refl
split_at (x ∷ xs) ys e =
    let p = parts_of_and (no_feed x) (list_all no_feed xs) e in
    ap (λ t. cond t ([] ∷ slice_split is_feed (xs ++ 10 ∷ ys)) (onto_first x (slice_split is_feed (xs ++ 10 ∷ ys))))
    (not_true (is_feed x) p.0)
    ∙ ap (onto_first x) (split_at xs ys p.1)

abbrev pub all_stand : List (List Word) → Bool
all_stand lines = list_all (list_all can_stand) lines

rows_split : (lines : List (List Word)) → all_stand lines ≡ true →
    slice_split is_feed (text_of lines) ≡ map row lines ++ [] ∷ []
rows_split [] e = refl
rows_split (words ∷ lines) e =
    let p = parts_of_and (list_all can_stand words) (all_stand lines) e in
    ap (slice_split is_feed) (append_assoc (row words) (10 ∷ []) (text_of lines))
    ∙ split_at (row words) (text_of lines) (row_no_feed words p.0)
    ∙ ap (λ rest. row words ∷ rest) (rows_split lines p.1)

row_read : (words : List Word) → list_all can_stand words ≡ true → words_of (row words) ≡ Ok words
row_read words e = text_is_read (row words) words (row_is words e)

rows_read : (line : ℕ) (lines : List (List Word)) → all_stand lines ≡ true →
    words_from line (map row lines ++ [] ∷ []) ≡ Ok (lines ++ [] ∷ [])
rows_read line [] e = ap (λ r. in_line line r >>= λ words. Ok (words ∷ [])) (text_is_read [] [] no_text)
rows_read line (words ∷ lines) e =
    let p = parts_of_and (list_all can_stand words) (all_stand lines) e in
    ap (λ r. in_line line r >>= λ words. seen (λ more. words ∷ more) (words_from (line + 1) (map row lines ++ [] ∷ [])))
    (row_read words p.0)
    ∙ ap (seen (λ more. words ∷ more)) (rows_read (line + 1) lines p.1)

pub lines_read : (lines : List (List Word)) → all_stand lines ≡ true → lines_in (text_of lines) ≡ Ok (lines ++ [] ∷ [])
lines_read lines e = ap (words_from 0) (rows_split lines e) ∙ rows_read 0 lines e

-- ---- the words of code can stand

glyph_plain : (n : ℕ) → n < 10 → is_plain (48 + n) ≡ true
glyph_plain n less =
    let low : nat_lt 32 (48 + n) ≡ true = lt-ltb 32 (48 + n) (omega arith) in
    let high : nat_lt (48 + n) 127 ≡ true = lt-ltb (48 + n) 127 (omega (arith, less)) in
    let q : ((48 + n) == quote) ≡ false = ne_eqb (48 + n) quote (λ e. omega (arith, e)) in
    let s : ((48 + n) == semicolon) ≡ false = ne_eqb (48 + n) semicolon (λ e. omega (arith, e, less)) in
    ap (λ b. b && nat_lt (48 + n) 127 && not ((48 + n) == quote) && not ((48 + n) == semicolon)) low
    ∙ ap (λ b. true && b && not ((48 + n) == quote) && not ((48 + n) == semicolon)) high
    ∙ ap (λ b. true && true && not b && not ((48 + n) == semicolon)) q
    ∙ ap (λ b. true && true && true && not b) s

all_last : (p : ℕ → Bool) (x : ℕ) → p x ≡ true → list_all p (x ∷ []) ≡ true
all_last p x e = ap (λ b. b && true) e

decimal_plain : (n : ℕ) → n < 2 ^ 64 → list_all is_plain (decimal n) ≡ true
decimal_plain n few = decimal_by_steps (λ n ds. list_all is_plain ds ≡ true)
    (λ n less. all_last is_plain (48 + n) (glyph_plain n less))
    (λ n ds more e. all_append is_plain ds ((48 + n % 10) ∷ []) e (all_last is_plain (48 + n % 10) (glyph_plain (n % 10) (omega arith))))
    n few

some_decimal : (n : ℕ) → n < 2 ^ 64 → not (length (decimal n) == 0) ≡ true
some_decimal n few = let some = decimal_nonempty n few in ap not (ne_eqb (length (decimal n)) 0 (λ e. omega (arith, some, e)))

pub decimal_stands : (n : ℕ) → n < 2 ^ 64 → can_stand (bare (decimal n)) ≡ true
decimal_stands n few = ap (λ b. b && list_all is_plain (decimal n)) (some_decimal n few) ∙ decimal_plain n few

some_bytes : (b : ℕ) (text : List ℕ) → not (length (b ∷ text) == 0) ≡ true
some_bytes b text = ap not (ne_eqb (suc (length text)) 0 (λ e. omega (arith, e)))

hash_stands : (n : ℕ) → n < 2 ^ 64 → can_stand (bare (35 ∷ decimal n)) ≡ true
hash_stands n few =
    ap (λ b. b && list_all is_plain (35 ∷ decimal n)) (some_bytes 35 (decimal n)) ∙ decimal_plain n few

label_plain : (place : ℕ) → place < 2 ^ 64 → list_all is_plain (label_name place) ≡ true
label_plain place few = decimal_plain place few

label_stands : (place : ℕ) → place < 2 ^ 64 → list_all can_stand (label_line place) ≡ true
label_stands place few =
    all_list (bare (label_name place ++ 58 ∷ []))
    (ap (λ b. b && list_all is_plain (label_name place ++ 58 ∷ [])) (some_bytes 76 (decimal place ++ 58 ∷ []))
    ∙ all_append is_plain (decimal place) (58 ∷ []) (decimal_plain place few) refl)
  where
    all_list : (w : Word) → can_stand w ≡ true → list_all can_stand (w ∷ []) ≡ true
    all_list w e = ap (λ b. b && true) e

-- each name is UTF-8
pub record AreTexts (names : Names) : Type 0 where
  pub texts : are_utf8 names.texts ≡ true
  pub calls : are_utf8 names.calls ≡ true
  pub params : are_utf8 names.params ≡ true
  pub labels : list_all (λ label. is_utf8 label.name) names.labels ≡ true

pub both_of : (a b : Bool) → a && b ≡ true → (a ≡ true) × (b ≡ true)
both_of true b h = (refl, h)
both_of false b h = absurd (false≢true h)

text_at : (texts : List (List ℕ)) (n : ℕ) (text : List ℕ) → are_utf8 texts ≡ true → slice_get texts n ≡ Some text →
    is_utf8 text ≡ true
text_at [] n text e at = absurd (cc)
text_at (x ∷ texts) zero text e at =
    let s : x ≡ text = cc in ap is_utf8 (sym s) ∙ (both_of (is_utf8 x) (are_utf8 texts) e).0
text_at (x ∷ texts) (suc n) text e at = text_at texts n text (both_of (is_utf8 x) (are_utf8 texts) e).1 at

label_text : (labels : List Label) (key text : List ℕ) → list_all (λ label. is_utf8 label.name) labels ≡ true →
    option_map (λ label. label.name) (label_named labels key) ≡ Some text → is_utf8 text ≡ true
label_text [] key text e at = absurd (cc)
label_text (x ∷ labels) key text e at =
    let p = both_of (is_utf8 x.name) (list_all (λ label. is_utf8 label.name) labels) e in
    by (bytes_eq x.name key) at p.0 (label_text labels key text p.1) where
      by : (b : Bool) → option_map (λ label. label.name) (cond b (Some x) (label_named labels key)) ≡ Some text →
          is_utf8 x.name ≡ true →
          (option_map (λ label. label.name) (label_named labels key) ≡ Some text → is_utf8 text ≡ true) → is_utf8 text ≡ true
      by true at here rest = let s : x.name ≡ text = cc in ap is_utf8 (sym s) ∙ here
      by false at here rest = rest at

name_at : (names : Names) (kind : Space) (n : ℕ) (name : List ℕ) → AreTexts names → name_in names kind n ≡ Some name →
    is_utf8 name ≡ true
name_at names space.Nothing n name are at = absurd (cc)
name_at names space.Number n name are at = absurd (cc)
name_at names space.Texts n name are at = text_at names.texts n name are.texts at
name_at names space.Keys n name are at = text_at names.texts n name are.texts at
name_at names space.Calls n name are at = text_at names.calls n name are.calls at
name_at names space.Params n name are at = text_at names.params n name are.params at
name_at names space.Labels n name are at = label_text names.labels (label_name n) name are.labels at

chosen_text : (names : Names) (kind : Space) (n : ℕ) (name : List ℕ) → AreTexts names → chosen names kind n ≡ Some name →
    is_utf8 name ≡ true
chosen_text names kind n name are e = by (name_in names kind n) refl e where
  test : (x : List ℕ) (b : Bool) → (if b then Some x else None) ≡ Some name → x ≡ name
  test x true e = cc
  test x false e = absurd (cc)

  by : (o : Option (List ℕ)) → name_in names kind n ≡ o →
      option_and_then (λ name. if is_number (short (found names kind name)) n then Some name else None) o ≡ Some name →
      is_utf8 name ≡ true
  by None is e = absurd (cc)
  by (Some x) is e =
      let s : x ≡ name = test x (is_number (short (found names kind x)) n) e in
      ap is_utf8 (sym s) ∙ name_at names kind n x are is

pub name_stands : (kind : Space) (name : List ℕ) → is_utf8 name ≡ true → can_stand (written_name kind name) ≡ true
name_stands kind name utf8 = by (needs_quotes kind) (not (length name == 0)) (list_all is_plain name) (is_some (after_hash name)) where
  by : (q a b o : Bool) → (if q || not (a && b && not o) then is_utf8 name else a && b) ≡ true
  by true a b o = utf8
  by false true true true = utf8
  by false true true false = refl
  by false true false o = utf8
  by false false b o = utf8

word_stands : (names : Names) (kind : Space) (n : ℕ) → n < 2 ^ 64 → AreTexts names →
    can_stand (written_word kind n (chosen names kind n)) ≡ true
word_stands names kind n few are = by (chosen names kind n) refl where
  by : (o : Option (List ℕ)) → chosen names kind n ≡ o → can_stand (written_word kind n o) ≡ true
  by (Some name) is = name_stands kind name (chosen_text names kind n name are is)
  by None is = hash_stands n few

pub one_stands : (w : Word) → can_stand w ≡ true → list_all can_stand (w ∷ []) ≡ true
one_stands w e = ap (λ b. b && true) e

operand_stands : (names : Names) (kind : Space) (n : ℕ) → n < 2 ^ 64 → AreTexts names →
    list_all can_stand (written_operand names kind n) ≡ true
operand_stands names space.Nothing n few are = refl
operand_stands names space.Number n few are = one_stands (bare (decimal n)) (decimal_stands n few)
operand_stands names space.Texts n few are = one_stands (written_word space.Texts n (chosen names space.Texts n)) (word_stands names space.Texts n few are)
operand_stands names space.Keys n few are = one_stands (written_word space.Keys n (chosen names space.Keys n)) (word_stands names space.Keys n few are)
operand_stands names space.Calls n few are = one_stands (written_word space.Calls n (chosen names space.Calls n)) (word_stands names space.Calls n few are)
operand_stands names space.Params n few are = one_stands (written_word space.Params n (chosen names space.Params n)) (word_stands names space.Params n few are)
operand_stands names space.Labels n few are = one_stands (written_word space.Labels n (chosen names space.Labels n)) (word_stands names space.Labels n few are)

first_stands : (mnemonic : Mnemonic) → can_stand (bare (name_of mnemonic)) ≡ true
first_stands m.Return = refl
first_stands m.Text = refl
first_stands m.Num = refl
first_stands m.False = refl
first_stands m.True = refl
first_stands m.Arg = refl
first_stands m.Drop = refl
first_stands m.Dup = refl
first_stands m.Swap = refl
first_stands m.Add = refl
first_stands m.Sub = refl
first_stands m.Less = refl
first_stands m.Same = refl
first_stands m.Not = refl
first_stands m.Join = refl
first_stands m.Show = refl
first_stands m.Size = refl
first_stands m.IsTrue = refl
first_stands m.Number = refl
first_stands m.Jump = refl
first_stands m.JumpIfFalse = refl
first_stands m.Call = refl
first_stands m.Context = refl
first_stands m.Before = refl
first_stands m.After = refl
first_stands m.Repeat = refl
first_stands m.End = refl

written_stands : (names : Names) (instr : Instr) → operand_of instr < 2 ^ 64 → AreTexts names →
    list_all can_stand (written names instr) ≡ true
written_stands names instr few are =
    ap (λ b. b && list_all can_stand (written_operand names (space_of (mnemonic_of instr)) (operand_of instr)))
    (first_stands (mnemonic_of instr))
    ∙ operand_stands names (space_of (mnemonic_of instr)) (operand_of instr) few are

pub all_words : (p : List Word → Bool) (xs ys : List (List Word)) → list_all p xs ≡ true → list_all p ys ≡ true →
    list_all p (xs ++ ys) ≡ true
all_words p [] ys e f = f
all_words p (x ∷ xs) ys e f =
    let q = both_of (p x) (list_all p xs) e in
    ap (λ b. b && list_all p (xs ++ ys)) q.0 ∙ all_words p xs ys q.1 f

labels_stand : (t : Bool) (place : ℕ) → place < 2 ^ 64 → all_stand (label_lines t place) ≡ true
labels_stand true place few = ap (λ b. b && true) (label_stands place few)
labels_stand false place few = refl

pub lines_stand : (code : List Instr) (names : Names) (place : ℕ) (rest : List Instr) → place + length rest < 2 ^ 64 →
    list_all has_room rest ≡ true → AreTexts names → all_stand (lines_from code names place rest) ≡ true
lines_stand code names place [] few room are = labels_stand (is_target code place) place (omega (arith, few))
lines_stand code names place (x ∷ rest) few room are =
    let p = both_of (has_room x) (list_all has_room rest) room in
    let small : operand_of x < 65536 = ltb-true (operand_of x) 65536 p.0 in
    all_words (list_all can_stand) (label_lines (is_target code place) place)
    (written names x ∷ lines_from code names (place + 1) rest)
    (labels_stand (is_target code place) place (omega (arith, few)))
    (ap (λ b. b && all_stand (lines_from code names (place + 1) rest)) (written_stands names x (omega (arith, small)) are)
    ∙ lines_stand code names (place + 1) rest (omega (arith, few)) p.1 are)

all_labels : (p : Label → Bool) (xs ys : List Label) → list_all p xs ≡ true → list_all p ys ≡ true → list_all p (xs ++ ys) ≡ true
all_labels p [] ys e f = f
all_labels p (x ∷ xs) ys e f =
    let q = both_of (p x) (list_all p xs) e in
    ap (λ b. b && list_all p (xs ++ ys)) q.0 ∙ all_labels p xs ys q.1 f

here_texts : (t : Bool) (line place : ℕ) → place < 2 ^ 64 →
    list_all (λ label. is_utf8 label.name) (made_here t line place) ≡ true
here_texts true line place few = ap (λ b. b && true) (plain_utf8 (label_name place) (label_plain place few))
here_texts false line place few = refl

pub made_texts : (code : List Instr) (line place : ℕ) (rest : List Instr) → place + length rest < 2 ^ 64 →
    list_all (λ label. is_utf8 label.name) (made code line place rest) ≡ true
made_texts code line place [] few = here_texts (is_target code place) line place (omega (arith, few))
made_texts code line place (x ∷ rest) few =
    let t = is_target code place in
    all_labels (λ label. is_utf8 label.name) (made_here t line place) (made code (next_line t line + 1) (place + 1) rest)
    (here_texts t line place (omega (arith, few)))
    (made_texts code (next_line t line + 1) (place + 1) rest (omega (arith, few)))
