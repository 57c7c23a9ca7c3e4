-- Each step of the pass keeps its invariant.
use Rattle.std.proofs.Common.{◌≡◌, ◌≢◌, ℕ, zero, lit<, ◌+◌, ◌-◌, ◌<◌, ◌≤◌, suc, Bool, true, false, ◌&&◌}
use Rattle.std.proofs.Common.{List, [], ◌∷◌, ◌++◌, length, get_or, set, take, drop, map, Option, Some, None}
use Rattle.std.proofs.Common.{IfSome, Ok, Err, refl, sym, ap, ◌∙◌, arith, eqb}
use Rattle.std.specs.Str.{IsUtf8, IsAscii}
use Rattle.std.proofs.lemmas.Bool.{ne_eqb}
use Rattle.std.proofs.lemmas.Bool.Decides.{nat_tests}
use Rattle.std.proofs.lemmas.Str.{IsUtf8-take, IsUtf8-drop, IsUtf8-append, IsUtf8-from_ascii}
use Rattle.std.proofs.lemmas.Str.{IsCharBoundary-before_ascii, IsCharBoundary-after_ascii}
use Rattle.std.proofs.lemmas.Str.Ascii.{IsAscii-cons, IsAscii-nil}
use Rattle.std.proofs.lemmas.List.{append-nil, take_more, drop_all, drop-drop, take_all, length-take-le}
use Rattle.std.proofs.lemmas.List.{length-drop, set_split, get_or-drop, get_or-take, drop-set-lt, length-set}
use Rattle.std.proofs.lemmas.List.{length-map, length-append, set-append_left, get_or_append_left}
use Rattle.std.proofs.Math.Seq.{take-set-lt, take-add}
use Rattle.std.proofs.lemmas.Slice.{take-put_mid, drop-put_mid}
use borrow.Rule.Slice.PartMut.{put_mid}
use Rattle.kb_jsonc.specs.declared.fault.JsoncFault.{JsoncFault}
use Rattle.kb_jsonc.specs.declared.fault.JsoncFault.TheVariants.{OpenString}
use Rattle.kb_jsonc.specs.declared.scan.Scan.{Scan}
use Rattle.kb_base.specs.Blank.{is_blank}
use Rattle.kb_jsonc.specs.Bytes.{space, comma, blanked, closes, ends_value}
use Rattle.kb_jsonc.specs.Pieces.{Piece, quoted, comment, single, bytes_of, string_len, first_of}
use Rattle.kb_jsonc.specs.Pieces.{OpensComment}
use Rattle.kb_jsonc.specs.Text.{plain_text}
use Rattle.kb_jsonc.specs.Scan.{continued, whole_of, settled, outcome, StandsIn, GoesOn, IsOrdinary}
use Rattle.kb_jsonc.proofs.ScanLemmas.{continued_more, continued_fault, after_quoted, after_comment}
use Rattle.kb_jsonc.proofs.ScanLemmas.{after_blank, after_closing, after_single, after_comma}
use Rattle.kb_jsonc.proofs.PiecesLemmas.{first_quoted, first_open_string, first_single}

-- the pass begins, ends and fails with the plain text

pub stands_first : (bytes : List ℕ) → IsUtf8 bytes
    → StandsIn bytes (record { at = 0; before = None; comma = None })
stands_first bytes u = record { within = omega arith; waits = tt; utf8 = u }

pub outcome_first : (bytes : List ℕ)
    → outcome bytes (record { at = 0; before = None; comma = None }) ≡ plain_text bytes
unfolding continued plain_text
outcome_first bytes = refl

settled_end : (done : List ℕ) (mark : Option ℕ) → settled done mark None ≡ done
settled_end done None = refl
settled_end done (Some place) = refl

pub outcome_last : (bytes : List ℕ) (scan : Scan) → length bytes ≤ scan.at → outcome bytes scan ≡ Ok bytes
unfolding continued
outcome_last bytes scan l =
    rw (drop_all scan.at bytes l, take_all scan.at bytes l)
    (ap Ok (append-nil (settled bytes scan.comma None) ∙ settled_end bytes scan.comma))

pub outcome_fault : (bytes : List ℕ) (scan : Scan) (fault : JsoncFault) → scan.at < length bytes
    → first_of (drop scan.at bytes) ≡ Err fault → outcome bytes scan ≡ Err fault
outcome_fault bytes scan fault l e =
    continued_fault (take scan.at bytes) scan.comma scan.before (drop scan.at bytes) fault e
    (rw length-drop (omega arith))

-- the first byte of what follows

pub first_at : (now : List ℕ) (at : ℕ) → get_or (drop at now) 0 0 ≡ get_or now at 0
first_at now at = get_or-drop at now 0 0 ∙ ap (λ i. get_or now i 0) (omega arith)

pub single_at : (now : List ℕ) (at : ℕ) → get_or now at 0 ≢ 34 → get_or now at 0 ≢ 47
    → first_of (drop at now) ≡ Ok (single (get_or now at 0))
single_at now at q s =
    let e = first_at now at in
    first_single (drop at now) (rw e q) (rw e s) ∙ ap (λ b. Ok (single b)) e

-- the comma that waits

waits_take : (now : List ℕ) (at : ℕ) (mark : Option ℕ) → at ≤ length now
    → IfSome mark (λ place. (place < at) × (get_or now place 0 ≡ comma))
    → IfSome mark (λ place. place < length (take at now))
waits_take now at None l m = tt
waits_take now at (Some place) l m = rw (length-take-le at now l) m.0

waits_on : (now now' : List ℕ) (at n : ℕ) (mark : Option ℕ)
    → ((i : ℕ) → i < at → get_or now' i 0 ≡ get_or now i 0)
    → IfSome mark (λ place. (place < at) × (get_or now place 0 ≡ comma))
    → IfSome mark (λ place. (place < at + n) × (get_or now' place 0 ≡ comma))
waits_on now now' at n None s m = tt
waits_on now now' at n (Some place) s m = (omega (arith, m.0), s place m.0 ∙ m.1)

-- past a piece of n bytes, after which the text is now', and the rest as before
goes_on : {now : List ℕ} {scan : Scan} (piece : Piece) (n : ℕ) (now' : List ℕ) (next : Scan)
    → StandsIn now scan → first_of (drop scan.at now) ≡ Ok piece → length (bytes_of piece) ≡ n → 0 < n
    → scan.at + n ≤ length now
    → length now' ≡ length now → next.at ≡ scan.at + n → drop (scan.at + n) now' ≡ drop (scan.at + n) now
    → ((ps : List Piece)
    → whole_of (take scan.at now) scan.comma scan.before (piece ∷ ps)
    ≡ whole_of (take (scan.at + n) now') next.comma next.before ps)
    → IfSome next.comma (λ place. (place < next.at) × (get_or now' place 0 ≡ comma)) → IsUtf8 now'
    → GoesOn now scan now' next
goes_on {now} {scan} piece n now' next k e m p l len' at' rest' same' waits' utf8' = record {
  further = omega arith;
  stands = record { within = omega arith; waits = waits'; utf8 = utf8' };
  length = len';
  same = rw (at', rest', sym (drop-drop n scan.at now))
      (sym (continued_more (take scan.at now) scan.comma scan.before (drop scan.at now) piece n
      (take (scan.at + n) now') next.comma next.before e m p (rw length-drop (omega arith)) same'));
}

-- a string

string_first : (now : List ℕ) (at n : ℕ) → at < length now → get_or now at 0 ≡ 34
    → string_len (drop (at + 1) now) ≡ Some n
    → first_of (drop at now) ≡ Ok (quoted (take (1 + n) (drop at now)))
string_first now at n l q e =
    first_quoted (drop at now) n (rw length-drop (omega arith)) (first_at now at ∙ q) (rw drop-drop e)

pub open_string : (bytes : List ℕ) (scan : Scan) → scan.at < length bytes → get_or bytes scan.at 0 ≡ 34
    → string_len (drop (scan.at + 1) bytes) ≡ None → outcome bytes scan ≡ Err OpenString
open_string bytes scan l q e =
    outcome_fault bytes scan OpenString l
    (first_open_string (drop scan.at bytes) (first_at bytes scan.at ∙ q) (rw drop-drop e))

pub past_string : {now : List ℕ} {scan : Scan} (n : ℕ) → StandsIn now scan → scan.at < length now
    → get_or now scan.at 0 ≡ 34 → string_len (drop (scan.at + 1) now) ≡ Some n
    → n ≤ length (drop (scan.at + 1) now)
    → GoesOn now scan now (record { at = scan.at + 1 + n; before = Some 34; comma = None })
past_string {now} {scan} n k l q e w =
    let bytes = take (1 + n) (drop scan.at now) in
    let within : n ≤ length now - (scan.at + 1) = rw length-drop at w in
    let fits : 1 + n ≤ length (drop scan.at now) = rw length-drop (omega arith) in
    let end : scan.at + 1 + n ≡ scan.at + (1 + n) = omega arith in
    rw end
    (goes_on (quoted bytes) (1 + n) now _ k (string_first now scan.at n l q e)
    (length-take-le (1 + n) (drop scan.at now) fits) (omega arith) (omega arith) refl refl refl
    (λ ps. rw (take-add scan.at (1 + n) now)
    (after_quoted (take scan.at now) bytes scan.comma scan.before ps)) tt k.utf8)

-- a comment

blank_ascii : (xs : List ℕ) → IsAscii (map blanked xs)
blank_ascii [] i = lit< tt
blank_ascii (x ∷ xs) zero = grind (arith, nat_tests)
blank_ascii (x ∷ xs) (suc i) = blank_ascii xs i

comment_utf8 : (now ys : List ℕ) (at n : ℕ) → IsUtf8 now → IsAscii ys → at < length now
    → get_or now at 0 ≡ 47 → (IsUtf8 (drop at now) → IsUtf8 (drop n (drop at now)))
    → IsUtf8 (put_mid at n now ys)
comment_utf8 now ys at n u a l f rest =
    let edge = IsCharBoundary-before_ascii now at l (rw f (lit< tt)) in
    IsUtf8-append (take at now) (ys ++ drop n (drop at now)) (IsUtf8-take now at u edge)
    (IsUtf8-append ys (drop n (drop at now)) (IsUtf8-from_ascii ys a) (rest (IsUtf8-drop now at u edge)))

put_mid_before : (now ys : List ℕ) (at n i : ℕ) → at ≤ length now → i < at
    → get_or (put_mid at n now ys) i 0 ≡ get_or now i 0
put_mid_before now ys at n i l h =
    get_or_append_left (take at now) (ys ++ drop n (drop at now)) 0 i (rw (length-take-le at now l) h)
    ∙ get_or-take at now i 0 h

put_mid_length : (now ys : List ℕ) (at n : ℕ) → at + n ≤ length now → length ys ≡ n
    → length (put_mid at n now ys) ≡ length now
put_mid_length now ys at n l e =
    simp (length-append, length-drop) (rw (length-take-le at now (omega arith)) (omega arith))

pub past_comment : {now : List ℕ} {scan : Scan} (n k : ℕ) (ys : List ℕ) → StandsIn now scan
    → get_or now scan.at 0 ≡ 47 → OpensComment (drop scan.at now) n → k ≡ n
    → ys ≡ map blanked (take n (drop scan.at now))
    → GoesOn now scan (put_mid scan.at k now ys)
    (record { at = scan.at + n; before = scan.before; comma = scan.comma })
past_comment {now} {scan} n k ys s f opens is made =
    let bytes = take n (drop scan.at now) in
    let fits : scan.at + n ≤ length now = let w : n ≤ length now - scan.at = rw length-drop at opens.within in
    let p = opens.some in omega (arith, s.within) in
    let taken : length bytes ≡ n = length-take-le n (drop scan.at now) opens.within in
    let len : length ys ≡ n = ap length made ∙ (length-map bytes blanked ∙ taken) in
    rw is
    (goes_on (comment bytes) n (put_mid scan.at n now ys) _ s opens.first taken opens.some fits
    (put_mid_length now ys scan.at n fits len) refl
    (drop-put_mid scan.at n now ys (scan.at + n) (omega arith) s.within len)
    (λ ps. rw (take-put_mid scan.at n now ys (scan.at + n) (omega arith) s.within, made)
    (after_comment (take scan.at now) bytes scan.comma scan.before ps
    (waits_take now scan.at scan.comma s.within s.waits)))
    (waits_on now (put_mid scan.at n now ys) scan.at n scan.comma
    (λ i h. put_mid_before now ys scan.at n i s.within h) s.waits)
    (comment_utf8 now ys scan.at n s.utf8 (rw made (blank_ascii bytes))
    (omega (arith, opens.some)) f opens.rest))

-- white space

pub past_blank : {now : List ℕ} {scan : Scan} → StandsIn now scan → scan.at < length now
    → is_blank (get_or now scan.at 0) ≡ true
    → GoesOn now scan now (record { at = scan.at + 1; before = scan.before; comma = scan.comma })
past_blank {now} {scan} k l t =
    let b = get_or now scan.at 0 in
    let q : b ≢ 34 = grind (arith, nat_tests) in
    let s : b ≢ 47 = grind (arith, nat_tests) in
    goes_on (single b) 1 now _ k (single_at now scan.at q s) refl (lit< tt) (omega arith) refl refl refl
    (λ ps. rw (take_more now scan.at 0 l)
    (after_blank (take scan.at now) b scan.comma scan.before ps
    (waits_take now scan.at scan.comma k.within k.waits) t))
    (waits_on now now scan.at 1 scan.comma (λ i h. refl) k.waits) k.utf8

pub more_blank : {now : List ℕ} {scan : Scan} (at : ℕ)
    → GoesOn now scan now (record { at = at; before = scan.before; comma = scan.comma }) → at < length now
    → is_blank (get_or now at 0) ≡ true
    → GoesOn now scan now (record { at = at + 1; before = scan.before; comma = scan.comma })
more_blank {now} {scan} at g l t =
    let more : GoesOn now (record { at = at; before = scan.before; comma = scan.comma }) now
    (record { at = at + 1; before = scan.before; comma = scan.comma }) = past_blank g.stands l t in
    record {
      further = omega (arith, g.further);
      stands = more.stands;
      length = refl;
      same = more.same
          ∙ g.same;
    }

-- a comma that waits

pub past_comma : {now : List ℕ} {scan : Scan} → StandsIn now scan → scan.at < length now
    → get_or now scan.at 0 ≡ 44 → ends_value scan.before ≡ true
    → GoesOn now scan now (record { at = scan.at + 1; before = Some 44; comma = Some scan.at })
past_comma {now} {scan} k l is t =
    let q : get_or now scan.at 0 ≢ 34 = omega arith in
    let s : get_or now scan.at 0 ≢ 47 = omega arith in
    goes_on (single 44) 1 now _ k (single_at now scan.at q s ∙ ap (λ b. Ok (single b)) is) refl (lit< tt)
    (omega arith) refl refl refl
    (λ ps. rw (take_more now scan.at 0 l, is)
    (rw (length-take-le scan.at now k.within) at
    (after_comma (take scan.at now) scan.comma scan.before ps t)))
    (omega arith, is) k.utf8

-- any other byte

pub past_byte : {now : List ℕ} {scan : Scan} → StandsIn now scan → scan.at < length now → IsOrdinary now scan
    → GoesOn now scan now (record { at = scan.at + 1; before = Some (get_or now scan.at 0); comma = None })
past_byte {now} {scan} k l o =
    goes_on (single (get_or now scan.at 0)) 1 now _ k o.single refl (lit< tt) (omega arith) refl refl refl
    (λ ps. rw (take_more now scan.at 0 l)
    (after_single (take scan.at now)
    (get_or now scan.at 0) scan.comma scan.before ps o.ink o.no_comma o.no_close))
    tt k.utf8

-- a closing bracket, for which a comma waits

set_utf8 : (now : List ℕ) (i : ℕ) → IsUtf8 now → i < length now → get_or now i 0 < 128
    → IsUtf8 (set now i space)
set_utf8 now i u l a =
    let after : suc i ≡ i + 1 = omega arith in
    rw (set_split now i space l, after)
    (IsUtf8-append (take i now) (space ∷ drop (i + 1) now)
    (IsUtf8-take now i u (IsCharBoundary-before_ascii now i l a))
    (IsUtf8-append (space ∷ []) (drop (i + 1) now)
    (IsUtf8-from_ascii (space ∷ []) (IsAscii-cons space [] (lit< tt) IsAscii-nil))
    (IsUtf8-drop now (i + 1) u (IsCharBoundary-after_ascii now i u l a))))

pub past_closing : {now : List ℕ} {scan : Scan} (place : ℕ) → StandsIn now scan → scan.at < length now
    → scan.comma ≡ Some place → closes (Some (get_or now scan.at 0)) ≡ true
    → GoesOn now scan (set now place space)
    (record { at = scan.at + 1; before = Some (get_or now scan.at 0); comma = None })
past_closing {now} {scan} place k l is c =
    let mark : (place < scan.at) × (get_or now place 0 ≡ comma) = rw is at k.waits in
    let b = get_or now scan.at 0 in
    let f : is_blank b ≡ false = grind (arith, nat_tests) in
    let q : b ≢ 34 = grind (arith, nat_tests) in
    let s : b ≢ 47 = grind (arith, nat_tests) in
    goes_on (single b) 1 (set now place space) _ k (single_at now scan.at q s) refl (lit< tt) (omega arith)
    (length-set now place space) refl
    (drop-set-lt (scan.at + 1) now place space (omega arith))
    (λ ps. rw (
      is,
      take-set-lt (scan.at + 1) now place space
          (omega arith),
      take_more now scan.at 0 l,
      set-append_left (take scan.at now) (b ∷ []) place space
          (rw (length-take-le scan.at now k.within) mark.0),
    )
    (after_closing (take scan.at now) b place scan.before ps f c))
    tt
    (set_utf8 now place k.utf8 (omega arith) (rw mark.1 (lit< tt)))

-- the bytes that stand for themselves

if_some : {P : Type 0} (mark : Option ℕ) → P → IfSome mark (λ _. P)
if_some None p = tt
if_some (Some place) p = p

and_false : (t : Bool) → (t && false) ≡ false
and_false true = refl
and_false false = refl

pub ordinary_comma : {bytes : List ℕ} {scan : Scan} → get_or bytes scan.at 0 ≡ 44
    → ends_value scan.before ≡ false → IsOrdinary bytes scan
ordinary_comma {bytes} {scan} e f = record {
  single = single_at bytes scan.at (omega arith) (omega arith);
  ink = rw e refl;
  no_comma = rw f (and_false (eqb (get_or bytes scan.at 0) 44));
  no_close = rw e (if_some scan.comma refl);
}

pub ordinary_closing : {bytes : List ℕ} {scan : Scan} → scan.comma ≡ None
    → closes (Some (get_or bytes scan.at 0)) ≡ true → IsOrdinary bytes scan
ordinary_closing {bytes} {scan} e f =
    let b = get_or bytes scan.at 0 in
    record {
      single = single_at bytes scan.at (grind (arith, nat_tests)) (grind (arith, nat_tests));
      ink = grind (arith, nat_tests);
      no_comma = let no : eqb b 44 ≡ false = grind (arith, nat_tests) in rw no refl;
      no_close = rw e tt;
    }

pub ordinary_slash : {bytes : List ℕ} {scan : Scan} → get_or bytes scan.at 0 ≡ 47
    → first_of (drop scan.at bytes) ≡ Ok (single 47) → IsOrdinary bytes scan
ordinary_slash {bytes} {scan} e f =
    record {
      single = rw e f;
      ink = rw e refl;
      no_comma = rw e refl;
      no_close = rw e (if_some scan.comma refl);
    }

pub ordinary_byte : {bytes : List ℕ} {scan : Scan} → is_blank (get_or bytes scan.at 0) ≡ false
    → get_or bytes scan.at 0 ≢ 34 → get_or bytes scan.at 0 ≢ 44 → get_or bytes scan.at 0 ≢ 47
    → get_or bytes scan.at 0 ≢ 93 → get_or bytes scan.at 0 ≢ 125 → IsOrdinary bytes scan
ordinary_byte {bytes} {scan} blank quote comma slash bracket brace = record {
  single = single_at bytes scan.at quote slash;
  ink = blank;
  no_comma = rw (ne_eqb _ 44 comma) refl;
  no_close = if_some scan.comma (rw (ne_eqb _ 93 bracket, ne_eqb _ 125 brace) refl);
}
