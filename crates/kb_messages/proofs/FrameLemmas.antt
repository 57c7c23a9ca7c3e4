-- A frame that was written is read as its message.
use Rattle.std.proofs.Common.{◌≡◌, ℕ, ◌+◌, ◌-◌, ◌<◌, ◌≤◌, List, [], ◌∷◌, ◌++◌, length, take, drop, suc}
use Rattle.std.proofs.Common.{sym, ap, ◌∙◌, refl, subst, arith, append_assoc, Bool, true, false, cond, lit<}
use Rattle.std.specs.Prelude.{Some, None, Ok, Err, codes, decimal, not, ◌==◌, ◌&&◌, nat_eq, nat_le, nat_lt, reverse, map, ◌||◌}
use Rattle.std.specs.Char.{is_ascii_digit, is_ascii_whitespace, to_ascii_lowercase}
use Rattle.std.specs.List.{prefix_len, suffix_len, before_first, list_all}
use Rattle.std.specs.Str.{bytes_eq}
use Rattle.std.specs.Int.{is_in_range}
use Rattle.std.specs.Str.Parse.{digits_value, AllDigits}
use Rattle.std.proofs.Math.Bool.{and-false}
use Rattle.std.proofs.lemmas.Bool.{lt-ltb, lt-leb, le-leb, ne_eqb}
use Rattle.std.proofs.lemmas.Fmt.{decimal_is_IsNumeral, length-decimal-le}
use Rattle.std.proofs.lemmas.List.{take_all, length-append, reverse-append, drop-drop}
use Rattle.std.proofs.Math.Seq.{take-append_seam, drop-append_seam}
use Rattle.std.proofs.lemmas.Str.Parse.{tells_digits}
use Rattle.kb_messages.specs.declared.fault.FrameFault.TheVariants.{TooLong, WrongLength}
use Rattle.kb_messages.specs.declared.front.Front.{Front}
use Rattle.kb_messages.specs.declared.front.Front.TheVariants.{Wait, Body}
use Rattle.kb_messages.specs.declared.incoming.Received.TheVariants.{Message}
use Rattle.kb_messages.specs.Header.{header_len, value_in, or_here, trimmed, is_number, length_of, length_behind, body_len}
use Rattle.kb_messages.specs.Frame.{frame}
use Rattle.kb_messages.specs.Reading.{front_of, front_by, framed, taken_by}
use Rattle.kb_messages.specs.Stream.{bytes_of, frames, messages, received_of, taken_all, AreShort}
use Rattle.kb_messages.proofs.FrontLemmas.{ends_later, head_more, by_found}
use Rattle.kb_messages.proofs.StreamLemmas.{nothing_held, one_more, one_taken, received_at_once, IsTaken}

-- each byte is a digit
Digits : List ℕ → Type 0
Digits [] = Unit {0}
Digits (c ∷ cs) = (48 ≤ c) × (c ≤ 57) × Digits cs

-- ---- the end of the header

digits_end : (ds rest : List ℕ) → Digits ds → header_len (ds ++ 13 ∷ 10 ∷ 13 ∷ 10 ∷ rest) ≡ length ds
unfolding Digits
digits_end [] rest are = refl
digits_end (d ∷ ds) rest are =
    let other : nat_eq 13 d ≡ false = ne_eqb 13 d (λ e. omega (arith, are.0, e)) in
    ends_later d (ds ++ 13 ∷ 10 ∷ 13 ∷ 10 ∷ rest)
    (ap (λ (b : Bool). b && bytes_eq (10 ∷ 13 ∷ 10 ∷ []) (take 3 (ds ++ 13 ∷ 10 ∷ 13 ∷ 10 ∷ rest))) other)
    ∙ ap suc (digits_end ds rest are.2)

sixteen : (n : ℕ)
    → suc (suc (suc (suc (suc (suc (suc (suc (suc (suc (suc (suc (suc (suc (suc (suc n))))))))))))))) ≡ 16 + n
sixteen n = omega arith

header_end : (ds rest : List ℕ) → Digits ds
    → header_len (codes "Content-Length: " ++ (ds ++ 13 ∷ 10 ∷ 13 ∷ 10 ∷ rest)) ≡ 16 + length ds
header_end ds rest are = let e = digits_end ds rest are in rw e (sixteen (length ds))

-- ---- its length

digits_name : (ds : List ℕ) → Digits ds → value_in ds ≡ None
unfolding Digits
digits_name [] are = refl
digits_name (d ∷ ds) are =
    let low : to_ascii_lowercase d ≡ d = ap (λ (b : Bool). cond b d (cond (nat_lt d 91) (d + 32) d)) (lt-ltb d 65 (omega (arith, are.1))) in
    let other : nat_eq (to_ascii_lowercase d) 99 ≡ false =
    ne_eqb (to_ascii_lowercase d) 99 (λ e. omega (arith, are.1, low, e)) in
    let name : List ℕ = 111 ∷ 110 ∷ 116 ∷ 101 ∷ 110 ∷ 116 ∷ 45 ∷ 108 ∷ 101 ∷ 110 ∷ 103 ∷ 116 ∷ 104 ∷ 58 ∷ [] in
    ap (or_here (d ∷ ds)) (digits_name ds are.2)
    ∙ ap (λ (b : Bool). cond (b && bytes_eq (map to_ascii_lowercase (take 14 ds)) name) (Some (drop 14 ds)) None) other

name_first : (ds : List ℕ) → Digits ds → value_in (codes "Content-Length: " ++ ds) ≡ Some (32 ∷ ds)
name_first ds are = let e = digits_name ds are in rw e refl

outside : (lo hi c : ℕ) → hi < c → is_in_range lo hi c ≡ false
outside lo hi c above =
    ap (λ (b : Bool). nat_le lo c && b) (lt-leb c hi above) ∙ and-false (nat_le lo c)

no_space : (c : ℕ) → 48 ≤ c → is_ascii_whitespace c ≡ false
no_space c above =
    ap (λ (b : Bool). (b || is_in_range 12 13 c) || is_in_range 32 32 c) (outside 9 10 c (omega (arith, above)))
    ∙ ap (λ (b : Bool). b || is_in_range 32 32 c) (outside 12 13 c (omega (arith, above)))
    ∙ outside 32 32 c (omega (arith, above))

no_feed : (c : ℕ) → 48 ≤ c → not (c == 10) ≡ true
no_feed c above = ap not (ne_eqb c 10 (λ e. omega (arith, above, e)))

one_and : (n : ℕ) → 1 + n ≡ suc n
one_and n = omega arith

digits_line : (ds : List ℕ) → Digits ds → prefix_len (λ b. not (b == 10)) ds ≡ length ds
unfolding Digits
digits_line [] are = refl
digits_line (d ∷ ds) are =
    ap (λ (b : Bool). cond b (1 + prefix_len (λ b. not (b == 10)) ds) 0) (no_feed d are.0)
    ∙ ap (λ (n : ℕ). 1 + n) (digits_line ds are.2) ∙ one_and (length ds)

digits_first : (ds : List ℕ) → Digits ds → prefix_len is_ascii_whitespace ds ≡ 0
unfolding Digits
digits_first [] are = refl
digits_first (d ∷ ds) are =
    ap (λ (b : Bool). cond b (1 + prefix_len is_ascii_whitespace ds) 0) (no_space d are.0)

digits_more : (ds : List ℕ) (d : ℕ) → Digits ds → 48 ≤ d → d ≤ 57 → Digits (ds ++ d ∷ [])
unfolding Digits
digits_more [] d are low high = (low, high, tt)
digits_more (c ∷ ds) d are low high = (are.0, are.1, digits_more ds d are.2 low high)

digits_reverse : (ds : List ℕ) → Digits ds → Digits (reverse ds)
unfolding Digits
digits_reverse [] are = tt
digits_reverse (d ∷ ds) are =
    subst Digits (sym (reverse-append (d ∷ []) ds)) (digits_more (reverse ds) d (digits_reverse ds are.2) are.0 are.1)

digits_trimmed : (ds : List ℕ) → Digits ds → trimmed (32 ∷ ds) ≡ ds
digits_trimmed ds are =
    let begun : drop (1 + prefix_len is_ascii_whitespace ds) (32 ∷ ds) ≡ ds =
    ap (λ (n : ℕ). drop (1 + n) (32 ∷ ds)) (digits_first ds are) in
    let ended : suffix_len is_ascii_whitespace ds ≡ 0 = digits_first (reverse ds) (digits_reverse ds are) in
    ap (λ (t : List ℕ). take (length t - suffix_len is_ascii_whitespace t) t) begun
    ∙ take_all (length ds - suffix_len is_ascii_whitespace ds) ds (omega (arith, ended))

digits_in_line : (ds : List ℕ) → Digits ds → before_first (λ b. b == 10) (32 ∷ ds) ≡ 32 ∷ ds
digits_in_line ds are =
    take_all (1 + prefix_len (λ b. not (b == 10)) ds) (32 ∷ ds) (omega (arith, digits_line ds are))

digits_of : (ds : List ℕ) → AllDigits 10 ds → Digits ds
unfolding Digits
digits_of [] e = tt
digits_of (d ∷ ds) e =
    let parts = tells_digits.parts d ds e in (parts.0.0, parts.0.1, digits_of ds parts.1)

digits_pass : (ds : List ℕ) → Digits ds → list_all is_ascii_digit ds ≡ true
unfolding Digits
digits_pass [] are = refl
digits_pass (d ∷ ds) are =
    let low = le-leb 48 d are.0 in
    let high = le-leb d 57 are.1 in
    ap (λ (b : Bool). (b && nat_le d 57) && list_all is_ascii_digit ds) low
    ∙ ap (λ (b : Bool). b && list_all is_ascii_digit ds) high ∙ digits_pass ds are.2

-- what a number below the limit says
number_says : (ds : List ℕ) (n : ℕ) → Digits ds → 0 < length ds → digits_value 10 ds ≡ n → n ≤ 16777216
    → length_of ds ≡ Ok n
number_says ds n are some value short =
    let given : is_number ds ≡ true =
    ap (λ (b : Bool). not b && list_all is_ascii_digit ds) (ne_eqb (length ds) 0 (λ e. omega (arith, some, e)))
    ∙ digits_pass ds are in
    ap (λ (b : Bool). cond b (cond (nat_le (digits_value 10 ds) 16777216) (Ok (digits_value 10 ds)) (Err TooLong))
    (Err WrongLength)) given
    ∙ ap (λ (v : ℕ). cond (nat_le v 16777216) (Ok v) (Err TooLong)) value
    ∙ ap (λ (b : Bool). cond b (Ok n) (Err TooLong)) (le-leb n 16777216 short)

header_says : (ds : List ℕ) (n : ℕ) → Digits ds → 0 < length ds → digits_value 10 ds ≡ n → n ≤ 16777216
    → body_len (codes "Content-Length: " ++ ds) ≡ Ok n
header_says ds n are some value short =
    ap length_behind (name_first ds are)
    ∙ ap (λ (t : List ℕ). length_of (trimmed t)) (digits_in_line ds are)
    ∙ ap length_of (digits_trimmed ds are)
    ∙ number_says ds n are some value short

-- ---- the frame

-- ---- the frame

abbrev name : List ℕ
name = codes "Content-Length: "

abbrev crlf : List ℕ
crlf = 13 ∷ 10 ∷ 13 ∷ 10 ∷ []

abbrev head_with : List ℕ → List ℕ
head_with ds = name ++ (ds ++ crlf)

head_with_len : (ds : List ℕ) → length (head_with ds) ≡ 20 + length ds
head_with_len ds = let e = length-append ds crlf in omega (arith, e)

module _ (ds body rest : List ℕ) (are : Digits ds) (few : length ds ≤ 8)
    (says : body_len (name ++ ds) ≡ Ok (length body)) where
  abbrev held : List ℕ
  held = head_with ds ++ (body ++ rest)

  held_len : length held ≡ 20 + length ds + (length body + length rest)
  held_len =
      let e = length-append (head_with ds) (body ++ rest) in
      omega (arith, e, head_with_len ds, length-append body rest)

  header_is : header_len (take 8195 held) ≡ 16 + length ds
  header_is =
      let t = take (8195 - length (head_with ds)) (body ++ rest) in
      ap header_len (
      head_more 8195 (head_with ds) (body ++ rest)
      ∙ ap (λ (h : List ℕ). h ++ t) (take_all 8195 (head_with ds) (omega (arith, head_with_len ds, few)))
      ∙ ap (λ (h : List ℕ). name ++ h) (append_assoc ds crlf t)
      )
      ∙ header_end ds t are

  header_text : take (16 + length ds) held ≡ name ++ ds
  header_text =
      ap (λ (h : List ℕ). take (16 + length ds) (name ++ h)) (append_assoc ds crlf (body ++ rest))
      ∙ ap (λ (n : ℕ). take n ((name ++ ds) ++ (crlf ++ (body ++ rest)))) (sym (sixteen (length ds)))
      ∙ take-append_seam (name ++ ds) (crlf ++ (body ++ rest))

  front_is : front_of held ≡ Body (16 + length ds + 4) (16 + length ds + 4 + length body)
  front_is =
      let end = 16 + length ds in
      let b = Body (end + 4) (end + 4 + length body) in
      ap (front_by held) header_is
      ∙ by_found held end (omega (arith, held_len, few))
      ∙ ap (λ (t : List ℕ). framed (length held) (end + 4) (body_len t)) header_text
      ∙ ap (framed (length held) (end + 4)) says
      ∙ ap (λ (t : Bool). cond t b Wait) (le-leb (end + 4 + length body) (length held) (omega (arith, held_len)))

  body_begins : drop (16 + length ds + 4) held ≡ body ++ rest
  body_begins =
      let e : 16 + length ds + 4 ≡ length (head_with ds) = omega (arith, head_with_len ds) in
      ap (λ (n : ℕ). drop n held) e ∙ drop-append_seam (head_with ds) (body ++ rest)

  frame_is_taken : IsTaken held (Message body) rest
  frame_is_taken =
      let b = 16 + length ds + 4 in
      let n : b + length body - b ≡ length body = omega arith in
      record {
        received =
            ap (λ (f : Front). (taken_by f held).received) front_is
            ∙ ap (λ (t : List ℕ). Some (Message (take (b + length body - b) t))) body_begins
            ∙ ap (λ (k : ℕ). Some (Message (take k (body ++ rest)))) n
            ∙ ap (λ (t : List ℕ). Some (Message t)) (take-append_seam body rest);
        held_then =
            ap (λ (f : Front). (taken_by f held).held) front_is
            ∙ sym (drop-drop (length body) b held)
            ∙ ap (drop (length body)) body_begins
            ∙ drop-append_seam body rest;
      }

frame_flat : (body rest : List ℕ)
    → frame body ++ rest ≡ head_with (decimal (length body)) ++ (body ++ rest)
frame_flat body rest =
    ap (λ (h : List ℕ). name ++ h)
    (append_assoc (decimal (length body) ++ crlf) body rest)

-- a frame is taken first
frame_first : (body rest : List ℕ) → length body ≤ 16777216 → IsTaken (frame body ++ rest) (Message body) rest
frame_first body rest short =
    let n = length body in
    let ds = decimal n in
    let is = decimal_is_IsNumeral n (omega (arith, short)) in
    let are = digits_of ds is.0.1 in
    let few = length-decimal-le 8 n (lit< tt) (omega (arith, short)) (omega (arith, short)) in
    subst (λ (t : List ℕ). IsTaken t (Message body) rest) (sym (frame_flat body rest))
    (frame_is_taken ds body rest are few (header_says ds n are is.0.0 is.1 short))

all_frames : (bodies : List (List ℕ)) → AreShort bodies → taken_all (frames bodies) ≡ messages bodies
all_frames [] short = nothing_held
all_frames (body ∷ bodies) short =
    one_taken (frames (body ∷ bodies)) (Message body) (frames bodies)
    (frame_first body (frames bodies) (short 0 [] (omega arith)))
    ∙ ap (one_more (Message body)) (all_frames bodies (λ k d below. short (suc k) d (omega (arith, below))))

pub written_is_received : (bodies parts : List (List ℕ)) → AreShort bodies → bytes_of parts ≡ frames bodies
    → received_of [] parts ≡ messages bodies
written_is_received bodies parts short same =
    received_at_once parts ∙ ap taken_all same ∙ all_frames bodies short
