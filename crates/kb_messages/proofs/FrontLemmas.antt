-- What stands at the front of a stream, and that bytes behind it change nothing of it.
use Rattle.std.proofs.Common.{◌≡◌, ◌≢◌, ℕ, ◌+◌, ◌-◌, ◌<◌, ◌≤◌, List, [], ◌∷◌, ◌++◌, length, take, suc, zero}
use Rattle.std.proofs.Common.{sym, ap, ◌∙◌, refl, subst, arith, Bool, true, false, cond, ◌⊎◌, inl, inr}
use Rattle.std.specs.Prelude.{min, nat_lt, nat_le, Result, Ok, Err}
use Rattle.std.specs.Str.{bytes_eq}
use Rattle.std.specs.Cmp.Lexicographic.{same_text}
use Rattle.std.proofs.lemmas.Bool.{lt-ltb, le-ltb, ltb-true, ltb-false, le-leb, leb-true}
use Rattle.std.proofs.lemmas.List.{take_all, length-take, length-take-le, length-append, take-append-le}
use Rattle.kb_messages.specs.declared.fault.FrameFault.{FrameFault}
use Rattle.kb_messages.specs.declared.fault.FrameFault.TheVariants.{LongHeader}
use Rattle.kb_messages.specs.declared.front.Front.TheVariants.{Wait, Body, Lost}
use Rattle.kb_messages.specs.Header.{ends_header, header_len, body_len}
use Rattle.kb_messages.specs.Reading.{framed, front_by, front_of, IsWithin}

pub all_held : (held : List ℕ) → length held < 8195 → held ≡ take 8195 held
all_held held short = sym (take_all 8195 held (omega arith))

pub head_len : (held : List ℕ) → 8195 ≤ length held → length (take 8195 held) ≡ min (length held) 8195
head_len held long =
    let e = length-take-le 8195 held long in
    omega (arith, e)

pub ruleset heads = (all_held, head_len)

-- ---- a header that is found

told : (b : Bool) → (b ≡ true) ⊎ (b ≡ false)
told true = inl refl
told false = inr refl

pub ends_long : (bs : List ℕ) → ends_header bs ≡ true → 4 ≤ length bs
ends_long bs e =
    let same : 13 ∷ 10 ∷ 13 ∷ 10 ∷ [] ≡ take 4 bs = same_text (13 ∷ 10 ∷ 13 ∷ 10 ∷ []) (take 4 bs) (sym e) in
    omega (arith, ap length same, length-take 4 bs)

ends_same : (bs more : List ℕ) → 4 ≤ length bs → ends_header (bs ++ more) ≡ ends_header bs
ends_same bs more long = ap (bytes_eq (13 ∷ 10 ∷ 13 ∷ 10 ∷ [])) (take-append-le 4 bs more long)

pub ends_here : (b : ℕ) (bs : List ℕ) → ends_header (b ∷ bs) ≡ true → header_len (b ∷ bs) ≡ 0
ends_here b bs e = ap (λ (t : Bool). cond t 0 (suc (header_len bs))) e

pub ends_later : (b : ℕ) (bs : List ℕ) → ends_header (b ∷ bs) ≡ false → header_len (b ∷ bs) ≡ suc (header_len bs)
ends_later b bs e = ap (λ (t : Bool). cond t 0 (suc (header_len bs))) e

pub found_long : (bs : List ℕ) → header_len bs < length bs → header_len bs + 4 ≤ length bs
found_long [] some = absurd (omega (arith, some))
found_long (b ∷ bs) some =
    elim (told (ends_header (b ∷ bs))) [
      | inl e ↦ omega (arith, ends_here b bs e, ends_long (b ∷ bs) e)
      | inr e ↦ let n = ends_later b bs e in omega (arith, n, found_long bs (omega (arith, n, some)))
    ]

found_same : (bs more : List ℕ) → header_len bs < length bs → header_len (bs ++ more) ≡ header_len bs
found_same [] more some = absurd (omega (arith, some))
found_same (b ∷ bs) more some =
    let same = ends_same (b ∷ bs) more (omega (arith, found_long (b ∷ bs) some)) in
    elim (told (ends_header (b ∷ bs))) [
      | inl e ↦ ends_here b (bs ++ more) (same ∙ e) ∙ sym (ends_here b bs e)
      | inr e ↦
          let n = ends_later b bs e in
          ends_later b (bs ++ more) (same ∙ e)
          ∙ ap suc (found_same bs more (omega (arith, n, some)))
          ∙ sym n
    ]

-- ---- more bytes

pub head_more : (n : ℕ) (held more : List ℕ) → take n (held ++ more) ≡ take n held ++ take (n - length held) more
head_more zero held more = let e : zero - length held ≡ zero = omega arith in ap (λ (k : ℕ). take k more) (sym e)
head_more (suc n) [] more =
    let e : suc n - length {A = ℕ} [] ≡ suc n = omega arith in ap (λ (k : ℕ). take k more) (sym e)
head_more (suc n) (b ∷ held) more =
    let e : n - length held ≡ suc n - suc (length held) = omega arith in
    ap (λ (t : List ℕ). b ∷ t) (head_more n held more)
    ∙ ap (λ (k : ℕ). b ∷ (take n held ++ take k more)) e

longer : (a b more : ℕ) → a < min b 8195 → a < min (b + more) 8195
longer a b more h = omega (arith, h)

pub by_found : (held : List ℕ) (end : ℕ) → end < min (length held) 8195
    → front_by held end ≡ framed (length held) (end + 4) (body_len (take end held))
by_found held end found =
    ap (λ (b : Bool). cond b (framed (length held) (end + 4) (body_len (take end held)))
    (cond (nat_lt (length held) 8195) Wait (Lost LongHeader 4096)))
    (lt-ltb end (min (length held) 8195) found)

by_none : (held : List ℕ) (end : ℕ) → min (length held) 8195 ≤ end
    → front_by held end ≡ cond (nat_lt (length held) 8195) Wait (Lost LongHeader 4096)
by_none held end none =
    ap (λ (b : Bool). cond b (framed (length held) (end + 4) (body_len (take end held)))
    (cond (nat_lt (length held) 8195) Wait (Lost LongHeader 4096)))
    (le-ltb end (min (length held) 8195) none)

framed_more : (held more begin : ℕ) (said : Result ℕ FrameFault) → framed held begin said ≢ Wait
    → framed (held + more) begin said ≡ framed held begin said
framed_more held more begin (Err fault) some = refl
framed_more held more begin (Ok n) some =
    let body = Body begin (begin + n) in
    elim (told (nat_le (begin + n) held)) [
      | inl e ↦
          ap (λ (b : Bool). cond b body Wait)
          (le-leb (begin + n) (held + more) (omega (arith, leb-true (begin + n) held e)))
          ∙ sym (ap (λ (b : Bool). cond b body Wait) e)
      | inr e ↦ absurd (some (ap (λ (b : Bool). cond b body Wait) e))
    ]

min_comm : (n : ℕ) → min 8195 n ≡ min n 8195
min_comm n = omega arith

-- the header ends in what is held
found_more : (held more head : List ℕ) → head ≡ take 8195 held → header_len head < min (length held) 8195
    → front_of held ≢ Wait → front_of (held ++ more) ≡ front_of held
found_more held more head is found some =
    let end = header_len head in
    let rest = take (8195 - length held) more in
    let long : length head ≡ min (length held) 8195 =
    ap length is ∙ length-take 8195 held ∙ min_comm (length held) in
    let sum = length-append held more in
    let begin : front_of held ≡ framed (length held) (end + 4) (body_len (take end held)) =
    ap (λ (t : List ℕ). front_by held (header_len t)) (sym is) ∙ by_found held end found in
    let there : front_by (held ++ more) end
    ≡ framed (length (held ++ more)) (end + 4) (body_len (take end (held ++ more))) =
    by_found (held ++ more) end (omega (arith, found, sum)) in
    let same : header_len (take 8195 (held ++ more)) ≡ end =
    ap header_len (head_more 8195 held more ∙ ap (λ (t : List ℕ). t ++ rest) (sym is))
    ∙ found_same head rest (omega (arith, found, long)) in
    ap (front_by (held ++ more)) same ∙ there
    ∙ ap (λ (k : ℕ). framed k (end + 4) (body_len (take end (held ++ more)))) sum
    ∙ ap (λ (t : List ℕ). framed (length held + length more) (end + 4) (body_len t))
    (take-append-le end held more (omega (arith, found)))
    ∙ framed_more (length held) (length more) (end + 4) (body_len (take end held)) (λ e. some (begin ∙ e))
    ∙ sym begin

-- no header ends in it
none_more : (held more head : List ℕ) → head ≡ take 8195 held → min (length held) 8195 ≤ header_len head
    → front_of held ≢ Wait → front_of (held ++ more) ≡ front_of held
none_more held more head is none some =
    let end = header_len head in
    let begin : front_of held ≡ cond (nat_lt (length held) 8195) Wait (Lost LongHeader 4096) =
    ap (λ (t : List ℕ). front_by held (header_len t)) (sym is) ∙ by_none held end none in
    elim (told (nat_lt (length held) 8195)) [
      | inl e ↦ absurd (some (begin ∙ ap (λ (b : Bool). cond b Wait (Lost LongHeader 4096)) e))
      | inr e ↦
          let long = ltb-false (length held) 8195 e in
          let sum = length-append held more in
          let same : header_len (take 8195 (held ++ more)) ≡ end =
          ap header_len (take-append-le 8195 held more long ∙ sym is) in
          ap (front_by (held ++ more)) same
          ∙ by_none (held ++ more) end (omega (arith, none, sum, long))
          ∙ ap (λ (b : Bool). cond b Wait (Lost LongHeader 4096))
          (le-ltb (length (held ++ more)) 8195 (omega (arith, sum, long)))
          ∙ sym (ap (λ (b : Bool). cond b Wait (Lost LongHeader 4096)) e)
          ∙ sym begin
    ]

-- more bytes change nothing of what stands at the front
pub front_more : (held more : List ℕ) → front_of held ≢ Wait → front_of (held ++ more) ≡ front_of held
front_more held more some =
    let head = take 8195 held in
    elim (told (nat_lt (header_len head) (min (length held) 8195))) [
      | inl e ↦ found_more held more head refl (ltb-true (header_len head) (min (length held) 8195) e) some
      | inr e ↦ none_more held more head refl (ltb-false (header_len head) (min (length held) 8195) e) some
    ]

-- ---- its indices

framed_within : (held begin : ℕ) (said : Result ℕ FrameFault) → begin ≤ held → 0 < begin
    → IsWithin held (framed held begin said)
framed_within held begin (Err fault) within some = (within, some)
framed_within held begin (Ok n) within some =
    elim (told (nat_le (begin + n) held)) [
      | inl e ↦
          subst (λ (b : Bool). IsWithin held (cond b (Body begin (begin + n)) Wait)) (sym e)
          (omega arith, leb-true (begin + n) held e, omega (arith, some))
      | inr e ↦ subst (λ (b : Bool). IsWithin held (cond b (Body begin (begin + n)) Wait)) (sym e) tt
    ]

none_within : (held : ℕ) → IsWithin held (cond (nat_lt held 8195) Wait (Lost LongHeader 4096))
none_within held =
    elim (told (nat_lt held 8195)) [
      | inl e ↦ subst (λ (b : Bool). IsWithin held (cond b Wait (Lost LongHeader 4096))) (sym e) tt
      | inr e ↦
          let long = ltb-false held 8195 e in
          subst (λ (b : Bool). IsWithin held (cond b Wait (Lost LongHeader 4096))) (sym e) (omega (arith, long), omega arith)
    ]

within_by : (held head : List ℕ) → head ≡ take 8195 held → IsWithin (length held) (front_by held (header_len head))
within_by held head is =
    let end = header_len head in
    let long : length head ≡ min (length held) 8195 =
    ap length is ∙ length-take 8195 held ∙ min_comm (length held) in
    elim (told (nat_lt end (min (length held) 8195))) [
      | inl e ↦
          let found = ltb-true end (min (length held) 8195) e in
          subst (IsWithin (length held)) (sym (by_found held end found))
          (framed_within (length held) (end + 4) (body_len (take end held))
          (omega (arith, found_long head (omega (arith, found, long)), long)) (omega arith))
      | inr e ↦
          let none = ltb-false end (min (length held) 8195) e in
          subst (IsWithin (length held)) (sym (by_none held end none)) (none_within (length held))
    ]

pub front_within : (held : List ℕ) → IsWithin (length held) (front_of held)
front_within held = within_by held (take 8195 held) refl
