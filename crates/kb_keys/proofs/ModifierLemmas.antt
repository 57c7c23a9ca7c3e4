-- A modifier's name has three to five bytes, and no sign.
use Rattle.std.proofs.Common.{◌≡◌, ℕ, ◌<◌, ◌≤◌, List, [], ◌∷◌, Bool, true, false, cond, ◌||◌, not}
use Rattle.std.proofs.Common.{Option, None, Some, refl, sym, ap, ◌∙◌, arith, tests, take, length, get_or}
use Rattle.std.proofs.Common.{position, codes, bytes_eq, ⊎_elim, subst}
use Rattle.std.specs.Char.{to_ascii_lowercase}
use Rattle.std.specs.List.{All, list_all, position_or_len}
use Rattle.std.proofs.lemmas.Bool.{not-true, cases_lt, true≢false}
use Rattle.std.proofs.lemmas.List.{length-map, length-take-le, get_or-take}
use Rattle.std.proofs.lemmas.List.Sums.{AllPass-from_list_all, passes_at_first, fails_before_first}
use Rattle.std.proofs.lemmas.Slice.Eq.{bytes_eq-Decides}
use Rattle.kb_keys.specs.declared.modifier.Modifier.{Modifier}
use Rattle.kb_keys.specs.declared.modifier.Modifier.TheVariants.{Ctrl, Shift, Alt, Meta}
use Rattle.kb_keys.specs.KeyName.{lowered}
use Rattle.kb_keys.specs.Modifier.{modifier_of, modifier_named, modifier_before, first_modifier, is_sign}
use Rattle.kb_keys.proofs.KeystrokeLemmas.{position-Some, position-None}

either : {X : Type 0} (a b : Bool) → (a ≡ true → X) → (b ≡ true → X) → (a || b) ≡ true → X
either true b one two h = one refl
either false b one two h = two h

-- where one of four tests names a modifier, that test is true
one_of : {X : Type 0} (m : Modifier) (c s a k : Bool) → (c ≡ true → X) → (s ≡ true → X) → (a ≡ true → X)
    → (k ≡ true → X)
    → cond c (Some Ctrl) (cond s (Some Shift) (cond a (Some Alt) (cond k (Some Meta) None))) ≡ Some m → X
one_of m true s a k hc hs ha hk h = hc refl
one_of m false true a k hc hs ha hk h = hs refl
one_of m false false true k hc hs ha hk h = ha refl
one_of m false false false true hc hs ha hk h = hk refl
one_of m false false false false hc hs ha hk h = absurd (cc)

-- what holds of each of the six names holds of a word that is one of them
of_names : (P : List ℕ → Type 0) (word : List ℕ) (m : Modifier) → P (codes "ctrl") → P (codes "shift")
    → P (codes "alt") → P (codes "cmd") → P (codes "win") → P (codes "meta") → modifier_of word ≡ Some m → P word
of_names P word m c s a k w t h =
    let is : (name : List ℕ) → P name → bytes_eq word name ≡ true → P word =
    λ name p same. subst P (sym ((bytes_eq-Decides word name).0 same)) p in
    one_of m (bytes_eq word (codes "ctrl")) (bytes_eq word (codes "shift")) (bytes_eq word (codes "alt"))
    (bytes_eq word (codes "cmd") || (bytes_eq word (codes "win") || bytes_eq word (codes "meta")))
    (is (codes "ctrl") c) (is (codes "shift") s) (is (codes "alt") a)
    (either (bytes_eq word (codes "cmd")) (bytes_eq word (codes "win") || bytes_eq word (codes "meta"))
    (is (codes "cmd") k)
    (either (bytes_eq word (codes "win")) (bytes_eq word (codes "meta"))
    (is (codes "win") w) (is (codes "meta") t)))
    h

-- no byte is a sign
abbrev no_sign : List ℕ → Bool
no_sign bytes = list_all (λ byte. not (is_sign byte)) bytes

lower-is_sign : (byte : ℕ) → is_sign (to_ascii_lowercase byte) ≡ is_sign byte
lower-is_sign byte = grind (arith, tests)

no_sign-lowered : (bytes : List ℕ) → no_sign (lowered bytes) ≡ no_sign bytes
no_sign-lowered [] = refl
no_sign-lowered (b ∷ bs) = rw (lower-is_sign b, no_sign-lowered bs) refl

-- a modifier's word holds no sign
pub signless : (word : List ℕ) (m : Modifier) → modifier_named word ≡ Some m
    → All (λ byte. is_sign byte ≡ false) word
signless word m h =
    let free : no_sign word ≡ true =
    sym (no_sign-lowered word)
    ∙ of_names (λ name. no_sign name ≡ true) (lowered word) m refl refl refl refl refl refl h in
    λ k d l. not-true _ (AllPass-from_list_all (λ byte. not (is_sign byte)) word free k d l)

abbrev IsShort : List ℕ → Type 0
IsShort word = (2 < length word) × (length word < 6)

-- a modifier's word has three to five bytes
short : (word : List ℕ) (m : Modifier) → modifier_named word ≡ Some m → IsShort word
short word m h =
    let s : IsShort (lowered word) =
    of_names IsShort (lowered word) m (omega arith, omega arith) (omega arith, omega arith)
    (omega arith, omega arith) (omega arith, omega arith) (omega arith, omega arith) (omega arith, omega arith)
    h in
    (omega (arith, s.0, length-map word to_ascii_lowercase), omega (arith, s.1, length-map word to_ascii_lowercase))

none_by : (text : List ℕ) (at : ℕ) (o : Option Modifier) → modifier_named (take at text) ≡ o
    → ((m : Modifier) → modifier_named (take at text) ≡ Some m → ⊥) → modifier_before text (Some at) ≡ None
none_by text at None e h = rw e refl
none_by text at (Some m) e h = absurd (h m e)

-- no modifier's word ends at a place below 3
none_near : (text : List ℕ) (at : ℕ) → at < length text → at < 3 → modifier_before text (Some at) ≡ None
none_near text at l near =
    none_by text at (modifier_named (take at text)) refl
    (λ m e. let s = short (take at text) m e in omega (arith, s.0, length-take-le at text (omega arith)))

none_far : (text : List ℕ) (at : ℕ) → at < length text → 5 < at → modifier_before text (Some at) ≡ None
none_far text at l far =
    none_by text at (modifier_named (take at text)) refl
    (λ m e. let s = short (take at text) m e in omega (arith, s.1, length-take-le at text (omega arith)))

-- nor behind a sign
none_behind : (text : List ℕ) (at first : ℕ) → at < length text → first < at
    → is_sign (get_or text first 0) ≡ true → modifier_before text (Some at) ≡ None
none_behind text at first l b h =
    none_by text at (modifier_named (take at text)) refl
    (λ m e. let plain : is_sign (get_or (take at text) first 0) ≡ false =
    signless (take at text) m e first 0 (omega (arith, length-take-le at text (omega arith))) in
    let same : get_or (take at text) first 0 ≡ get_or text first 0 = get_or-take at text first 0 b in
    true≢false (sym h ∙ ap is_sign (sym same) ∙ plain))

at_first : (text : List ℕ) (at first : ℕ) → at < length text → first < length text
    → is_sign (get_or text first 0) ≡ true → first ≤ at
    → ((k : ℕ) → 2 < k → k < at → is_sign (get_or text k 0) ≡ false)
    → modifier_before text (Some at) ≡ modifier_before text (Some first)
at_first text at first l within sign le plain =
    ⊎_elim
    (λ less. ⊎_elim
    (λ near. none_behind text at first l less sign ∙ sym (none_near text first within near))
    (λ far. absurd (true≢false (sym sign ∙ plain first (omega arith) less)))
    (cases_lt first 3))
    (λ same. let e : at ≡ first = omega arith in ap (λ (n : ℕ). modifier_before text (Some n)) e)
    (cases_lt first at)

first_at : (text : List ℕ) (at : ℕ) (p : Option ℕ) → position is_sign text ≡ p → at < length text
    → is_sign (get_or text at 0) ≡ true → ((k : ℕ) → 2 < k → k < at → is_sign (get_or text k 0) ≡ false)
    → modifier_before text (Some at) ≡ modifier_before text p
first_at text at None e l sign plain =
    absurd (true≢false (sym sign ∙ fails_before_first is_sign text at 0 (omega (arith, position-None text e))))
first_at text at (Some first) e l sign plain =
    let found : (first ≡ position_or_len is_sign text) × (first < length text) = position-Some text first e in
    let signed : is_sign (get_or text first 0) ≡ true =
    rw (found.0) (passes_at_first is_sign text 0 (omega (arith, found.0, found.1))) in
    ⊎_elim
    (λ less. absurd (true≢false (sym sign ∙ fails_before_first is_sign text at 0 (omega (arith, found.0)))))
    (λ le. at_first text at first l found.1 signed le plain)
    (cases_lt at first)

-- the modifier before a sign, where no other sign is at a place at which a modifier's word may end
sign_found : (text : List ℕ) (at : ℕ) → at < length text → is_sign (get_or text at 0) ≡ true
    → ((k : ℕ) → 2 < k → k < at → is_sign (get_or text k 0) ≡ false)
    → modifier_before text (Some at) ≡ first_modifier text
sign_found text at l sign plain = first_at text at (position is_sign text) refl l sign plain

none_at : (text : List ℕ) (p : Option ℕ) → position is_sign text ≡ p
    → ((k : ℕ) → 2 < k → k < 6 → k < length text → is_sign (get_or text k 0) ≡ false)
    → None ≡ modifier_before text p
none_at text None e plain = refl
none_at text (Some first) e plain =
    let found : (first ≡ position_or_len is_sign text) × (first < length text) = position-Some text first e in
    let signed : is_sign (get_or text first 0) ≡ true =
    rw (found.0) (passes_at_first is_sign text 0 (omega (arith, found.0, found.1))) in
    ⊎_elim
    (λ near. sym (none_near text first found.1 near))
    (λ le. ⊎_elim
    (λ far. sym (none_far text first found.1 far))
    (λ here. absurd (true≢false (sym signed ∙ plain first (omega arith) (omega arith) found.1)))
    (cases_lt 5 first))
    (cases_lt first 3)

-- no modifier comes first, where no sign is at such a place
no_sign_found : (text : List ℕ)
    → ((k : ℕ) → 2 < k → k < 6 → k < length text → is_sign (get_or text k 0) ≡ false)
    → None ≡ first_modifier text
no_sign_found text plain = none_at text (position is_sign text) refl plain

-- a sign is at the place, or none
abbrev pub IsAt : List ℕ → ℕ → Type 0
IsAt text at = (at < length text) × (is_sign (get_or text at 0) ≡ true)

abbrev pub IsNotAt : List ℕ → ℕ → Type 0
IsNotAt text at = at < length text → is_sign (get_or text at 0) ≡ false

pub at_three : (text : List ℕ) → IsAt text 3 → modifier_before text (Some 3) ≡ first_modifier text
at_three text here = sign_found text 3 here.0 here.1 (λ k more less. absurd (omega arith))

pub at_four : (text : List ℕ) → IsNotAt text 3 → IsAt text 4
    → modifier_before text (Some 4) ≡ first_modifier text
at_four text three here =
    sign_found text 4 here.0 here.1
    (λ k more less. let e : k ≡ 3 = omega arith in rw e (three (omega (arith, here.0))))

pub at_five : (text : List ℕ) → IsNotAt text 3 → IsNotAt text 4 → IsAt text 5
    → modifier_before text (Some 5) ≡ first_modifier text
at_five text three four here =
    sign_found text 5 here.0 here.1
    (λ k more less. ⊎_elim
    (λ low. let e : k ≡ 3 = omega arith in rw e (three (omega (arith, here.0))))
    (λ high. let e : k ≡ 4 = omega arith in rw e (four (omega (arith, here.0))))
    (cases_lt k 4))

pub nowhere : (text : List ℕ) → IsNotAt text 3 → IsNotAt text 4 → IsNotAt text 5
    → None ≡ first_modifier text
nowhere text three four five =
    no_sign_found text
    (λ k more less within. ⊎_elim
    (λ low. ⊎_elim
    (λ lower. let e : k ≡ 3 = omega arith in rw e (three (omega (arith, within))))
    (λ high. let e : k ≡ 4 = omega arith in rw e (four (omega (arith, within))))
    (cases_lt k 4))
    (λ high. let e : k ≡ 5 = omega arith in rw e (five (omega (arith, within))))
    (cases_lt k 5))
