-- Encoding and decoding are inverse to each other.
use Rattle.std.proofs.Common.{◌≡◌, refl, ap, sym, ◌∙◌, subst, ℕ, zero, suc, ◌*◌, ◌<◌, ◌≤◌, ◌^◌, ◌%◌, take}
use Rattle.std.proofs.Common.{◌/◌, Bool, true, false, cond, List, [], ◌∷◌, ◌++◌, length, flat_map, get_or}
use Rattle.std.proofs.Common.{arith}
use Rattle.std.specs.Prelude.{find, nat_lt, ◌==◌, ◌&&◌, if◌then◌else◌, Option, Some, None, Result, Ok, Err}
use Rattle.std.specs.Prelude.{IfOk, IfSome}
use Rattle.std.specs.Int.{w16, from_be_bytes, to_be_bytes}
use Rattle.std.specs.List.{list_all}
use Rattle.std.proofs.lemmas.Bool.{false≢true, ltb-true}
use Rattle.std.proofs.lemmas.List.{take_all}
use Rattle.std.proofs.lemmas.Nat.{from_be_bytes-to_be_bytes_2, be_bytes_2}
use Rattle.std.proofs.lemmas.Bool.Decides.{Decides-eqb}
use Rattle.std.proofs.Math.Nat.{mul-add-mod_self_left}
use Rattle.kb_base.specs.Reading.{◌>>=◌, seen}
use Rattle.kb_code.specs.declared.fault.CodeFault.{CodeFault}
use Rattle.kb_code.specs.declared.fault.CodeFault.TheVariants.{BadLength, BadOperand}
use Rattle.kb_code.specs.declared.instr.Instr.{Instr}
use Rattle.kb_code.specs.declared.instr.Instr.TheVariants as i
use Rattle.kb_code.specs.declared.version.Version.{Version}
use Rattle.kb_code.specs.declared.version.Version.TheVariants.{One, Two}
use Rattle.kb_code.specs.Code.{instr_fault, earlier, first_fault}
use Rattle.kb_code.specs.Instr.{opcode_of, operand_of, instructions}
use Rattle.kb_code.proofs.Tables.{neither}
use Rattle.kb_code.specs.Coding.{bytes_of, allowed, with_operand, instr_at, code_from, code_of, ReadsTheSame}

and_left : (a b : Bool) → (a && b) ≡ true → a ≡ true
and_left true b e = refl
and_left false b e = e

and_right : (a b : Bool) → (a && b) ≡ true → b ≡ true
and_right true b e = e
and_right false b e = absurd (false≢true e)

-- ---- what is read has these bytes

-- what is found passes the test
found_passes : (test : Instr → Bool) (xs : List Instr) → IfSome (find test xs) (λ x. test x ≡ true)
found_passes test [] = tt
found_passes test (x ∷ xs) = by (test x) refl (found_passes test xs) where
  by : (b : Bool) → test x ≡ b → IfSome (find test xs) (λ y. test y ≡ true) →
      IfSome (cond b (Some x) (find test xs)) (λ y. test y ≡ true)
  by true is rest = is
  by false is rest = rest

abbrev Says : ℕ → ℕ → Instr → Type 0
Says opcode operand instr = (opcode_of instr ≡ opcode) × (operand_of instr ≡ operand)

says : (version : Version) (place opcode operand : ℕ) (found : Option Instr) →
    IfSome found (λ x. (opcode_of x == opcode) ≡ true) →
    IfOk (with_operand version place operand found) (Says opcode operand)
says version place opcode operand None passes = tt
says version place opcode operand (Some x) passes = by (instr_fault version place x) where
  test : (b : Bool) → (operand_of x == operand) ≡ b →
      IfOk (if b then Ok x else Err (BadOperand place)) (Says opcode operand)
  test true is = ((Decides-eqb (opcode_of x) opcode).0 passes, (Decides-eqb (operand_of x) operand).0 is)
  test false is = tt

  by : (fault : Option CodeFault) → IfOk (allowed place operand x fault) (Says opcode operand)
  by (Some fault) = tt
  by None = test (operand_of x == operand) refl

instr_says : (version : Version) (place opcode operand : ℕ) →
    IfOk (instr_at version place opcode operand) (Says opcode operand)
unfolding instr_at
instr_says version place opcode operand =
    says version place opcode operand _ (found_passes (λ x. opcode_of x == opcode) (instructions operand))

abbrev AreBytes : List ℕ → Type 0
AreBytes bytes = (i : ℕ) → get_or bytes i 0 < 256

-- of three bytes and what is behind them
three : (opcode high low : ℕ) (rest : List ℕ) (instr : Instr) (code : List Instr) → high < 256 → low < 256 →
    Says opcode (from_be_bytes w16 (high ∷ low ∷ [])) instr → rest ≡ flat_map bytes_of code →
    opcode ∷ high ∷ low ∷ rest ≡ flat_map bytes_of (instr ∷ code)
three opcode high low rest instr code high_is low_is is rest_is =
    let pair : to_be_bytes w16 (operand_of instr) ≡ high ∷ low ∷ [] =
    be_bytes_2 (high ∷ low ∷ []) (operand_of instr) refl small is.1 in
    sym (ap (λ bytes. opcode_of instr ∷ bytes ++ flat_map bytes_of code) pair
    ∙ ap (λ o. o ∷ high ∷ low ∷ flat_map bytes_of code) is.0
    ∙ ap (λ bytes. opcode ∷ high ∷ low ∷ bytes) (sym rest_is)) where
      small : (i : ℕ) → get_or (high ∷ low ∷ []) i 0 < 256
      small zero = high_is
      small (suc zero) = low_is
      small (suc (suc i)) = omega arith

written_from : (version : Version) (k place : ℕ) (bytes : List ℕ) → length bytes ≡ 3 * k → AreBytes bytes →
    IfOk (code_from version place bytes) (λ code. bytes ≡ flat_map bytes_of code)
written_from version k place [] size are = refl
written_from version k place (a ∷ []) size are = absurd (omega (arith, size))
written_from version k place (a ∷ b ∷ []) size are = absurd (omega (arith, size))
written_from version zero place (a ∷ b ∷ c ∷ bytes) size are = absurd (omega (arith, size))
written_from version (suc k) place (a ∷ b ∷ c ∷ bytes) size are =
    by (instr_at version place a operand) (instr_says version place a operand) (code_from version (suc place) bytes)
    (written_from version k (suc place) bytes (omega (arith, size)) (λ i. are (suc (suc (suc i))))) where
      operand : ℕ
      operand = from_be_bytes w16 (b ∷ c ∷ [])

      by : (instr : Result Instr CodeFault) → IfOk instr (Says a operand) →
          (rest : Result (List Instr) CodeFault) → IfOk rest (λ code. bytes ≡ flat_map bytes_of code) →
          IfOk (instr >>= (λ x. seen (λ code. x ∷ code) rest)) (λ code. a ∷ b ∷ c ∷ bytes ≡ flat_map
          bytes_of code)
      by (Ok x) is (Ok code) rest_is = three a b c bytes x code (are 1) (are 2) is rest_is
      by (Ok x) is (Err fault) rest_is = tt
      by (Err fault) is rest rest_is = tt

pub written_again : (version : Version) (bytes : List ℕ) (code : List Instr) → AreBytes bytes → length bytes % 3 ≡ 0 →
    code_from version 0 bytes ≡ Ok code → bytes ≡ flat_map bytes_of code
written_again version bytes code are whole read =
    subst (λ (read : Result (List Instr) CodeFault). IfOk read (λ code. bytes ≡ flat_map bytes_of code)) read
    (written_from version (length bytes / 3) 0 bytes (omega (arith, whole)) are)

-- ---- what is written is read again

kept : {A : Type 0} (n : ℕ) (x y : A) → (if n == n then x else y) ≡ x
kept n x y = rw ((Decides-eqb n n).1 refl) refl

abbrev IsFound : Version → ℕ → Instr → Type 0
IsFound version place instr =
    instr_at version place (opcode_of instr) (operand_of instr)
    ≡ allowed place (operand_of instr) instr (instr_fault version place instr)

found : (version : Version) (place : ℕ) (instr : Instr) → IsFound version place instr
unfolding instr_at
found version place (i.Truth true) = refl
found version place (i.Truth false) = refl
found version place instr = refl

read_itself : (version : Version) (place : ℕ) (instr : Instr) → instr_fault version place instr ≡ None →
    instr_at version place (opcode_of instr) (operand_of instr) ≡ Ok instr
read_itself version place instr none =
    found version place instr ∙ ap (allowed place (operand_of instr) instr) none ∙ kept (operand_of instr) _ _

-- the operand fits two bytes
abbrev pub has_room : Instr → Bool
has_room instr = nat_lt (operand_of instr) 65536

read_from : (version : Version) (place : ℕ) (code : List Instr) → first_fault version place code ≡ None →
    list_all has_room code ≡ true → code_from version place (flat_map bytes_of code) ≡ Ok code
read_from version place [] none room = refl
read_from version place (x ∷ code) none room =
    let nones = neither (instr_fault version place x) (first_fault version (suc place) code) none in
    ap (λ operand. instr_at version place (opcode_of x) operand >>= behind) (from_be_bytes-to_be_bytes_2
    (operand_of x) here)
    ∙ ap (λ instr. instr >>= behind) (read_itself version place x nones.0)
    ∙ ap (seen (λ more. x ∷ more)) (read_from version (suc place) code nones.1 (and_right _ _ room)) where
      behind : Instr → Result (List Instr) CodeFault
      behind instr = seen (λ more. instr ∷ more) (code_from version (suc place) (flat_map bytes_of code))

      here : operand_of x < 2 ^ 16
      here = ltb-true (operand_of x) 65536 (and_left _ _ room)

whole : (code : List Instr) → length (flat_map bytes_of code) ≡ 3 * length code
whole [] = refl
whole (x ∷ code) = omega (arith, whole code)

read_again : (version : Version) (code : List Instr) → first_fault version 0 code ≡ None →
    list_all has_room code ≡ true → code_of version (flat_map bytes_of code) ≡ Ok code
unfolding code_of
read_again version code none room =
    let none_left : (length (flat_map bytes_of code) % 3 == 0) ≡ true =
    (Decides-eqb _ _).1 (omega (arith, whole code, mul-add-mod_self_left 3 (length code) 0)) in
    ap (λ b. if b then code_from version 0 (flat_map bytes_of code) else Err BadLength) none_left
    ∙ read_from version 0 code none room

-- the loop that writes is through
pub all_read_again : (code : List Instr) (bytes : List ℕ) (n : ℕ) → length code ≤ n →
    bytes ≡ flat_map bytes_of (take n code) → list_all has_room (take n code) ≡ true →
    (version : Version) → first_fault version 0 code ≡ None → code_of version bytes ≡ Ok code
all_read_again code bytes n all is room version none =
    let same : take n code ≡ code = take_all n code all in
    ap (code_of version) (is ∙ ap (flat_map bytes_of) same)
    ∙ read_again version code none (sym (ap (list_all has_room) same) ∙ room)

-- ---- what version 1 reads, version 2 reads as the same

same_operand : (place operand : ℕ) (found : Option Instr) (instr : Instr) →
    with_operand One place operand found ≡ Ok instr → with_operand Two place operand found ≡ Ok instr
same_operand place operand None instr e = absurd (cc)
same_operand place operand (Some (i.Repeat n)) instr e = absurd (cc)
same_operand place operand (Some i.End) instr e = absurd (cc)
same_operand place operand (Some x) instr e = e

same_instr : (place opcode operand : ℕ) (instr : Instr) → instr_at One place opcode operand ≡ Ok instr →
    instr_at Two place opcode operand ≡ Ok instr
unfolding instr_at
same_instr place opcode operand instr e =
    same_operand place operand (find (λ x. opcode_of x == opcode) (instructions operand)) instr e

abbrev Joined : Result Instr CodeFault → Result (List Instr) CodeFault → Result (List Instr) CodeFault
Joined instr rest = instr >>= (λ x. seen (λ code. x ∷ code) rest)

joined : (a b : Result Instr CodeFault) (r s : Result (List Instr) CodeFault) (code : List Instr) →
    ((x : Instr) → a ≡ Ok x → b ≡ Ok x) → ((more : List Instr) → r ≡ Ok more → s ≡ Ok more) →
    Joined a r ≡ Ok code → Joined b s ≡ Ok code
joined (Err fault) b r s code first rest e = absurd (cc)
joined (Ok x) b (Err fault) s code first rest e = absurd (cc)
joined (Ok x) b (Ok more) s code first rest e =
    ap (λ (a : Result Instr CodeFault). Joined a s) (first x refl)
    ∙ ap (seen (λ code. x ∷ code)) (rest more refl) ∙ e

same_from : (place : ℕ) (bytes : List ℕ) (code : List Instr) → code_from One place bytes ≡ Ok code →
    code_from Two place bytes ≡ Ok code
same_from place [] code e = e
same_from place (a ∷ []) code e = e
same_from place (a ∷ b ∷ []) code e = e
same_from place (a ∷ b ∷ c ∷ bytes) code e =
    joined _ _ _ _ code (same_instr place a (from_be_bytes w16 (b ∷ c ∷ []))) (same_from (suc place) bytes) e

pub reads_the_same : ReadsTheSame
unfolding code_of
reads_the_same bytes code e = by (length bytes % 3 == 0) e where
  by : (b : Bool) → (if b then code_from One 0 bytes else Err BadLength) ≡ Ok code →
      (if b then code_from Two 0 bytes else Err BadLength) ≡ Ok code
  by true e = same_from 0 bytes code e
  by false e = absurd (cc)
