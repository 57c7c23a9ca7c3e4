-- Decoding one more instruction.
use Rattle.std.proofs.Common.{◌≡◌, refl, ap, sym, ◌∙◌, ℕ, suc, ◌+◌, ◌-◌, ◌≤◌, List, [], ◌∷◌, ◌++◌, length}
use Rattle.std.proofs.Common.{take, drop, slice_index_or, Result, Ok, Err, append_assoc, length-append}
use Rattle.std.proofs.Common.{arith}
use Rattle.std.specs.Int.{w16, from_be_bytes}
use Rattle.std.proofs.lemmas.List.{take_rest}
use Rattle.kb_base.specs.Reading.{◌>>=◌, seen}
use Rattle.kb_code.specs.declared.fault.CodeFault.{CodeFault}
use Rattle.kb_code.specs.declared.instr.Instr.{Instr}
use Rattle.kb_code.specs.declared.version.Version.{Version}
use Rattle.kb_code.specs.Coding.{code_from, failure_of, instr_at}

-- what is read behind one more is read behind it
seen_behind : (done : List Instr) (instr : Instr) (read : Result (List Instr) CodeFault) →
    seen (λ more. done ++ more) (seen (λ more. instr ∷ more) read) ≡ seen (λ more. (done ++ instr ∷ []) ++
    more) read
seen_behind done instr (Ok more) = ap (λ xs. Ok xs) (sym (append_assoc done (instr ∷ []) more))
seen_behind done instr (Err fault) = refl

-- three bytes, and what is left behind them
behind : (version : Version) (place : ℕ) (instr : Instr) (left : List ℕ) → 3 ≤ length left →
    instr_at version place (slice_index_or left 0 0)
    (from_be_bytes w16 (slice_index_or left 1 0 ∷ slice_index_or left 2 0 ∷ [])) ≡ Ok instr →
    code_from version place left ≡ seen (λ more. instr ∷ more) (code_from version (suc place) (drop 3 left))
behind version place instr [] few e = search arith
behind version place instr (a ∷ []) few e = search arith
behind version place instr (a ∷ b ∷ []) few e = search arith
behind version place instr (a ∷ b ∷ c ∷ left) few e =
    ap (λ r. r >>= (λ i. seen (λ more. i ∷ more) (code_from version (suc place) left))) e

same_failure : (instr : Instr) (read : Result (List Instr) CodeFault) →
    failure_of (seen (λ more. instr ∷ more) read) ≡ failure_of read
same_failure instr (Ok more) = refl
same_failure instr (Err fault) = refl

-- behind an instruction the first fault is the same
pub passed_over : (version : Version) (place : ℕ) (instr : Instr) (left : List ℕ) {operand : ℕ} → 3 ≤ length left →
    operand ≡ from_be_bytes w16 (slice_index_or left 1 0 ∷ slice_index_or left 2 0 ∷ []) →
    instr_at version place (slice_index_or left 0 0) operand ≡ Ok instr →
    failure_of (code_from version place left) ≡ failure_of (code_from version (place + 1) (take (length left - 3) (drop 3
    left)))
passed_over version place instr left few operand_is e =
    let next : place + 1 ≡ suc place = omega arith in
    rw (take_rest left 3, next)
    (ap failure_of (behind version place instr left few (rw (sym operand_is) e))
    ∙ same_failure instr (code_from version (suc place) (drop 3 left)))

pub read_next : (version : Version) (done made : List Instr) (instr : Instr) (left : List ℕ) {place operand : ℕ} → 3 ≤ length
    left →
    place ≡ length done → operand ≡ from_be_bytes w16 (slice_index_or left 1 0 ∷ slice_index_or left 2 0 ∷
    []) →
    instr_at version place (slice_index_or left 0 0) operand ≡ Ok instr → made ≡ done ++ instr ∷ [] →
    seen (λ more. done ++ more) (code_from version (length done) left)
    ≡ seen (λ more. made ++ more) (code_from version (length made) (take (length left - 3) (drop 3 left)))
read_next version done made instr left few place_is operand_is e made_is =
    let size : length (done ++ instr ∷ []) ≡ suc (length done) = omega (
      arith,
      length-append done (instr ∷
          []),
    ) in
    rw (made_is, take_rest left 3, size)
    (ap (seen (λ more. done ++ more)) (behind version (length done) instr left few (rw (
      sym place_is,
      sym
          operand_is,
    ) e))
    ∙ seen_behind done instr (code_from version (suc (length done)) (drop 3 left)))
