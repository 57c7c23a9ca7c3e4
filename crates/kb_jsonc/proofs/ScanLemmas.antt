-- The invariant of the pass: the bytes done, and the result of the rest.
use Rattle.std.proofs.Common.{◌≡◌, ℕ, zero, ◌-◌, ◌<◌, suc, Bool, true, false, ◌&&◌, List, [], ◌∷◌, ◌++◌}
use Rattle.std.proofs.Common.{length, get_or, set, drop, map, Option, Some, None, IfSome, Result, Ok, Err}
use Rattle.std.proofs.Common.{refl, sym, ap, ◌∙◌, arith, eqb, append_assoc}
use Rattle.std.specs.Prelude.{if◌then◌else◌}
use Rattle.std.proofs.lemmas.Bool.{false≢true}
use Rattle.std.proofs.lemmas.Bool.Decides.{nat_tests}
use Rattle.std.proofs.lemmas.List.{set-append_left, set_at}
use Rattle.kb_jsonc.specs.declared.fault.JsoncFault.{JsoncFault}
use Rattle.kb_base.specs.Reading.{◌>>=◌}
use Rattle.kb_jsonc.specs.Scan.{settled, whole_of, continued}
use Rattle.kb_base.specs.Blank.{is_blank}
use Rattle.kb_jsonc.specs.Bytes.{space, blanked, closes, ends_value}
use Rattle.kb_jsonc.specs.Pieces.{Piece, quoted, comment, single, bytes_of, first_piece, pieces_past, pieces}
use Rattle.kb_jsonc.specs.Text.{next_of, plain_of}

pub pieces_past-drop : (n : ℕ) (bs : List ℕ) → pieces_past n bs ≡ pieces (drop n bs)
pieces_past-drop zero bs = refl
pieces_past-drop (suc n) [] = refl
pieces_past-drop (suc n) (b ∷ bs) = pieces_past-drop n bs

-- the piece that stands first, before the others
pub pieces_more : (b : ℕ) (bs : List ℕ) (piece : Piece) (n : ℕ) → first_piece b bs ≡ Ok piece
    → length (bytes_of piece) ≡ suc n → pieces (b ∷ bs) ≡ (pieces (drop n bs) >>= λ ps. Ok (piece ∷ ps))
pieces_more b bs piece n e l =
    let k : length (bytes_of piece) - 1 ≡ n = omega arith in
    ap (λ r. r >>= λ p. pieces_past (length (bytes_of p) - 1) bs >>= λ ps. Ok (p ∷ ps)) e
    ∙ ap (λ m. pieces_past m bs >>= λ ps. Ok (piece ∷ ps)) k
    ∙ ap (λ r. r >>= λ ps. Ok (piece ∷ ps)) (pieces_past-drop n bs)

pub pieces_fault : (b : ℕ) (bs : List ℕ) (fault : JsoncFault) → first_piece b bs ≡ Err fault
    → pieces (b ∷ bs) ≡ Err fault
pieces_fault b bs fault e =
    ap (λ r. r >>= λ p. pieces_past (length (bytes_of p) - 1) bs >>= λ ps. Ok (p ∷ ps)) e

-- one piece more is done
put_first : (r : Result (List Piece) JsoncFault) (piece : Piece) (f g : List Piece → List ℕ)
    → ((ps : List Piece) → f (piece ∷ ps) ≡ g ps)
    → ((r >>= λ ps. Ok (piece ∷ ps)) >>= λ ps. Ok (f ps)) ≡ (r >>= λ ps. Ok (g ps))
put_first (Ok ps) piece f g e = ap Ok (e ps)
put_first (Err fault) piece f g e = refl

pub continued_more : (done : List ℕ) (mark before : Option ℕ) (rest : List ℕ) (piece : Piece) (n : ℕ)
    (done' : List ℕ) (mark' before' : Option ℕ) → first_piece (get_or rest 0 0) (drop 1 rest) ≡ Ok piece
    → length (bytes_of piece) ≡ n → 0 < n → 0 < length rest
    → ((ps : List Piece) → whole_of done mark before (piece ∷ ps) ≡ whole_of done' mark' before' ps)
    → continued done mark before rest ≡ continued done' mark' before' (drop n rest)
unfolding continued
continued_more done mark before [] piece n done' mark' before' e l p q same = absurd (omega arith)
continued_more done mark before (b ∷ bs) piece zero done' mark' before' e l p q same = absurd (omega arith)
continued_more done mark before (b ∷ bs) piece (suc n) done' mark' before' e l p q same =
    ap (λ r. r >>= λ ps. Ok (whole_of done mark before ps)) (pieces_more b bs piece n e l)
    ∙ put_first (pieces (drop n bs)) piece (whole_of done mark before) (whole_of done' mark' before') same

pub continued_fault : (done : List ℕ) (mark before : Option ℕ) (rest : List ℕ) (fault : JsoncFault)
    → first_piece (get_or rest 0 0) (drop 1 rest) ≡ Err fault → 0 < length rest
    → continued done mark before rest ≡ Err fault
unfolding continued
continued_fault done mark before [] fault e q = absurd (omega arith)
continued_fault done mark before (b ∷ bs) fault e q =
    ap (λ r. r >>= λ ps. Ok (whole_of done mark before ps)) (pieces_fault b bs fault e)

-- each kind of piece
settled_quote : (done : List ℕ) (mark : Option ℕ) → settled done mark (Some 34) ≡ done
settled_quote done None = refl
settled_quote done (Some place) = refl

pub after_quoted : (done bytes : List ℕ) (mark before : Option ℕ) (ps : List Piece)
    → whole_of done mark before (quoted bytes ∷ ps) ≡ whole_of (done ++ bytes) None (Some 34) ps
after_quoted done bytes mark before ps =
    rw (settled_quote done mark) (sym (append_assoc done bytes (plain_of (Some 34) ps)))

settled-append : (done more : List ℕ) (mark after : Option ℕ) → IfSome mark (λ place. place < length done)
    → settled (done ++ more) mark after ≡ settled done mark after ++ more
settled-append done more None after l = refl
settled-append done more (Some place) after l =
    elim (closes after) as
    (λ t. (if t then set (done ++ more) place space else (done ++ more))
    ≡ (if t then set done place space else done) ++ more) [
      | true ↦
          set-append_left done more place space l
      | false ↦ refl
    ]

pub after_comment : (done bytes : List ℕ) (mark before : Option ℕ) (ps : List Piece)
    → IfSome mark (λ place. place < length done)
    → whole_of done mark before (comment bytes ∷ ps) ≡ whole_of (done ++ map blanked bytes) mark before ps
after_comment done bytes mark before ps l =
    rw (settled-append done (map blanked bytes) mark (next_of ps) l)
    (sym (append_assoc (settled done mark (next_of ps)) (map blanked bytes) (plain_of before ps)))

pub after_blank : (done : List ℕ) (b : ℕ) (mark before : Option ℕ) (ps : List Piece)
    → IfSome mark (λ place. place < length done) → is_blank b ≡ true
    → whole_of done mark before (single b ∷ ps) ≡ whole_of (done ++ b ∷ []) mark before ps
after_blank done b mark before ps l e =
    let no : eqb b 44 ≡ false = grind (arith, nat_tests) in
    rw (settled-append done (b ∷ []) mark (next_of ps) l, e, no)
    (sym (append_assoc (settled done mark (next_of ps)) (b ∷ []) (plain_of before ps)))

-- a byte that isn't blank, before which the comma at `place` is trailing
pub after_closing : (done : List ℕ) (b place : ℕ) (before : Option ℕ) (ps : List Piece) → is_blank b ≡ false
    → closes (Some b) ≡ true
    → whole_of done (Some place) before (single b ∷ ps)
    ≡ whole_of (set done place space ++ b ∷ []) None (Some b) ps
after_closing done b place before ps e c =
    let no : eqb b 44 ≡ false = grind (arith, nat_tests) in
    rw (e, c, no) (sym (append_assoc (set done place space) (b ∷ []) (plain_of (Some b) ps)))

settled_open : (done : List ℕ) (b : ℕ) (mark : Option ℕ) → IfSome mark (λ _. closes (Some b) ≡ false)
    → settled done mark (Some b) ≡ done
settled_open done b None c = refl
settled_open done b (Some place) c = rw c refl

no_trailing : (s t u : Bool) → (s && t) ≡ false → (s && (t && u)) ≡ false
no_trailing false t u e = refl
no_trailing true false u e = refl
no_trailing true true u e = absurd (false≢true (sym e))

-- any other that isn't blank
pub after_single : (done : List ℕ) (b : ℕ) (mark before : Option ℕ) (ps : List Piece) → is_blank b ≡ false
    → (eqb b 44 && ends_value before) ≡ false → IfSome mark (λ _. closes (Some b) ≡ false)
    → whole_of done mark before (single b ∷ ps) ≡ whole_of (done ++ b ∷ []) None (Some b) ps
after_single done b mark before ps e t c =
    rw (e, settled_open done b mark c, no_trailing (eqb b 44) (ends_value before) (closes (next_of ps)) t)
    (sym (append_assoc done (b ∷ []) (plain_of (Some b) ps)))

settled_comma : (done : List ℕ) (mark : Option ℕ) → settled done mark (Some 44) ≡ done
settled_comma done None = refl
settled_comma done (Some place) = refl

-- a comma that may be trailing
pub after_comma : (done : List ℕ) (mark before : Option ℕ) (ps : List Piece) → ends_value before ≡ true
    → whole_of done mark before (single 44 ∷ ps)
    ≡ whole_of (done ++ 44 ∷ []) (Some (length done)) (Some 44) ps
after_comma done mark before ps t =
    let rest = plain_of (Some 44) ps in
    rw (settled_comma done mark, t)
    (elim (closes (next_of ps)) as
    (λ v. (done ++ (if v then 32 else 44) ∷ rest)
    ≡ ((if v then set (done ++ 44 ∷ []) (length done) 32 else (done ++ 44 ∷ [])) ++ rest)) [
      | true ↦ rw (set_at done 44 [] 32 (length done) refl) (sym (append_assoc done (32 ∷ []) rest))
      | false ↦ sym (append_assoc done (44 ∷ []) rest)
    ])
