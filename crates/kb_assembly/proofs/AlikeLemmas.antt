-- Code is written alike with labels that differ in their lines alone.
use Rattle.std.proofs.Common.{◌≡◌, refl, sym, ap, ◌∙◌, ℕ, ◌+◌, List, [], ◌∷◌, ◌++◌, Bool, true, false, cond}
use Rattle.std.proofs.Common.{Option, Some, None, option_map, option_and_then}
use Rattle.std.specs.Prelude.{if◌then◌else◌, bytes_eq}
use Rattle.kb_code.specs.declared.instr.Instr.{Instr}
use Rattle.kb_code.specs.Instr.{operand_of}
use Rattle.kb_assembly.specs.declared.mnemonic.Space.{Space}
use Rattle.kb_assembly.specs.declared.mnemonic.Space.TheVariants as space
use Rattle.kb_assembly.specs.declared.names.Names.{Names}
use Rattle.kb_assembly.specs.declared.table.Label.{Label}
use Rattle.kb_assembly.specs.declared.words.Word.{Word}
use Rattle.kb_assembly.specs.Code.{with_labels, made_here, next_line, made, label_lines, lines_from}
use Rattle.kb_assembly.specs.Line.{written_word, written_operand, written, bare}
use Rattle.kb_assembly.specs.Mnemonic.{name_of, mnemonic_of, space_of}
use Rattle.kb_assembly.specs.Names.{label_named, label_name, found, short, name_in, is_number, chosen}
use Rattle.kb_assembly.specs.Targets.{is_target}

-- labels with the same names and places
abbrev pub Alike : List Label → List Label → Type 0
Alike [] [] = Unit {0}
Alike [] (y ∷ ys) = ⊥
Alike (x ∷ xs) [] = ⊥
Alike (x ∷ xs) (y ∷ ys) = ((x.name ≡ y.name) × (x.place ≡ y.place)) × Alike xs ys

named_alike : (xs ys : List Label) (name : List ℕ) → Alike xs ys →
    (option_map (λ (label : Label). label.place) (label_named xs name) ≡ option_map (λ (label : Label). label.place) (label_named ys name))
    × (option_map (λ (label : Label). label.name) (label_named xs name) ≡ option_map (λ (label : Label). label.name) (label_named ys name))
named_alike [] [] name e = (refl, refl)
named_alike [] (y ∷ ys) name e = absurd e
named_alike (x ∷ xs) [] name e = absurd e
named_alike (x ∷ xs) (y ∷ ys) name e =
    let rest = named_alike xs ys name e.1 in
    let same : bytes_eq x.name name ≡ bytes_eq y.name name = ap (λ n. bytes_eq n name) e.0.0 in
    by (bytes_eq x.name name) (bytes_eq y.name name) same rest
  where
    by : (a b : Bool) → a ≡ b →
        (option_map (λ (label : Label). label.place) (label_named xs name) ≡ option_map (λ (label : Label). label.place) (label_named ys name))
        × (option_map (λ (label : Label). label.name) (label_named xs name) ≡ option_map (λ (label : Label). label.name) (label_named ys name)) →
        (option_map (λ (label : Label). label.place) (cond a (Some x) (label_named xs name))
        ≡ option_map (λ (label : Label). label.place) (cond b (Some y) (label_named ys name)))
        × (option_map (λ (label : Label). label.name) (cond a (Some x) (label_named xs name))
        ≡ option_map (λ (label : Label). label.name) (cond b (Some y) (label_named ys name)))
    by true true same rest = (ap Some e.0.1, ap Some e.0.0)
    by false false same rest = rest
    by true false same rest = absurd (cc)
    by false true same rest = absurd (cc)

made_alike : (code : List Instr) (a b place : ℕ) (rest : List Instr) → Alike (made code a place rest) (made code b place rest)
made_alike code a b place [] = here (is_target code place) where
  here : (t : Bool) → Alike (made_here t a place) (made_here t b place)
  here true = ((refl, refl), tt)
  here false = tt
made_alike code a b place (x ∷ rest) =
    here (is_target code place) (made_alike code (next_line (is_target code place) a + 1) (next_line (is_target code place) b + 1) (place + 1) rest)
  where
    here : (t : Bool) →
        Alike (made code (next_line (is_target code place) a + 1) (place + 1) rest) (made code (next_line (is_target code place) b + 1) (place + 1) rest) →
        Alike (made_here t a place ++ made code (next_line (is_target code place) a + 1) (place + 1) rest)
        (made_here t b place ++ made code (next_line (is_target code place) b + 1) (place + 1) rest)
    here true more = ((refl, refl), more)
    here false more = more

-- names with the same texts, calls and parameters, and labels alike
module _ (texts calls params : List (List ℕ)) (xs ys : List Label) (alike : Alike xs ys) where
  abbrev first : Names
  first = with_labels texts calls params xs

  abbrev second : Names
  second = with_labels texts calls params ys

  found_alike : (kind : Space) (name : List ℕ) → found first kind name ≡ found second kind name
  found_alike space.Texts name = refl
  found_alike space.Keys name = refl
  found_alike space.Calls name = refl
  found_alike space.Params name = refl
  found_alike space.Labels name = (named_alike xs ys name alike).0
  found_alike space.Nothing name = refl
  found_alike space.Number name = refl

  name_alike : (kind : Space) (n : ℕ) → name_in first kind n ≡ name_in second kind n
  name_alike space.Texts n = refl
  name_alike space.Keys n = refl
  name_alike space.Calls n = refl
  name_alike space.Params n = refl
  name_alike space.Labels n = (named_alike xs ys (label_name n) alike).1
  name_alike space.Nothing n = refl
  name_alike space.Number n = refl

  chosen_alike : (kind : Space) (n : ℕ) → chosen first kind n ≡ chosen second kind n
  chosen_alike kind n =
      ap (option_and_then (λ name. if is_number (short (found first kind name)) n then Some name else None)) (name_alike kind n)
      ∙ by (name_in second kind n)
    where
      by : (o : Option (List ℕ)) →
          option_and_then (λ name. if is_number (short (found first kind name)) n then Some name else None) o
          ≡ option_and_then (λ name. if is_number (short (found second kind name)) n then Some name else None) o
      by None = refl
      by (Some name) = ap (λ o. if is_number (short o) n then Some name else None) (found_alike kind name)

  operand_alike : (kind : Space) (n : ℕ) → written_operand first kind n ≡ written_operand second kind n
  operand_alike space.Nothing n = refl
  operand_alike space.Number n = refl
  operand_alike space.Texts n = ap (λ o. written_word space.Texts n o ∷ []) (chosen_alike space.Texts n)
  operand_alike space.Keys n = ap (λ o. written_word space.Keys n o ∷ []) (chosen_alike space.Keys n)
  operand_alike space.Calls n = ap (λ o. written_word space.Calls n o ∷ []) (chosen_alike space.Calls n)
  operand_alike space.Params n = ap (λ o. written_word space.Params n o ∷ []) (chosen_alike space.Params n)
  operand_alike space.Labels n = ap (λ o. written_word space.Labels n o ∷ []) (chosen_alike space.Labels n)

  written_alike : (instr : Instr) → written first instr ≡ written second instr
  written_alike instr =
      ap (λ words. bare (name_of (mnemonic_of instr)) ∷ words) (operand_alike (space_of (mnemonic_of instr)) (operand_of instr))

  lines_alike : (code : List Instr) (place : ℕ) (rest : List Instr) → lines_from code first place rest ≡ lines_from code second place rest
  lines_alike code place [] = refl
  lines_alike code place (x ∷ rest) =
      ap (λ words. label_lines (is_target code place) place ++ words ∷ lines_from code first (place + 1) rest) (written_alike x)
      ∙ ap (λ more. label_lines (is_target code place) place ++ written second x ∷ more) (lines_alike code (place + 1) rest)

pub code_alike : (texts calls params : List (List ℕ)) (code : List Instr) (a b : ℕ) →
    lines_from code (with_labels texts calls params (made code a 0 code)) 0 code
    ≡ lines_from code (with_labels texts calls params (made code b 0 code)) 0 code
code_alike texts calls params code a b =
    lines_alike texts calls params (made code a 0 code) (made code b 0 code) (made_alike code a b 0 code) code 0 code
