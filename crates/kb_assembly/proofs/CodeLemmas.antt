-- The lines of code are read as the code again.
use Rattle.std.proofs.Common.{◌≡◌, ◌≢◌, refl, sym, ap, ◌∙◌, ℕ, ◌+◌, ◌<◌, ◌^◌, List, [], ◌∷◌, ◌++◌}
use Rattle.std.proofs.Common.{length, drop, get_or, Bool, true, false, cond, Option, Some, None, option_map, Result, Ok, Err}
use Rattle.std.proofs.Common.{arith, append_assoc}
use Rattle.std.specs.Prelude.{◌==◌, ◌&&◌, if◌then◌else◌, MatchOption, bytes_eq, decimal, IfOk}
use Rattle.std.specs.Borrow.{Bor}
use Rattle.std.specs.List.{list_all}
use Rattle.std.proofs.lemmas.List.{append-nil, drop_more}
use Rattle.std.proofs.lemmas.Bool.{false≢true, ltb-true}
use Rattle.std.proofs.lemmas.Bool.Decides.{Decides-eqb}
use Rattle.std.proofs.lemmas.Fmt.{decimal_injective}
use Rattle.std.proofs.lemmas.Slice.Eq.{bytes_eq-Decides}
use Rattle.kb_base.specs.Reading.{◌>>=◌, seen}
use Rattle.kb_code.specs.declared.instr.Instr.{Instr}
use Rattle.kb_code.specs.declared.instr.Instr.TheVariants as i
use Rattle.kb_code.specs.Instr.{operand_of}
use Rattle.kb_assembly.specs.declared.code.TextFault.{TextFault}
use Rattle.kb_assembly.specs.declared.fault.Mistake.TheVariants.{DoubleLabel}
use Rattle.kb_assembly.specs.declared.table.Label.{Label}
use Rattle.kb_assembly.specs.declared.names.Names.{Names}
use Rattle.kb_assembly.specs.declared.words.Word.{Word}
use Rattle.kb_assembly.specs.Names.{label_named, label_name}
use Rattle.kb_assembly.specs.Line.{fault_at, written}
use Rattle.kb_assembly.specs.Targets.{is_target}
use Rattle.kb_assembly.specs.Code.{before_colon, label_part, instr_part, part_by, part_of, noted, behind}
use Rattle.kb_assembly.specs.Code.{labels_of, text_fault, in_line, is_first, part_read, instrs_of, with_labels, assembled}
use Rattle.kb_assembly.specs.Code.{made_here, next_line, made, label_line, label_lines, lines_from, lines_of}
use Rattle.kb_assembly.specs.Code.{has_room, one}
use Rattle.kb_assembly.proofs.LineLemmas.{read_again}

-- ---- a colon at the end

pub colon_behind : (text : List ℕ) → before_colon (text ++ 58 ∷ []) ≡ Some text
colon_behind [] = refl
colon_behind (b ∷ []) = refl
colon_behind (b ∷ c ∷ bs) = ap (option_map (λ text. b ∷ text)) (colon_behind (c ∷ bs))

colon_is : (bs text : List ℕ) → before_colon bs ≡ Some text → bs ≡ text ++ 58 ∷ []
colon_is [] text e = absurd (cc)
colon_is (b ∷ []) text e = by (b == 58) refl e where
  by : (t : Bool) → (b == 58) ≡ t → (if t then Some [] else None) ≡ Some text → b ∷ [] ≡ text ++ 58 ∷ []
  by true is e =
      let x : [] ≡ text = cc in
      ap (λ c. c ∷ []) ((Decides-eqb b 58).0 is) ∙ ap (λ t. t ++ 58 ∷ []) x
  by false is e = absurd (cc)
colon_is (b ∷ c ∷ bs) text e = by (before_colon (c ∷ bs)) refl e (colon_is (c ∷ bs)) where
  by : (o : Option (List ℕ)) → before_colon (c ∷ bs) ≡ o → option_map (λ text. b ∷ text) o ≡ Some text →
      ((text : List ℕ) → before_colon (c ∷ bs) ≡ Some text → c ∷ bs ≡ text ++ 58 ∷ []) → b ∷ c ∷ bs ≡ text ++ 58 ∷ []
  by None is e rest = absurd (cc)
  by (Some t) is e rest =
      let x : b ∷ t ≡ text = cc in
      ap (λ xs. b ∷ xs) (rest t is) ∙ ap (λ t. t ++ 58 ∷ []) x

pub colon_found : (bs : List ℕ) (r : Option (Bor (List ℕ))) →
    MatchOption r ((front : List ℕ) → bs ≢ front ++ (58 ∷ [])) (λ x. bs ≡ x.now ++ (58 ∷ [])) →
    option_map (λ x. x.now) r ≡ before_colon bs
colon_found bs (Some x) e = sym (ap before_colon e ∙ colon_behind x.now)
colon_found bs None none = by (before_colon bs) refl where
  by : (o : Option (List ℕ)) → before_colon bs ≡ o → None ≡ o
  by None e = refl
  by (Some t) e = absurd (none t (colon_is bs t e))

-- ---- what the lines are

part_of_label : (place : ℕ) → part_of (label_line place) ≡ label_part (label_name place)
part_of_label place = ap (λ o. part_by o (label_line place)) (colon_behind (label_name place))

part_of_instr : (names : Names) (instr : Instr) → part_of (written names instr) ≡ instr_part
part_of_instr names (i.Truth true) = refl
part_of_instr names (i.Truth false) = refl
part_of_instr names instr = refl

-- ---- the labels of the lines

label_here : (t : Bool) (line place : ℕ) (lines : List (List Word)) →
    labels_of line place (label_lines t place ++ lines) ≡ made_here t line place ++ labels_of (next_line t line) place lines
label_here true line place lines =
    ap (λ part. noted part line place ++ labels_of (line + 1) (behind part place) lines) (part_of_label place)
label_here false line place lines = refl

pub labels_made : (code : List Instr) (names : Names) (line place : ℕ) (rest : List Instr) →
    labels_of line place (lines_from code names place rest) ≡ made code line place rest
labels_made code names line place [] = by (is_target code place) where
  by : (t : Bool) → labels_of line place (label_lines t place) ≡ made_here t line place
  by true = ap (λ part. noted part line place ++ []) (part_of_label place)
  by false = refl
labels_made code names line place (x ∷ rest) =
    let t = is_target code place in
    let more = lines_from code names (place + 1) rest in
    label_here t line place (written names x ∷ more)
    ∙ ap (λ part. made_here t line place ++ (noted part (next_line t line) place
    ++ labels_of (next_line t line + 1) (behind part place) more)) (part_of_instr names x)
    ∙ ap (λ labels. made_here t line place ++ labels) (labels_made code names (next_line t line + 1) (place + 1) rest)

-- ---- each label is the first of its name

-- labels of places before one
abbrev pub Older : List Label → ℕ → Type 0
Older [] place = Unit {0}
Older (label ∷ labels) place = ((q : ℕ) × (label.name ≡ label_name q) × (q < place)) × Older labels place

older_later : (labels : List Label) (place : ℕ) → Older labels place → Older labels (place + 1)
older_later [] place older = tt
older_later (label ∷ labels) place older =
    let p = older.0 in let less = p.2 in
    ((p.0, p.1, omega (arith, less)), older_later labels place older.1)

older_more : (labels : List Label) (t : Bool) (line place : ℕ) → Older labels place →
    Older (labels ++ made_here t line place) (place + 1)
older_more [] true line place older = ((place, refl, omega arith), tt)
older_more [] false line place older = tt
older_more (label ∷ labels) t line place older =
    let p = older.0 in let less = p.2 in
    ((p.0, p.1, omega (arith, less)), older_more labels t line place older.1)

tail_same : (a b : ℕ) (xs ys : List ℕ) → a ∷ xs ≡ b ∷ ys → xs ≡ ys
tail_same a b xs ys e = cc

first_named : (before : List Label) (label : Label) (more : List Label) (place : ℕ) → place < 2 ^ 64 →
    Older before place → label.name ≡ label_name place →
    label_named (before ++ label ∷ more) (label_name place) ≡ Some label
first_named [] label more place few older e =
    ap (λ b. cond b (Some label) (label_named more (label_name place)))
    ((bytes_eq-Decides label.name (label_name place)).1 e)
first_named (x ∷ before) label more place few older e =
    by (bytes_eq x.name (label_name place)) refl (first_named before label more place few older.1 e) where
      by : (b : Bool) → bytes_eq x.name (label_name place) ≡ b →
          label_named (before ++ label ∷ more) (label_name place) ≡ Some label →
          cond b (Some x) (label_named (before ++ label ∷ more) (label_name place)) ≡ Some label
      by true is rest =
          let p = older.0 in
          let less = p.2 in
          let same : label_name p.0 ≡ label_name place = sym p.1 ∙ (bytes_eq-Decides x.name (label_name place)).0 is in
          let d : decimal p.0 ≡ decimal place = tail_same 76 76 (decimal p.0) (decimal place) same in
          let q : p.0 ≡ place = decimal_injective p.0 place (omega (arith, less, few)) few d in
          absurd (omega (arith, less, q))
      by false is rest = rest

is_first_here : (line : ℕ) (o : Option Label) (label : Label) → o ≡ Some label → label.line ≡ line → is_first line o ≡ true
is_first_here line o label e is = ap (is_first line) e ∙ (Decides-eqb label.line line).1 is

-- ---- the instructions of the lines

seen_nothing : (r : Result (List Instr) TextFault) → seen (λ more. [] ++ more) r ≡ r
seen_nothing (Ok code) = refl
seen_nothing (Err fault) = refl

label_passed : (names : Names) (t : Bool) (before more : List Label) (line place : ℕ) (lines : List (List Word)) →
    place < 2 ^ 64 → Older before place → names.labels ≡ before ++ (made_here t line place ++ more) →
    instrs_of names line (label_lines t place ++ lines) ≡ instrs_of names (next_line t line) lines
label_passed names false before more line place lines few older e = refl
label_passed names true before more line place lines few older e =
    let label : Label = record { name = label_name place; place = place; line = line } in
    let found : label_named names.labels (label_name place) ≡ Some label =
    ap (λ labels. label_named labels (label_name place)) e ∙ first_named before label more place few older refl in
    let behind : Result (List Instr) TextFault → Result (List Instr) TextFault =
    λ r. r >>= λ first. seen (λ more. first ++ more) (instrs_of names (line + 1) lines) in
    ap (λ part. behind (part_read names line part (label_line place))) (part_of_label place)
    ∙ ap (λ b. behind (if b then Ok [] else Err (text_fault line (fault_at 0 DoubleLabel))))
    (is_first_here line (label_named names.labels (label_name place)) label found refl)
    ∙ seen_nothing (instrs_of names (line + 1) lines)

both : (a b : Bool) → a && b ≡ true → (a ≡ true) × (b ≡ true)
both true b h = (refl, h)
both false b h = absurd (false≢true h)

pub code_read : (code : List Instr) (names : Names) (before : List Label) (line place : ℕ) (rest : List Instr) →
    place + length rest < 2 ^ 64 → list_all has_room rest ≡ true → Older before place →
    names.labels ≡ before ++ made code line place rest →
    instrs_of names line (lines_from code names place rest) ≡ Ok rest
code_read code names before line place [] few room older e =
    let t = is_target code place in
    sym (ap (instrs_of names line) (append-nil (label_lines t place)))
    ∙ label_passed names t before [] line place [] (omega (arith, few)) older
    (e ∙ sym (ap (λ labels. before ++ labels) (append-nil (made_here t line place))))
code_read code names before line place (x ∷ rest) few room older e =
    let t = is_target code place in
    let p = both (has_room x) (list_all has_room rest) room in
    let next = next_line t line in
    let more = lines_from code names (place + 1) rest in
    let made_more = made code (next + 1) (place + 1) rest in
    let behind : Result (List Instr) TextFault → Result (List Instr) TextFault =
    λ r. r >>= λ first. seen (λ more. first ++ more) (instrs_of names (next + 1) more) in
    label_passed names t before made_more line place (written names x ∷ more) (omega (arith, few)) older e
    ∙ ap (λ part. behind (part_read names next part (written names x))) (part_of_instr names x)
    ∙ ap (λ r. behind (in_line next (seen (λ i. i ∷ []) r))) (read_again names x (ltb-true (operand_of x) 65536 p.0))
    ∙ ap (seen (λ more. x ∷ more)) (code_read code names (before ++ made_here t line place) (next + 1) (place + 1) rest
    (omega (arith, few)) p.1 (older_more before t line place older)
    (e ∙ sym (append_assoc before (made_here t line place) made_more)))

pub assembled_again : (texts calls params : List (List ℕ)) (code : List Instr) → length code < 2 ^ 64 →
    list_all has_room code ≡ true → assembled texts calls params (lines_of texts calls params code) ≡ Ok code
assembled_again texts calls params code few room =
    let names = with_labels texts calls params (made code 0 0 code) in
    ap (λ labels. instrs_of (with_labels texts calls params labels) 0 (lines_from code names 0 code))
    (labels_made code names 0 0 code)
    ∙ code_read code names [] 0 0 code (omega (arith, few)) room tt refl

pub given_again : {E : Type 0} (texts calls params : List (List ℕ)) (code : List Instr) (r : Result (List (List Word)) E) →
    IfOk r (λ lines. lines ≡ lines_of texts calls params code) → IfOk r (λ lines. length code < 2 ^ 64) →
    IfOk r (λ lines. list_all has_room code ≡ true) →
    IfOk r (λ lines. assembled texts calls params lines ≡ Ok code)
given_again texts calls params code (Ok lines) e few room =
    ap (assembled texts calls params) e ∙ assembled_again texts calls params code few room
given_again texts calls params code (Err memory) e few room = tt

-- ---- loops

pub labels_more : (all done noted_here new later : List Label) → all ≡ done ++ (noted_here ++ later) →
    new ≡ done ++ noted_here → all ≡ new ++ later
labels_more all done noted_here new later e is =
    e ∙ sym (append_assoc done noted_here later) ∙ ap (λ xs. xs ++ later) (sym is)

pub seen_more : (done first : List Instr) (r : Result (List Instr) TextFault) →
    seen (λ more. done ++ more) (seen (λ more. first ++ more) r) ≡ seen (λ more. (done ++ first) ++ more) r
seen_more done first (Ok more) = ap (λ xs. Ok xs) (sym (append_assoc done first more))
seen_more done first (Err fault) = refl

pub code_step : (names : Names) (lines : List (List Word)) (done new : List Instr) (line : ℕ) (item words : List Word)
    (read : Option Instr) (result : Result (Option Instr) TextFault) → line < length lines → item ≡ get_or lines line item →
    words ≡ item → result ≡ Ok read → seen one result ≡ part_read names line (part_of words) words → new ≡ done ++ one read →
    instrs_of names 0 lines ≡ seen (λ more. done ++ more) (instrs_of names line (drop line lines)) →
    instrs_of names 0 lines ≡ seen (λ more. new ++ more) (instrs_of names (line + 1) (drop (line + 1) lines))
code_step names lines done new line item words read result less is same ok given grows told =
    let rest = drop (line + 1) lines in
    let r = instrs_of names (line + 1) rest in
    told
    ∙ ap (λ ls. seen (λ more. done ++ more) (instrs_of names line ls)) (drop_more lines line item less)
    ∙ ap (λ ws. seen (λ more. done ++ more) (instrs_of names line (ws ∷ rest))) (sym is ∙ sym same)
    ∙ ap (λ p. seen (λ more. done ++ more) (p >>= λ first. seen (λ more. first ++ more) r)) (sym given ∙ ap (seen one) ok)
    ∙ seen_more done (one read) r
    ∙ ap (λ xs. seen (λ more. xs ++ more) r) (sym grows)

pub made_more : (code : List Instr) (all done new : List Label) (line place next : ℕ) (t : Bool) → place < length code →
    t ≡ is_target code place → next ≡ next_line t line →
    all ≡ done ++ made code line place (drop place code) → new ≡ done ++ made_here t line place →
    all ≡ new ++ made code (next + 1) (place + 1) (drop (place + 1) code)
made_more code all done new line place next t less target next_is e is =
    let t' = is_target code place in
    e ∙ ap (λ rest. done ++ made code line place rest) (drop_more code place i.Return less)
    ∙ sym (append_assoc done (made_here t' line place) (made code (next_line t' line + 1) (place + 1) (drop (place + 1) code)))
    ∙ ap (λ t. (done ++ made_here t line place) ++ made code (next_line t line + 1) (place + 1) (drop (place + 1) code)) (sym target)
    ∙ ap (λ n. (done ++ made_here t line place) ++ made code (n + 1) (place + 1) (drop (place + 1) code)) (sym next_is)
    ∙ ap (λ xs. xs ++ made code (next + 1) (place + 1) (drop (place + 1) code)) (sym is)
