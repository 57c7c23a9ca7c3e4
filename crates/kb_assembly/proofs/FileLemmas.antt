-- Texts of handlers: what is read is in the grammar, what is in the grammar is read, and what is written is read again.
use Rattle.std.proofs.Common.{◌≡◌, refl, sym, ap, ◌∙◌, subst, ℕ, ◌+◌, ◌<◌, ◌≤◌, ◌^◌, List, [], ◌∷◌, ◌++◌, length, map, drop}
use Rattle.std.proofs.Common.{Bool, true, false, cond, Option, Some, None, Result, Ok, Err, inl, inr, append_assoc, arith}
use Rattle.std.specs.Prelude.{if◌then◌else◌, not, ◌&&◌, flat_map, nat_lt, decimal, is_some, codes, IfOk}
use Rattle.std.specs.List.{list_all, slice_split}
use Rattle.std.specs.Str.{is_utf8}
use Rattle.std.proofs.lemmas.Bool.{false≢true, ltb-true}
use Rattle.std.proofs.lemmas.List.{append-nil}
use Rattle.kb_base.specs.declared.failure.Failure.{Failure}
use Rattle.kb_base.specs.Failure.{Gives}
use Rattle.kb_base.specs.Reading.{◌>>=◌, seen}
use Rattle.kb_code.specs.declared.instr.Instr.{Instr}
use Rattle.kb_code.specs.declared.instr.Instr.TheVariants as i
use Rattle.kb_code.specs.Instr.{operand_of}
use Rattle.kb_core.specs.declared.arg.Kind.{Kind}
use Rattle.kb_core.specs.declared.arg.Kind.TheVariants as kd
use Rattle.kb_core.specs.declared.parameter.Param.{Param}
use Rattle.kb_assembly.specs.declared.code.TextFault.{TextFault}
use Rattle.kb_assembly.specs.declared.draft.Draft.{Draft}
use Rattle.kb_assembly.specs.declared.draft.HandlerFault.{HandlerFault}
use Rattle.kb_assembly.specs.declared.fault.LineFault.{LineFault}
use Rattle.kb_assembly.specs.declared.file.FileFault.{FileFault}
use Rattle.kb_assembly.specs.declared.head.Directive.TheVariants as d
use Rattle.kb_assembly.specs.declared.head.Head.{Head}
use Rattle.kb_assembly.specs.declared.mnemonic.Space.{Space}
use Rattle.kb_assembly.specs.declared.mnemonic.Space.TheVariants as space
use Rattle.kb_assembly.specs.declared.names.Names.{Names}
use Rattle.kb_assembly.specs.declared.sections.Section.{Section}
use Rattle.kb_assembly.specs.declared.table.Label.{Label}
use Rattle.kb_assembly.specs.declared.words.Word.{Word}
use Rattle.kb_assembly.specs.Code.{no_part, part_of, noted, behind, labels_of, part_read, instrs_of, with_labels, is_head}
use Rattle.kb_assembly.specs.Code.{made, label_line, label_lines, lines_from, has_room, in_line, names_of as names_in, IsCode}
use Rattle.kb_assembly.specs.Draft.{names_of, draft_with, drafts_of, has_texts, has_limits, is_wide, IsHandler}
use Rattle.kb_assembly.specs.File.{sections_in, assemble, of_text, of_handler, has_code, none_starts}
use Rattle.kb_assembly.specs.File.{AreLines, no_rows, one_row, AreHandlers, no_handlers, one_handler, IsAll, body_handlers, body_blank, IsFile}
use Rattle.kb_assembly.specs.Grammar.{IsText, can_stand}
use Rattle.kb_assembly.specs.Head.{no_head, kind_name, IsHead, head_end, head_blank, head_entry, head_code}
use Rattle.kb_assembly.specs.Head.{param_entry, budget_entry, depth_entry, text_entry, call_entry, past_head}
use Rattle.kb_assembly.specs.Line.{bare, hash_in, written_word, written_operand, written, IsSpelled}
use Rattle.kb_assembly.specs.Mnemonic.{name_of, mnemonic_of, space_of}
use Rattle.kb_assembly.specs.Names.{short, chosen, found}
use Rattle.kb_assembly.specs.Places.{place_in}
use Rattle.kb_assembly.specs.Sections.{starts, cut_from}
use Rattle.kb_assembly.specs.Targets.{is_target}
use Rattle.kb_assembly.specs.Text.{is_feed, words_from, lines_in, text_of, are_utf8}
use Rattle.kb_assembly.specs.Uses.{text_used, call_used, used_word, unless_hash, with_name, grown, is_text, is_call}
use Rattle.kb_assembly.specs.Words.{words_of}
use Rattle.kb_assembly.specs.Write.{handler_word, name_word, handler_line, param_line, text_line, call_line, limit_lines}
use Rattle.kb_assembly.specs.Write.{code_lines, head_lines, draft_lines, spaced_lines, file_text}
use Rattle.kb_assembly.proofs.AlikeLemmas.{code_alike}
use Rattle.kb_assembly.proofs.CodeLemmas.{code_read, labels_made}
use Rattle.kb_assembly.proofs.GrammarLemmas.{code_is}
use Rattle.kb_assembly.proofs.HeadLemmas.{first_part, seen_part, in_line_is, head_append}
use Rattle.kb_assembly.proofs.LineLemmas.{written_spelled}
use Rattle.kb_assembly.proofs.ScanLemmas.{is_text as line_is_text, text_is_read}
use Rattle.kb_assembly.proofs.SectionLemmas.{lines_told, all_read}
use Rattle.kb_assembly.proofs.TextLemmas.{all_stand, lines_read, AreTexts, name_stands, decimal_stands, lines_stand, all_words, made_texts, one_stands, both_of}

-- ---- what is read is in the grammar

rows_told : (line : ℕ) (rows : List (List ℕ)) (lines : List (List Word)) → words_from line rows ≡ Ok lines → AreLines rows lines
rows_told line [] lines e = let s : [] ≡ lines = cc in subst (AreLines []) s no_rows
rows_told line (bytes ∷ rows) lines e =
    let p = first_part (in_line line (words_of bytes)) (λ words. seen (λ more. words ∷ more) (words_from (line + 1) rows)) lines e in
    let q = seen_part (λ more. p.0 ∷ more) (words_from (line + 1) rows) lines p.2 in
    subst (AreLines (bytes ∷ rows)) q.2
    (one_row (line_is_text bytes p.0 (in_line_is line (words_of bytes) p.0 p.1)) (rows_told (line + 1) rows q.0 q.1))

of_text_is : {A : Type 0} (r : Result A TextFault) (x : A) → of_text r ≡ Ok x → r ≡ Ok x
of_text_is (Ok y) x e = let s : y ≡ x = cc in ap (λ k. Ok k) s
of_text_is (Err fault) x e = absurd (cc)

of_handler_is : {A : Type 0} (r : Result A HandlerFault) (x : A) → of_handler r ≡ Ok x → r ≡ Ok x
of_handler_is (Ok y) x e = let s : y ≡ x = cc in ap (λ k. Ok k) s
of_handler_is (Err fault) x e = absurd (cc)

file_is : (text : List ℕ) (drafts : List Draft) → assemble text ≡ Ok drafts → IsFile text drafts
file_is text drafts e =
    let p = first_part (of_text (sections_in text)) (λ sections. of_handler (drafts_of sections)) drafts e in
    let q = first_part (lines_in text) (λ lines. cut_from 0 None lines) p.0 (of_text_is (sections_in text) p.0 p.1) in
    record {
      lines = q.0;
      rows = rows_told 0 (slice_split is_feed text) q.0 q.1;
      body = lines_told 0 q.0 p.0 drafts q.2 (of_handler_is (drafts_of p.0) drafts p.2);
    }

-- ---- what is in the grammar is read

lines_are_read : (line : ℕ) (rows : List (List ℕ)) (lines : List (List Word)) → AreLines rows lines → words_from line rows ≡ Ok lines
lines_are_read line rows lines no_rows = refl
lines_are_read line rows lines (one_row {bytes = bytes} {words = words} {rows = more} {lines = others} is rest) =
    ap (λ r. in_line line r >>= λ words. seen (λ more. words ∷ more) (words_from (line + 1) more)) (text_is_read bytes words is)
    ∙ ap (seen (λ more. words ∷ more)) (lines_are_read (line + 1) more others rest)

-- the lines of a text are those of handlers
body_read : (text : List ℕ) (lines : List (List Word)) (drafts : List Draft) → lines_in text ≡ Ok lines → IsAll lines drafts →
    assemble text ≡ Ok drafts
body_read text lines drafts read is =
    let p = all_read 0 lines drafts is in
    ap (λ r. of_text (r >>= λ lines. cut_from 0 None lines) >>= λ sections. of_handler (drafts_of sections)) read
    ∙ ap (λ r. of_text r >>= λ sections. of_handler (drafts_of sections)) p.1
    ∙ ap of_handler p.2

file_read : (text : List ℕ) (drafts : List Draft) → IsFile text drafts → assemble text ≡ Ok drafts
file_read text drafts is = body_read text is.lines drafts (lines_are_read 0 (slice_split is_feed text) is.lines is.rows) is.body

-- the same of results
pub given_file : (text : List ℕ) (r : Result (List Draft) (Failure FileFault)) → Gives (λ drafts. drafts) r (assemble text) →
    IfOk r (IsFile text)
given_file text (Ok drafts) e = file_is text drafts e
given_file text (Err failure) e = tt

pub given_drafts : (text : List ℕ) (r : Result (List Draft) (Failure FileFault)) (drafts : List Draft) → IsFile text drafts →
    Gives (λ drafts. drafts) r (assemble text) → Gives (λ drafts. drafts) r (Ok drafts)
given_drafts text r drafts is e = subst (Gives (λ drafts. drafts) r) (file_read text drafts is) e

-- ---- lines that are no code

-- a line of a head: neither code nor the begin of a handler, and it uses no name
record IsQuiet (words : List Word) : Type 0 where
  quiet : part_of words ≡ no_part
  text : text_used words ≡ None
  call : call_used words ≡ None
  begins : starts words ≡ false

abbrev AreQuiet : List (List Word) → Type 0
AreQuiet [] = Unit {0}
AreQuiet (words ∷ lines) = IsQuiet words × AreQuiet lines

quiet_append : (xs ys : List (List Word)) → AreQuiet xs → AreQuiet ys → AreQuiet (xs ++ ys)
quiet_append [] ys e f = f
quiet_append (x ∷ xs) ys e f = (e.0, quiet_append xs ys e.1 f)

quiet_params : (params : List Param) → AreQuiet (map param_line params)
quiet_params [] = tt
quiet_params (p ∷ params) = (record { quiet = refl; text = refl; call = refl; begins = refl }, quiet_params params)

quiet_budget : (o : Option ℕ) → AreQuiet (limit_lines d.Budget o)
quiet_budget None = tt
quiet_budget (Some n) = (record { quiet = refl; text = refl; call = refl; begins = refl }, tt)

quiet_depth : (o : Option ℕ) → AreQuiet (limit_lines d.Depth o)
quiet_depth None = tt
quiet_depth (Some n) = (record { quiet = refl; text = refl; call = refl; begins = refl }, tt)

quiet_texts : (texts : List (List ℕ)) → AreQuiet (map text_line texts)
quiet_texts [] = tt
quiet_texts (t ∷ texts) = (record { quiet = refl; text = refl; call = refl; begins = refl }, quiet_texts texts)

quiet_calls : (calls : List (List ℕ)) → AreQuiet (map call_line calls)
quiet_calls [] = tt
quiet_calls (c ∷ calls) = (record { quiet = refl; text = refl; call = refl; begins = refl }, quiet_calls calls)

quiet_head : (draft : Draft) → AreQuiet (head_lines draft)
quiet_head draft =
    quiet_append (map param_line draft.params) _ (quiet_params draft.params)
    (quiet_append (limit_lines d.Budget draft.budget) _ (quiet_budget draft.budget)
    (quiet_append (limit_lines d.Depth draft.depth) _ (quiet_depth draft.depth)
    (quiet_append (map text_line draft.texts) (map call_line draft.calls) (quiet_texts draft.texts) (quiet_calls draft.calls))))

labels_quiet : (line : ℕ) (quiet rest : List (List Word)) → AreQuiet quiet →
    (next : ℕ) × (labels_of line 0 (quiet ++ rest) ≡ labels_of next 0 rest)
    × ((names : Names) → instrs_of names line (quiet ++ rest) ≡ instrs_of names next rest)
labels_quiet line [] rest are = (line, refl, λ names. refl)
labels_quiet line (words ∷ quiet) rest are =
    let p = labels_quiet (line + 1) quiet rest are.1 in (
      p.0,
      ap (λ part. noted part line 0 ++ labels_of (line + 1) (behind part 0) (quiet ++ rest)) are.0.quiet ∙ p.1,
      λ names. ap (λ part. part_read names line part words >>= λ first. seen (λ more. first ++ more) (instrs_of names (line + 1) (quiet ++ rest)))
          are.0.quiet ∙ seen_nothing (instrs_of names (line + 1) (quiet ++ rest)) ∙ p.2 names,
    )
  where
    seen_nothing : (r : Result (List Instr) TextFault) → seen (λ more. [] ++ more) r ≡ r
    seen_nothing (Ok code) = refl
    seen_nothing (Err fault) = refl

-- ---- a blank line at the end changes nothing

labels_blank : (line place : ℕ) (lines : List (List Word)) → labels_of line place (lines ++ [] ∷ []) ≡ labels_of line place lines
labels_blank line place [] = refl
labels_blank line place (words ∷ lines) =
    ap (λ labels. noted (part_of words) line place ++ labels) (labels_blank (line + 1) (behind (part_of words) place) lines)

instrs_blank : (names : Names) (line : ℕ) (lines : List (List Word)) →
    instrs_of names line (lines ++ [] ∷ []) ≡ instrs_of names line lines
instrs_blank names line [] = refl
instrs_blank names line (words ∷ lines) =
    ap (λ r. part_read names line (part_of words) words >>= λ first. seen (λ more. first ++ more) r)
    (instrs_blank names (line + 1) lines)

-- ---- no name of code is added to a table

grown_quiet_text : (table : List (List ℕ)) (quiet rest : List (List Word)) → AreQuiet quiet →
    grown text_used table (quiet ++ rest) ≡ grown text_used table rest
grown_quiet_text table [] rest are = refl
grown_quiet_text table (words ∷ quiet) rest are =
    ap (λ o. grown text_used (with_name table o) (quiet ++ rest)) are.0.text ∙ grown_quiet_text table quiet rest are.1

grown_quiet_call : (table : List (List ℕ)) (quiet rest : List (List Word)) → AreQuiet quiet →
    grown call_used table (quiet ++ rest) ≡ grown call_used table rest
grown_quiet_call table [] rest are = refl
grown_quiet_call table (words ∷ quiet) rest are =
    ap (λ o. grown call_used (with_name table o) (quiet ++ rest)) are.0.call ∙ grown_quiet_call table quiet rest are.1

there : (table : List (List ℕ)) (name : List ℕ) (n : ℕ) (o : Option ℕ) → place_in 0 table name ≡ o → short o ≡ Some n →
    with_name table (Some name) ≡ table
there table name n None at e = absurd (cc)
there table name n (Some k) at e = ap (λ o. if is_some o then table else table ++ name ∷ []) at

-- an operand that stands for an entry of the table adds nothing
spelled_kept : (table : List (List ℕ)) (names : Names) (kind : Space) (word : Word) (n : ℕ) →
    ((name : List ℕ) → found names kind name ≡ place_in 0 table name) → IsSpelled names kind word n →
    with_name table (used_word word) ≡ table
spelled_kept table names kind word n same (inl p) = ap (λ w. with_name table (used_word w)) p.0
spelled_kept table names kind word n same (inr is) =
    ap (λ o. with_name table (unless_hash o word)) is.no_hash
    ∙ there table word.text n (place_in 0 table word.text) refl (ap short (sym (same word.text)) ∙ is.found)

text_kept : (names : Names) (instr : Instr) → operand_of instr < 2 ^ 16 → with_name names.texts (text_used (written names instr)) ≡ names.texts
text_kept names (i.Text n) small =
    spelled_kept names.texts names space.Texts (written_word space.Texts n (chosen names space.Texts n)) n (λ name. refl)
    (written_spelled names space.Texts n small)
text_kept names (i.Context n) small =
    spelled_kept names.texts names space.Keys (written_word space.Keys n (chosen names space.Keys n)) n (λ name. refl)
    (written_spelled names space.Keys n small)
text_kept names (i.Truth true) small = refl
text_kept names (i.Truth false) small = refl
text_kept names instr small = refl

call_kept : (names : Names) (instr : Instr) → operand_of instr < 2 ^ 16 → with_name names.calls (call_used (written names instr)) ≡ names.calls
call_kept names (i.Call n) small =
    spelled_kept names.calls names space.Calls (written_word space.Calls n (chosen names space.Calls n)) n (λ name. refl)
    (written_spelled names space.Calls n small)
call_kept names (i.Truth true) small = refl
call_kept names (i.Truth false) small = refl
call_kept names instr small = refl

label_text : (t : Bool) (table : List (List ℕ)) (place : ℕ) (rest : List (List Word)) →
    grown text_used table (label_lines t place ++ rest) ≡ grown text_used table rest
label_text true table place rest = refl
label_text false table place rest = refl

label_call : (t : Bool) (table : List (List ℕ)) (place : ℕ) (rest : List (List Word)) →
    grown call_used table (label_lines t place ++ rest) ≡ grown call_used table rest
label_call true table place rest = refl
label_call false table place rest = refl

both : (a b : Bool) → a && b ≡ true → (a ≡ true) × (b ≡ true)
both true b h = (refl, h)
both false b h = absurd (false≢true h)

code_text : (code : List Instr) (names : Names) (place : ℕ) (rest : List Instr) → list_all has_room rest ≡ true →
    grown text_used names.texts (lines_from code names place rest ++ [] ∷ []) ≡ names.texts
code_text code names place [] room = label_text (is_target code place) names.texts place ([] ∷ [])
code_text code names place (x ∷ rest) room =
    let p = both (has_room x) (list_all has_room rest) room in
    let more = lines_from code names (place + 1) rest ++ [] ∷ [] in
    ap (grown text_used names.texts) (append_assoc (label_lines (is_target code place) place) (written names x ∷ lines_from code names (place + 1) rest) ([] ∷ []))
    ∙ label_text (is_target code place) names.texts place (written names x ∷ more)
    ∙ ap (λ table. grown text_used table more) (text_kept names x (ltb-true (operand_of x) 65536 p.0))
    ∙ code_text code names (place + 1) rest p.1

code_call : (code : List Instr) (names : Names) (place : ℕ) (rest : List Instr) → list_all has_room rest ≡ true →
    grown call_used names.calls (lines_from code names place rest ++ [] ∷ []) ≡ names.calls
code_call code names place [] room = label_call (is_target code place) names.calls place ([] ∷ [])
code_call code names place (x ∷ rest) room =
    let p = both (has_room x) (list_all has_room rest) room in
    let more = lines_from code names (place + 1) rest ++ [] ∷ [] in
    ap (grown call_used names.calls) (append_assoc (label_lines (is_target code place) place) (written names x ∷ lines_from code names (place + 1) rest) ([] ∷ []))
    ∙ label_call (is_target code place) names.calls place (written names x ∷ more)
    ∙ ap (λ table. grown call_used table more) (call_kept names x (ltb-true (operand_of x) 65536 p.0))
    ∙ code_call code names (place + 1) rest p.1

-- ---- the head is read again

abbrev hd : ℕ → List Param → Option ℕ → Option ℕ → List (List ℕ) → List (List ℕ) → Head
hd rank params budget depth texts calls =
    record { rank = rank; params = params; budget = budget; depth = depth; texts = texts; calls = calls }

params_head : (rank : ℕ) (done params : List Param) → rank ≤ 0 →
    (next : ℕ) × (next ≤ 0) × IsHead (hd rank done None None [] []) (map param_line params) (hd next (done ++ params) None None [] [])
params_head rank done [] le =
    (rank, le, subst (λ ps. IsHead (hd rank done None None [] []) [] (hd rank ps None None [] [])) (sym (append-nil done)) head_end)
params_head rank done (p ∷ params) le =
    let q = params_head 0 (done ++ p ∷ []) params (omega arith) in (
      q.0,
      q.1,
      head_entry refl (param_entry (name_word p.name) p.kind) le
          (subst (λ ps. IsHead (hd 0 (done ++ p ∷ []) None None [] []) (map param_line params) (hd q.0 ps None None [] []))
          (append_assoc done (p ∷ []) params) q.2),
    )

wide : (n : ℕ) → is_wide (Some n) ≡ true → n < 2 ^ 32
wide n e = ltb-true n 4294967296 e

budget_head : (rank : ℕ) (params : List Param) (o : Option ℕ) → rank ≤ 0 → is_wide o ≡ true →
    (next : ℕ) × (next ≤ 2) × IsHead (hd rank params None None [] []) (limit_lines d.Budget o) (hd next params o None [] [])
budget_head rank params None le e = (rank, omega (arith, le), head_end)
budget_head rank params (Some n) le e = (2, omega arith, head_entry refl (budget_entry n (wide n e)) (omega (arith, le)) head_end)

depth_head : (rank : ℕ) (params : List Param) (budget o : Option ℕ) → rank ≤ 2 → is_wide o ≡ true →
    (next : ℕ) × (next ≤ 3) × IsHead (hd rank params budget None [] []) (limit_lines d.Depth o) (hd next params budget o [] [])
depth_head rank params budget None le e = (rank, omega (arith, le), head_end)
depth_head rank params budget (Some n) le e = (3, omega arith, head_entry refl (depth_entry n (wide n e)) le head_end)

texts_head : (rank : ℕ) (params : List Param) (budget depth : Option ℕ) (done texts : List (List ℕ)) → rank ≤ 3 →
    (next : ℕ) × (next ≤ 3) × IsHead (hd rank params budget depth done []) (map text_line texts) (hd next params budget depth (done ++ texts) [])
texts_head rank params budget depth done [] le =
    (rank, le, subst (λ ts. IsHead (hd rank params budget depth done []) [] (hd rank params budget depth ts [])) (sym (append-nil done)) head_end)
texts_head rank params budget depth done (t ∷ texts) le =
    let q = texts_head 3 params budget depth (done ++ t ∷ []) texts (omega arith) in (
      q.0,
      q.1,
      head_entry refl (text_entry t) le
          (subst (λ ts. IsHead (hd 3 params budget depth (done ++ t ∷ []) []) (map text_line texts) (hd q.0 params budget depth ts []))
          (append_assoc done (t ∷ []) texts) q.2),
    )

calls_head : (rank : ℕ) (params : List Param) (budget depth : Option ℕ) (texts done calls : List (List ℕ)) → rank ≤ 4 →
    (next : ℕ) × IsHead (hd rank params budget depth texts done) (map call_line calls) (hd next params budget depth texts (done ++ calls))
calls_head rank params budget depth texts done [] le =
    (rank, subst (λ cs. IsHead (hd rank params budget depth texts done) [] (hd rank params budget depth texts cs)) (sym (append-nil done)) head_end)
calls_head rank params budget depth texts done (c ∷ calls) le =
    let q = calls_head 4 params budget depth texts (done ++ c ∷ []) calls (omega arith) in (
      q.0,
      head_entry refl (call_entry (name_word c)) le
          (subst (λ cs. IsHead (hd 4 params budget depth texts (done ++ c ∷ [])) (map call_line calls) (hd q.0 params budget depth texts cs))
          (append_assoc done (c ∷ []) calls) q.1),
    )

no_head_line : (names : Names) (instr : Instr) (rest : List (List Word)) (h k : Head) → IsHead (past_head h) rest k →
    IsHead h (written names instr ∷ rest) k
no_head_line names (i.Truth true) rest h k more = head_code refl more
no_head_line names (i.Truth false) rest h k more = head_code refl more
no_head_line names instr rest h k more = head_code refl more

label_head : (t : Bool) (place : ℕ) (rest : List (List Word)) (rank : ℕ) (params : List Param) (budget depth : Option ℕ) (texts calls : List (List ℕ)) →
    ((rank : ℕ) → (next : ℕ) × IsHead (hd rank params budget depth texts calls) rest (hd next params budget depth texts calls)) →
    (next : ℕ) × IsHead (hd rank params budget depth texts calls) (label_lines t place ++ rest) (hd next params budget depth texts calls)
label_head true place rest rank params budget depth texts calls more = let p = more 5 in (p.0, head_code refl p.1)
label_head false place rest rank params budget depth texts calls more = more rank

code_head : (code : List Instr) (names : Names) (place : ℕ) (rest : List Instr) (rank : ℕ) (params : List Param) (budget depth : Option ℕ)
    (texts calls : List (List ℕ)) →
    (next : ℕ) × IsHead (hd rank params budget depth texts calls) (lines_from code names place rest ++ [] ∷ []) (hd next params budget depth texts calls)
code_head code names place [] rank params budget depth texts calls =
    label_head (is_target code place) place ([] ∷ []) rank params budget depth texts calls (λ r. (r, head_blank head_end))
code_head code names place (x ∷ rest) rank params budget depth texts calls =
    let more = lines_from code names (place + 1) rest ++ [] ∷ [] in
    let p = label_head (is_target code place) place (written names x ∷ more) rank params budget depth texts calls
    (λ r. let q = code_head code names (place + 1) rest 5 params budget depth texts calls in
    (q.0, no_head_line names x more (hd r params budget depth texts calls) (hd q.0 params budget depth texts calls) q.1)) in (
      p.0,
      subst (λ ls. IsHead (hd rank params budget depth texts calls) ls (hd p.0 params budget depth texts calls))
          (sym (append_assoc (label_lines (is_target code place) place) (written names x ∷ lines_from code names (place + 1) rest) ([] ∷ []))) p.1,
    )

head_again : (draft : Draft) → has_limits draft ≡ true → (tail : List (List Word)) →
    ((rank : ℕ) → (next : ℕ) × IsHead (hd rank draft.params draft.budget draft.depth draft.texts draft.calls) tail
    (hd next draft.params draft.budget draft.depth draft.texts draft.calls)) →
    (next : ℕ) × IsHead no_head (head_lines draft ++ tail) (hd next draft.params draft.budget draft.depth draft.texts draft.calls)
head_again draft limits tail more =
    let w = both (is_wide draft.budget) (is_wide draft.depth) limits in
    let a = params_head 0 [] draft.params (omega arith) in
    let b = budget_head a.0 draft.params draft.budget a.1 w.0 in
    let c = depth_head b.0 draft.params draft.budget draft.depth b.1 w.1 in
    let t = texts_head c.0 draft.params draft.budget draft.depth [] draft.texts c.1 in
    let le = t.1 in
    let l = calls_head t.0 draft.params draft.budget draft.depth draft.texts [] draft.calls (omega (arith, le)) in
    let p = more l.0 in (
      p.0,
      head_append _ _ _ (head_lines draft) tail
          (head_append _ _ _ (map param_line draft.params) _ a.2
          (head_append _ _ _ (limit_lines d.Budget draft.budget) _ b.2
          (head_append _ _ _ (limit_lines d.Depth draft.depth) _ c.2
          (head_append _ _ _ (map text_line draft.texts) (map call_line draft.calls) t.2 l.1)))) p.1,
    )

-- ---- a handler is read again

-- the lines of a handler behind the first, and a blank one
abbrev tail_of : Draft → List (List Word)
tail_of draft = code_lines draft ++ [] ∷ []

abbrev names_at : Draft → ℕ → Names
names_at draft line = with_labels draft.texts draft.calls (names_of draft.params) (made draft.code line 0 draft.code)

few_of : (draft : Draft) → has_code draft ≡ true → length draft.code < 2 ^ 64
few_of draft e = ltb-true (length draft.code) 18446744073709551616 (both (nat_lt (length draft.code) 18446744073709551616) (list_all has_room draft.code) e).0

room_of : (draft : Draft) → has_code draft ≡ true → list_all has_room draft.code ≡ true
room_of draft e = (both (nat_lt (length draft.code) 18446744073709551616) (list_all has_room draft.code) e).1

coded_again : (draft : Draft) → has_code draft ≡ true →
    IsCode (names_in draft.texts draft.calls (names_of draft.params) (head_lines draft ++ tail_of draft)) 0 (head_lines draft ++ tail_of draft) draft.code
coded_again draft code =
    let lines = head_lines draft ++ tail_of draft in
    let few = few_of draft code in
    let p = labels_quiet 0 (head_lines draft) (tail_of draft) (quiet_head draft) in
    let alike : code_lines draft ≡ lines_from draft.code (names_at draft p.0) 0 draft.code =
    code_alike draft.texts draft.calls (names_of draft.params) draft.code 0 p.0 in
    let labels : labels_of 0 0 lines ≡ made draft.code p.0 0 draft.code =
    p.1 ∙ labels_blank p.0 0 (code_lines draft) ∙ ap (labels_of p.0 0) alike ∙ labels_made draft.code (names_at draft p.0) p.0 0 draft.code in
    let names : names_in draft.texts draft.calls (names_of draft.params) lines ≡ names_at draft p.0 =
    ap (with_labels draft.texts draft.calls (names_of draft.params)) labels in
    code_is (names_in draft.texts draft.calls (names_of draft.params) lines) 0 lines draft.code
    (ap (λ ns. instrs_of ns 0 lines) names
    ∙ p.2 (names_at draft p.0)
    ∙ instrs_blank (names_at draft p.0) p.0 (code_lines draft)
    ∙ ap (instrs_of (names_at draft p.0) p.0) alike
    ∙ code_read draft.code (names_at draft p.0) [] p.0 0 draft.code (omega (arith, few)) (room_of draft code) tt refl)

handler_again : (draft : Draft) → has_limits draft ≡ true → has_code draft ≡ true →
    IsHandler draft.command (head_lines draft ++ tail_of draft) draft
handler_again draft limits code =
    let lines = head_lines draft ++ tail_of draft in
    let names = names_at draft 0 in
    let h = head_again draft limits (tail_of draft)
    (λ r. code_head draft.code names 0 draft.code r draft.params draft.budget draft.depth draft.texts draft.calls) in
    let texts : grown text_used draft.texts lines ≡ draft.texts =
    grown_quiet_text draft.texts (head_lines draft) (tail_of draft) (quiet_head draft)
    ∙ code_text draft.code names 0 draft.code (room_of draft code) in
    let calls : grown call_used draft.calls lines ≡ draft.calls =
    grown_quiet_call draft.calls (head_lines draft) (tail_of draft) (quiet_head draft)
    ∙ code_call draft.code names 0 draft.code (room_of draft code) in
    record {
      head = hd h.0 draft.params draft.budget draft.depth draft.texts draft.calls;
      headed = h.1;
      parts = ap (λ ts. draft_with draft.command (hd h.0 draft.params draft.budget draft.depth draft.texts draft.calls) ts draft.calls draft.code) (sym texts)
          ∙ ap (λ cs. draft_with draft.command (hd h.0 draft.params draft.budget draft.depth draft.texts draft.calls)
          (grown text_used draft.texts lines) cs draft.code) (sym calls);
      coded = subst (λ ts. IsCode (names_in ts (grown call_used draft.calls lines) (names_of draft.params) lines) 0 lines draft.code) (sym texts)
          (subst (λ cs. IsCode (names_in draft.texts cs (names_of draft.params) lines) 0 lines draft.code) (sym calls) (coded_again draft code));
    }

-- none of its lines begins a handler
none_append : (xs ys : List (List Word)) → none_starts xs ≡ true → none_starts ys ≡ true → none_starts (xs ++ ys) ≡ true
none_append [] ys e f = f
none_append (x ∷ xs) ys e f =
    let p = both (not (starts x)) (none_starts xs) e in
    ap (λ b. b && none_starts (xs ++ ys)) p.0 ∙ none_append xs ys p.1 f

none_quiet : (lines : List (List Word)) → AreQuiet lines → none_starts lines ≡ true
none_quiet [] are = refl
none_quiet (words ∷ lines) are = ap (λ b. not b && none_starts lines) are.0.begins ∙ none_quiet lines are.1

none_label : (t : Bool) (place : ℕ) → none_starts (label_lines t place) ≡ true
none_label true place = refl
none_label false place = refl

none_instr : (names : Names) (instr : Instr) → starts (written names instr) ≡ false
none_instr names (i.Truth true) = refl
none_instr names (i.Truth false) = refl
none_instr names instr = refl

none_code : (code : List Instr) (names : Names) (place : ℕ) (rest : List Instr) → none_starts (lines_from code names place rest) ≡ true
none_code code names place [] = none_label (is_target code place) place
none_code code names place (x ∷ rest) =
    none_append (label_lines (is_target code place) place) (written names x ∷ lines_from code names (place + 1) rest)
    (none_label (is_target code place) place)
    (ap (λ b. not b && none_starts (lines_from code names (place + 1) rest)) (none_instr names x) ∙ none_code code names (place + 1) rest)

none_tail : (draft : Draft) → none_starts (head_lines draft ++ tail_of draft) ≡ true
none_tail draft = none_append (head_lines draft) (tail_of draft) (none_quiet (head_lines draft) (quiet_head draft))
    (none_append (code_lines draft) ([] ∷ []) (none_code draft.code (names_at draft 0) 0 draft.code) refl)

-- ---- all handlers are read again

-- the lines of handlers, with a blank one behind each
handlers_again : (draft : Draft) (drafts : List Draft) →
    list_all has_limits (draft ∷ drafts) ≡ true → list_all has_code (draft ∷ drafts) ≡ true →
    AreHandlers ((draft_lines draft ++ spaced_lines drafts) ++ [] ∷ []) (draft ∷ drafts)
handlers_again draft [] limits code =
    let l = both (has_limits draft) true limits in
    let c = both (has_code draft) true code in
    subst (λ ls. AreHandlers (handler_line draft.command ∷ ls) (draft ∷ []))
    (append-nil (head_lines draft ++ tail_of draft)
    ∙ sym (append_assoc (head_lines draft) (code_lines draft) ([] ∷ []))
    ∙ ap (λ ls. ls ++ [] ∷ []) (sym (append-nil (head_lines draft ++ code_lines draft))))
    (one_handler {name = name_word draft.command} (handler_again draft l.0 c.0) (none_tail draft) no_handlers)
handlers_again draft (next ∷ drafts) limits code =
    let l = both (has_limits draft) (list_all has_limits (next ∷ drafts)) limits in
    let c = both (has_code draft) (list_all has_code (next ∷ drafts)) code in
    let body = head_lines draft ++ code_lines draft in
    let more = (draft_lines next ++ spaced_lines drafts) ++ [] ∷ [] in
    subst (λ ls. AreHandlers (handler_line draft.command ∷ ls) (draft ∷ next ∷ drafts))
    (ap (λ ls. ls ++ more) (sym (append_assoc (head_lines draft) (code_lines draft) ([] ∷ [])))
    ∙ append_assoc body ([] ∷ []) more
    ∙ sym (append_assoc body (spaced_lines (next ∷ drafts)) ([] ∷ [])))
    (one_handler {name = name_word draft.command} (handler_again draft l.0 c.0) (none_tail draft) (handlers_again next drafts l.1 c.1))

-- ---- the words can stand

name_can : (name : List ℕ) → is_utf8 name ≡ true → can_stand (name_word name) ≡ true
name_can name e = name_stands space.Calls name e

two_stand : (first word : Word) → can_stand first ≡ true → can_stand word ≡ true → list_all can_stand (first ∷ word ∷ []) ≡ true
two_stand first word e f = ap (λ b. b && (can_stand word && true)) e ∙ ap (λ b. b && true) f

kind_stands : (k : Kind) → can_stand (bare (kind_name k)) ≡ true
kind_stands kd.Text = refl
kind_stands kd.Number = refl
kind_stands kd.Truth = refl
kind_stands kd.Any = refl

params_stand : (params : List Param) → are_utf8 (names_of params) ≡ true → all_stand (map param_line params) ≡ true
params_stand [] e = refl
params_stand (p ∷ params) e =
    let q = both (is_utf8 p.name) (are_utf8 (names_of params)) e in
    ap (λ b. (b && (can_stand (bare (kind_name p.kind)) && true)) && all_stand (map param_line params)) (name_can p.name q.0)
    ∙ ap (λ b. (b && true) && all_stand (map param_line params)) (kind_stands p.kind)
    ∙ params_stand params q.1

limit_stand : (n : ℕ) → is_wide (Some n) ≡ true → can_stand (bare (decimal n)) ≡ true
limit_stand n e = let small = wide n e in decimal_stands n (omega (arith, small))

budget_stand : (o : Option ℕ) → is_wide o ≡ true → all_stand (limit_lines d.Budget o) ≡ true
budget_stand None e = refl
budget_stand (Some n) e = ap (λ b. (b && true) && true) (limit_stand n e)

depth_stand : (o : Option ℕ) → is_wide o ≡ true → all_stand (limit_lines d.Depth o) ≡ true
depth_stand None e = refl
depth_stand (Some n) e = ap (λ b. (b && true) && true) (limit_stand n e)

texts_stand : (texts : List (List ℕ)) → are_utf8 texts ≡ true → all_stand (map text_line texts) ≡ true
texts_stand [] e = refl
texts_stand (t ∷ texts) e =
    let q = both (is_utf8 t) (are_utf8 texts) e in
    ap (λ b. (b && true) && all_stand (map text_line texts)) q.0 ∙ texts_stand texts q.1

calls_stand : (calls : List (List ℕ)) → are_utf8 calls ≡ true → all_stand (map call_line calls) ≡ true
calls_stand [] e = refl
calls_stand (c ∷ calls) e =
    let q = both (is_utf8 c) (are_utf8 calls) e in
    ap (λ b. (b && true) && all_stand (map call_line calls)) (name_can c q.0) ∙ calls_stand calls q.1

draft_stands : (draft : Draft) → has_texts draft ≡ true → has_limits draft ≡ true → has_code draft ≡ true →
    all_stand (draft_lines draft) ≡ true
draft_stands draft texts limits code =
    let a = both (is_utf8 draft.command) (are_utf8 draft.texts && (are_utf8 draft.calls && are_utf8 (names_of draft.params))) texts in
    let b = both (are_utf8 draft.texts) (are_utf8 draft.calls && are_utf8 (names_of draft.params)) a.1 in
    let c = both (are_utf8 draft.calls) (are_utf8 (names_of draft.params)) b.1 in
    let w = both (is_wide draft.budget) (is_wide draft.depth) limits in
    let few = few_of draft code in
    let are : AreTexts (names_at draft 0) = record {
      texts = b.0;
      calls = c.0;
      params = c.1;
      labels = made_texts draft.code 0 0 draft.code (omega (arith, few));
    } in
    ap (λ s. (s && true) && all_stand (head_lines draft ++ code_lines draft)) (name_can draft.command a.0)
    ∙ all_words (list_all can_stand) (head_lines draft) (code_lines draft)
    (all_words (list_all can_stand) (map param_line draft.params) _ (params_stand draft.params c.1)
    (all_words (list_all can_stand) (limit_lines d.Budget draft.budget) _ (budget_stand draft.budget w.0)
    (all_words (list_all can_stand) (limit_lines d.Depth draft.depth) _ (depth_stand draft.depth w.1)
    (all_words (list_all can_stand) (map text_line draft.texts) (map call_line draft.calls) (texts_stand draft.texts b.0) (calls_stand draft.calls c.0)))))
    (lines_stand draft.code (names_at draft 0) 0 draft.code (omega (arith, few)) (room_of draft code) are)

spaced_stand : (drafts : List Draft) → list_all has_texts drafts ≡ true → list_all has_limits drafts ≡ true → list_all has_code drafts ≡ true →
    all_stand (spaced_lines drafts) ≡ true
spaced_stand [] texts limits code = refl
spaced_stand (x ∷ drafts) texts limits code =
    let t = both (has_texts x) (list_all has_texts drafts) texts in
    let l = both (has_limits x) (list_all has_limits drafts) limits in
    let c = both (has_code x) (list_all has_code drafts) code in
    all_words (list_all can_stand) (draft_lines x) (spaced_lines drafts) (draft_stands x t.0 l.0 c.0) (spaced_stand drafts t.1 l.1 c.1)

-- ---- the whole

file_again : (drafts : List Draft) → list_all has_texts drafts ≡ true → list_all has_limits drafts ≡ true → list_all has_code drafts ≡ true →
    assemble (file_text drafts) ≡ Ok drafts
file_again [] texts limits code =
    body_read [] ([] ∷ []) [] (lines_read [] refl) (body_blank (body_handlers no_handlers))
file_again (x ∷ drafts) texts limits code =
    let lines = draft_lines x ++ spaced_lines drafts in
    body_read (text_of lines) (lines ++ [] ∷ []) (x ∷ drafts) (lines_read lines (spaced_stand (x ∷ drafts) texts limits code))
    (body_handlers (handlers_again x drafts limits code))

pub given_again : {E : Type 0} (drafts : List Draft) (r : Result (List ℕ) E) → IfOk r (λ text. text ≡ file_text drafts) →
    IfOk r (λ text. list_all has_texts drafts ≡ true) → IfOk r (λ text. list_all has_limits drafts ≡ true) →
    IfOk r (λ text. list_all has_code drafts ≡ true) → IfOk r (λ text. assemble text ≡ Ok drafts)
given_again drafts (Ok text) e texts limits code = ap assemble e ∙ file_again drafts texts limits code
given_again drafts (Err memory) e texts limits code = tt

abbrev done : List Draft → Result (List Draft) FileFault
done drafts = Ok drafts

pub own_form : (drafts : List Draft) (form : List ℕ) → form ≡ file_text drafts → assemble form ≡ Ok drafts →
    (others : List Draft) → assemble form ≡ Ok others → file_text others ≡ form
own_form drafts form is again others e =
    let f : done drafts ≡ done others = sym again ∙ e in
    let g : drafts ≡ others = cc in
    ap file_text (sym g) ∙ sym is
