-- The two directions together.
use Rattle.std.proofs.Common.{◌≡◌, ◌∙◌, ◌==◌, ℕ, Bool, true, false, List, [], ◌∷◌, length, map, refl, sym, ap}
use Rattle.std.proofs.Common.{subst}
use Rattle.std.proofs.lemmas.Bool.Decides.{nat_tests}
use Rattle.std.proofs.Common.{arith}
use Rattle.std.specs.List.{onto_first, slice_split}
use Rattle.std.specs.Prelude.{◌&&◌, if◌then◌else◌, Result, Ok, Err}
use Rattle.kb_base.specs.Reading.{◌>>=◌, seen}
use Rattle.kb_assembly.specs.declared.draft.Draft.{Draft}
use Rattle.kb_assembly.specs.declared.fault.LineFault.{LineFault}
use Rattle.kb_assembly.specs.declared.fault.Mistake.TheVariants.{BadByte}
use Rattle.kb_assembly.specs.declared.file.FileFault.{FileFault}
use Rattle.kb_assembly.specs.declared.words.Word.{Word}
use Rattle.kb_assembly.specs.Draft.{handler_draft}
use Rattle.kb_assembly.specs.declared.code.TextFault.{TextFault}
use Rattle.kb_assembly.specs.declared.file.FileFault.TheVariants as ff
use Rattle.kb_assembly.specs.Code.{in_line, text_fault}
use Rattle.kb_assembly.specs.Draft.{drafts_of}
use Rattle.kb_assembly.specs.File.{assemble, of_handler, of_text}
use Rattle.kb_assembly.specs.Sections.{sections_of}
use Rattle.kb_assembly.specs.Text.{is_feed, words_from}
use Rattle.kb_assembly.specs.Words.{words_of}
use Rattle.kb_code.specs.Handler.{HandlerData}
use Rattle.kb_core.specs.Declaration.{Declaration}
use Rattle.kb_jsonc.specs.Reader.{without_mark}
use Rattle.kb_assembly_report.specs.Choice.{IsChoice}
use Rattle.kb_assembly_report.specs.Judging.{IsFileOf, all_like}
use Rattle.kb_assembly_report.specs.Laws.{AcceptedIfAnyWould, SameHandlersAgain}
use Rattle.kb_assembly_report.specs.Translating.{IsRefused, IsUnwritten, mistaken, unsuited, unwritten}
use Rattle.kb_assembly_report.specs.declared.assembling.Translation.TheVariants.{File, Faults}
use Rattle.kb_assembly_report.proofs.JudgingLemmas.{ok_fails, ok_same}

-- ---- a text that is assembled has no byte order mark

mark_is_bad : (bytes : List ℕ) → words_of (239 ∷ bytes) ≡ Err (record { at = 0; mistake = BadByte })
unfolding words_of
mark_is_bad bytes = refl

-- handlers whose first line has these words, and what follows them
abbrev read_on : Result (List Word) LineFault → (List Word → Result (List (List Word)) TextFault)
    → Result (List Draft) FileFault
read_on words more =
    of_text ((in_line 0 words >>= more) >>= sections_of) >>= (λ sections. of_handler (drafts_of sections))

bad_line : (words : Result (List Word) LineFault) (fault : LineFault)
    (more : List Word → Result (List (List Word)) TextFault) (drafts : List Draft) → words ≡ Err fault
    → read_on words more ≡ Ok drafts → ⊥
bad_line words fault more drafts is read =
    let fails = subst (λ w. read_on w more ≡ Ok drafts) is read in
    ok_fails drafts (ff.Text (text_fault 0 fault)) (sym fails)

abbrev read_lines : List (List ℕ) → Result (List Draft) FileFault
read_lines rows =
    of_text (words_from 0 rows >>= sections_of) >>= (λ sections. of_handler (drafts_of sections))

marked : (rest : List ℕ) (drafts : List Draft) → assemble (239 ∷ rest) ≡ Ok drafts → ⊥
marked rest drafts read = by (slice_split is_feed rest) read
  where
    by : (rows : List (List ℕ)) → read_lines (onto_first 239 rows) ≡ Ok drafts → ⊥
    by [] read =
        bad_line (words_of (239 ∷ [])) (record { at = 0; mistake = BadByte })
        (λ words. seen (λ more. words ∷ more) (words_from 1 [])) drafts (mark_is_bad []) read
    by (row ∷ rows) read =
        bad_line (words_of (239 ∷ row)) (record { at = 0; mistake = BadByte })
        (λ words. seen (λ more. words ∷ more) (words_from 1 rows)) drafts (mark_is_bad row) read

is_mark : (a : ℕ) → a == 239 ≡ true → a ≡ 239
is_mark a is = grind (arith, nat_tests)

no_mark : (text : List ℕ) (drafts : List Draft) → assemble text ≡ Ok drafts → without_mark text ≡ text
no_mark [] drafts read = refl
no_mark (a ∷ []) drafts read = refl
no_mark (a ∷ b ∷ []) drafts read = refl
no_mark (a ∷ b ∷ c ∷ rest) drafts read = by (a == 239) refl
  where
    by : (mark : Bool) → a == 239 ≡ mark → without_mark (a ∷ b ∷ c ∷ rest) ≡ a ∷ b ∷ c ∷ rest
    by false is = ap (λ t. if t && (b == 187 && c == 191) then rest else a ∷ b ∷ c ∷ rest) is
    by true is =
        absurd (marked (b ∷ c ∷ rest) drafts
        (subst (λ x. assemble (x ∷ b ∷ c ∷ rest) ≡ Ok drafts) (is_mark a is) read))

-- ---- handlers as a text has them

same_handler : (h g : HandlerData) → handler_draft h ≡ handler_draft g → h ≡ g
same_handler h g is =
    let command = ap (λ (d : Draft). d.command) is in
    let params = ap (λ (d : Draft). d.params) is in
    let some_budget = ap (λ (d : Draft). d.budget) is in
    let some_depth = ap (λ (d : Draft). d.depth) is in
    let texts = ap (λ (d : Draft). d.texts) is in
    let calls = ap (λ (d : Draft). d.calls) is in
    let code = ap (λ (d : Draft). d.code) is in
    let budget : h.signature.budget ≡ g.signature.budget = cc in
    let depth : h.signature.depth ≡ g.signature.depth = cc in
    λ j. record {
      command = command j;
      signature = record { params = params j; budget = budget j; depth = depth j };
      texts = texts j;
      calls = calls j;
      code = code j;
    }

head_same : {X : Type 0} (x y : X) (xs ys : List X) → x ∷ xs ≡ y ∷ ys → x ≡ y
head_same x y xs ys is = cc

tail_same : {X : Type 0} (x y : X) (xs ys : List X) → x ∷ xs ≡ y ∷ ys → xs ≡ ys
tail_same x y xs ys is = cc

same_handlers : (hs gs : List HandlerData) → map handler_draft hs ≡ all_like (map handler_draft hs) gs
    → length (map handler_draft hs) ≡ length gs → hs ≡ gs
same_handlers [] [] is count = refl
same_handlers [] (g ∷ gs) is count = absurd (omega arith)
same_handlers (h ∷ hs) [] is count = absurd (omega arith)
same_handlers (h ∷ hs) (g ∷ gs) is count =
    let one = same_handler h g
    (head_same (handler_draft h) (handler_draft g) (map handler_draft hs) (all_like (map handler_draft hs) gs) is) in
    let more = same_handlers hs gs
    (tail_same (handler_draft h) (handler_draft g) (map handler_draft hs) (all_like (map handler_draft hs) gs) is)
    (omega arith) in
    λ j. one j ∷ more j

pub same_handlers_again : SameHandlersAgain
same_handlers_again bytes text file one other =
    let plain = no_mark text (map handler_draft one.handlers) one.again in
    let drafts = ok_same {E = FileFault} other.drafts (map handler_draft one.handlers)
    (sym other.read ∙ (ap assemble plain ∙ one.again)) in
    let right = other.file.right.same in
    let same = subst (λ ds. ds ≡ all_like ds other.file.handlers) drafts right.same in
    let count = subst (λ (ds : List Draft). length ds ≡ length other.file.handlers) drafts right.count in
    let handlers = same_handlers one.handlers other.file.handlers same count in
    other.file.read ∙ (ap (λ hs. Ok hs) (sym handlers) ∙ sym one.read)

-- ---- budgets and depths that are left out

refused_unwritten : (bytes : List ℕ) (drafts : List Draft) (ds : List Declaration)
    → assemble (without_mark bytes) ≡ Ok drafts → IsChoice drafts ds → IsRefused bytes
    → IsUnwritten bytes drafts
refused_unwritten bytes drafts ds read choice (mistaken fault fails) =
    absurd (ok_fails {E = FileFault} drafts fault (sym read ∙ fails))
refused_unwritten bytes drafts ds read choice (unsuited others is none) =
    let same = ok_same {E = FileFault} others drafts (sym is ∙ read) in
    absurd (none ds (subst (λ gs. IsChoice gs ds) (sym same) choice))
refused_unwritten bytes drafts ds read choice (unwritten others is never) =
    let same = ok_same {E = FileFault} others drafts (sym is ∙ read) in
    subst (IsUnwritten bytes) same never

pub accepted_if_any_would : AcceptedIfAnyWould
accepted_if_any_would bytes drafts ds (File file) read choice made =
    subst (λ gs. IsFileOf gs file) (ok_same {E = FileFault} made.drafts drafts (sym made.read ∙ read)) made.file
accepted_if_any_would bytes drafts ds (Faults faults) read choice made =
    refused_unwritten bytes drafts ds read choice made
