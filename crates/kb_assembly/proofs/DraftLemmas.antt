-- Handlers: what is read is in the grammar, and what is in the grammar is read.
use Rattle.std.proofs.Common.{◌≡◌, refl, sym, ap, ◌∙◌, subst, List, Result, Ok, Err, ℕ}
use Rattle.std.specs.Prelude.{IfOk}
use Rattle.kb_base.specs.declared.failure.Failure.{Failure}
use Rattle.kb_base.specs.Failure.{Gives}
use Rattle.kb_base.specs.Reading.{◌>>=◌, seen}
use Rattle.kb_code.specs.declared.instr.Instr.{Instr}
use Rattle.kb_assembly.specs.declared.code.TextFault.{TextFault}
use Rattle.kb_assembly.specs.declared.draft.Draft.{Draft}
use Rattle.kb_assembly.specs.declared.head.Head.{Head}
use Rattle.kb_assembly.specs.declared.words.Word.{Word}
use Rattle.kb_assembly.specs.Code.{assembled, names_of as names_in}
use Rattle.kb_assembly.specs.Draft.{names_of, draft_with, with_code, draft_of, IsHandler}
use Rattle.kb_assembly.specs.Head.{no_head, heads_from, IsHead}
use Rattle.kb_assembly.specs.Uses.{text_used, call_used, grown}
use Rattle.kb_assembly.proofs.GrammarLemmas.{code_is, code_read}
use Rattle.kb_assembly.proofs.HeadLemmas.{head_is, head_read, first_part, seen_part}

pub handler_is : (command : List ℕ) (lines : List (List Word)) (draft : Draft) → draft_of command lines ≡ Ok draft →
    IsHandler command lines draft
handler_is command lines draft e =
    let p = first_part (heads_from 0 no_head lines) (λ head. with_code command head lines) draft e in
    let head = p.0 in
    let texts = grown text_used head.texts lines in
    let calls = grown call_used head.calls lines in
    let q = seen_part (draft_with command head texts calls) (assembled texts calls (names_of head.params) lines) draft p.2 in
    let same : draft.code ≡ q.0 = ap (λ (d : Draft). d.code) (sym q.2) in
    record {
      head = head;
      headed = head_is 0 no_head lines head p.1;
      parts = sym q.2 ∙ ap (draft_with command head texts calls) (sym same);
      coded = code_is (names_in texts calls (names_of head.params) lines) 0 lines draft.code
          (q.1 ∙ ap (λ code. Ok code) (sym same));
    }

pub handler_read : (command : List ℕ) (lines : List (List Word)) (draft : Draft) → IsHandler command lines draft →
    draft_of command lines ≡ Ok draft
handler_read command lines draft is =
    let head = is.head in
    let texts = grown text_used head.texts lines in
    let calls = grown call_used head.calls lines in
    ap (λ r. r >>= λ head. with_code command head lines) (head_read 0 no_head lines head is.headed)
    ∙ ap (seen (draft_with command head texts calls))
    (code_read (names_in texts calls (names_of head.params) lines) 0 lines draft.code is.coded)
    ∙ ap (λ d. Ok d) (sym is.parts)

-- the same of results
pub given_handler : (command : List ℕ) (lines : List (List Word)) (r : Result Draft (Failure TextFault)) →
    Gives (λ draft. draft) r (draft_of command lines) → IfOk r (IsHandler command lines)
given_handler command lines (Ok draft) e = handler_is command lines draft e
given_handler command lines (Err failure) e = tt

pub given_lines : (command : List ℕ) (lines : List (List Word)) (r : Result Draft (Failure TextFault)) (draft : Draft) →
    IsHandler command lines draft → Gives (λ draft. draft) r (draft_of command lines) → Gives (λ draft. draft) r (Ok draft)
given_lines command lines r draft is e = subst (Gives (λ draft. draft) r) (handler_read command lines draft is) e
