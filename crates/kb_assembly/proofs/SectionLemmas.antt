-- The handlers of lines: what is read is in the grammar, and what is in the grammar is read.
use Rattle.std.proofs.Common.{◌≡◌, refl, sym, ap, ◌∙◌, subst, ℕ, ◌+◌, List, [], ◌∷◌, ◌++◌, Bool, true, false, cond}
use Rattle.std.proofs.Common.{Option, Some, None, Result, Ok, Err, append_assoc}
use Rattle.std.specs.Prelude.{if◌then◌else◌, not, ◌&&◌, bytes_eq, codes}
use Rattle.std.specs.List.{list_all}
use Rattle.std.proofs.lemmas.Bool.{false≢true}
use Rattle.std.proofs.lemmas.List.{append-nil}
use Rattle.std.proofs.lemmas.Slice.Eq.{bytes_eq-Decides}
use Rattle.kb_base.specs.Reading.{◌>>=◌, seen}
use Rattle.kb_assembly.specs.declared.code.TextFault.{TextFault}
use Rattle.kb_assembly.specs.declared.draft.Draft.{Draft}
use Rattle.kb_assembly.specs.declared.draft.HandlerFault.{HandlerFault}
use Rattle.kb_assembly.specs.declared.fault.LineFault.{LineFault}
use Rattle.kb_assembly.specs.declared.sections.Cut.{Cut}
use Rattle.kb_assembly.specs.declared.sections.Section.{Section}
use Rattle.kb_assembly.specs.declared.words.Word.{Word}
use Rattle.kb_assembly.specs.Code.{in_line}
use Rattle.kb_assembly.specs.Draft.{draft_of, placed_result, section_draft, drafts_of, IsHandler}
use Rattle.kb_assembly.specs.File.{none_starts, AreHandlers, no_handlers, one_handler, IsAll, body_handlers, body_blank}
use Rattle.kb_assembly.specs.Line.{bare}
use Rattle.kb_assembly.specs.Sections.{starts, name_in, section, listed, closed, opened, added, with_last, cut_step, cut_from}
use Rattle.kb_assembly.specs.Write.{handler_word}
use Rattle.kb_assembly.proofs.DraftLemmas.{handler_is, handler_read}
use Rattle.kb_assembly.proofs.HeadLemmas.{first_part, seen_part, in_line_is}

-- ---- the loop

seen_twice : (done more : List Section) (r : Result (List Section) TextFault) →
    seen (λ xs. done ++ xs) (seen (λ xs. more ++ xs) r) ≡ seen (λ xs. (done ++ more) ++ xs) r
seen_twice done more (Ok xs) = ap (λ ys. Ok ys) (sym (append_assoc done more xs))
seen_twice done more (Err fault) = refl

-- a line is taken
pub cut_more : (old new : Cut) (line : ℕ) (words : List Word) (rest : List (List Word)) → cut_step old line words ≡ Ok new →
    seen (λ more. old.done ++ more) (cut_from line old.last (words ∷ rest))
    ≡ seen (λ more. new.done ++ more) (cut_from (line + 1) new.last rest)
cut_more old new line words rest e = by (starts words) e where
  begun : (r : Result (List ℕ) LineFault) → in_line line (seen (opened old line) r) ≡ Ok new →
      seen (λ more. old.done ++ more) (in_line line r >>= λ name.
      seen (λ more. listed old.last ++ more) (cut_from (line + 1) (Some (section name line [])) rest))
      ≡ seen (λ more. new.done ++ more) (cut_from (line + 1) new.last rest)
  begun (Ok name) e =
      let s : opened old line name ≡ new = cc in
      seen_twice old.done (listed old.last) (cut_from (line + 1) (Some (section name line [])) rest)
      ∙ ap (λ (c : Cut). seen (λ more. c.done ++ more) (cut_from (line + 1) c.last rest)) s
  begun (Err fault) e = absurd (cc)

  grown : (r : Result (Option Section) TextFault) → seen (with_last old) r ≡ Ok new →
      seen (λ more. old.done ++ more) (r >>= λ next. cut_from (line + 1) next rest)
      ≡ seen (λ more. new.done ++ more) (cut_from (line + 1) new.last rest)
  grown (Ok last) e =
      let s : with_last old last ≡ new = cc in
      ap (λ (c : Cut). seen (λ more. c.done ++ more) (cut_from (line + 1) c.last rest)) s
  grown (Err fault) e = absurd (cc)

  by : (b : Bool) →
      (if b then in_line line (seen (opened old line) (name_in words)) else seen (with_last old) (added old.last line words)) ≡ Ok new →
      seen (λ more. old.done ++ more) (if b then (in_line line (name_in words) >>= λ name.
      seen (λ more. listed old.last ++ more) (cut_from (line + 1) (Some (section name line [])) rest))
      else (added old.last line words >>= λ next. cut_from (line + 1) next rest))
      ≡ seen (λ more. new.done ++ more) (cut_from (line + 1) new.last rest)
  by true e = begun (name_in words) e
  by false e = grown (added old.last line words) e

-- a line is refused
pub cut_refused : (old : Cut) (line : ℕ) (words : List Word) (rest : List (List Word)) (fault : TextFault) →
    cut_step old line words ≡ Err fault →
    seen (λ more. old.done ++ more) (cut_from line old.last (words ∷ rest)) ≡ Err fault
cut_refused old line words rest fault e = by (starts words) e where
  begun : (r : Result (List ℕ) LineFault) → in_line line (seen (opened old line) r) ≡ Err fault →
      seen (λ more. old.done ++ more) (in_line line r >>= λ name.
      seen (λ more. listed old.last ++ more) (cut_from (line + 1) (Some (section name line [])) rest)) ≡ Err fault
  begun (Ok name) e = absurd (cc)
  begun (Err f) e = cc

  grown : (r : Result (Option Section) TextFault) → seen (with_last old) r ≡ Err fault →
      seen (λ more. old.done ++ more) (r >>= λ next. cut_from (line + 1) next rest) ≡ Err fault
  grown (Ok last) e = absurd (cc)
  grown (Err f) e = cc

  by : (b : Bool) →
      (if b then in_line line (seen (opened old line) (name_in words)) else seen (with_last old) (added old.last line words)) ≡ Err fault →
      seen (λ more. old.done ++ more) (if b then (in_line line (name_in words) >>= λ name.
      seen (λ more. listed old.last ++ more) (cut_from (line + 1) (Some (section name line [])) rest))
      else (added old.last line words >>= λ next. cut_from (line + 1) next rest)) ≡ Err fault
  by true e = begun (name_in words) e
  by false e = grown (added old.last line words) e

-- ---- lines that begin handlers

both : (a b : Bool) → a && b ≡ true → (a ≡ true) × (b ≡ true)
both true b h = (refl, h)
both false b h = absurd (false≢true h)

start_is : (first : Word) → not first.is_quoted && bytes_eq first.text (codes ".handler") ≡ true → first ≡ bare handler_word
start_is first e =
    let p = both (not first.is_quoted) (bytes_eq first.text (codes ".handler")) e in
    ap (λ q. record { is_quoted = q; text = first.text }) (unquoted first.is_quoted p.0)
    ∙ ap bare ((bytes_eq-Decides first.text (codes ".handler")).0 p.1)
  where
    unquoted : (q : Bool) → not q ≡ true → q ≡ false
    unquoted true e = absurd (false≢true e)
    unquoted false e = refl

-- a line that begins a handler and has a name
named_is : (words : List Word) (name : List ℕ) → starts words ≡ true → name_in words ≡ Ok name →
    (word : Word) × (words ≡ bare handler_word ∷ word ∷ []) × (word.text ≡ name)
named_is [] name begins e = absurd (false≢true begins)
named_is (first ∷ []) name begins e = absurd (cc)
named_is (first ∷ other ∷ third ∷ words) name begins e = absurd (cc)
named_is (first ∷ word ∷ []) name begins e = (word, ap (λ w. w ∷ word ∷ []) (start_is first begins), cc)

-- ---- what is read is in the grammar

-- the lines left of the last handler, and the handlers behind it
pub record Told (lines : List (List Word)) (drafts : List Draft) (last : Section) : Type 0 where
  pub own : List (List Word)
  pub rest : List (List Word)
  pub draft : Draft
  pub others : List Draft
  pub all_is : lines ≡ own ++ rest
  pub each_is : drafts ≡ draft ∷ others
  pub handler : IsHandler last.command (last.lines ++ own) draft
  pub none : none_starts own ≡ true
  pub more : AreHandlers rest others

placed_is : {A : Type 0} (first : ℕ) (r : Result A TextFault) (x : A) → placed_result first r ≡ Ok x → r ≡ Ok x
placed_is first (Ok y) x e = let s : y ≡ x = cc in ap (λ k. Ok k) s
placed_is first (Err fault) x e = absurd (cc)

-- the last handler has no line more
last_told : (lines : List (List Word)) (last : Section) (sections : List Section) (drafts : List Draft) →
    drafts_of (last ∷ sections) ≡ Ok drafts →
    ((others : List Draft) → drafts_of sections ≡ Ok others → AreHandlers lines others) → Told lines drafts last
last_told lines last sections drafts e rest =
    let p = first_part (section_draft last) (λ draft. seen (λ more. draft ∷ more) (drafts_of sections)) drafts e in
    let q = seen_part (λ more. p.0 ∷ more) (drafts_of sections) drafts p.2 in
    record {
      own = [];
      rest = lines;
      draft = p.0;
      others = q.0;
      all_is = refl;
      each_is = sym q.2;
      handler = subst (λ ls. IsHandler last.command ls p.0) (sym (append-nil last.lines))
          (handler_is last.command last.lines p.0 (placed_is last.line (draft_of last.command last.lines) p.0 p.1));
      none = refl;
      more = rest q.0 q.1;
    }

-- the lines of the last handler begin with one more
one_told : (words : List Word) (lines : List (List Word)) (last : Section) (drafts : List Draft) → starts words ≡ false →
    Told lines drafts (record last { lines = last.lines ++ words ∷ [] }) → Told (words ∷ lines) drafts last
one_told words lines last drafts begins t = record {
  own = words ∷ t.own;
  rest = t.rest;
  draft = t.draft;
  others = t.others;
  all_is = ap (λ ls. words ∷ ls) t.all_is;
  each_is = t.each_is;
  handler = subst (λ ls. IsHandler last.command ls t.draft) (append_assoc last.lines (words ∷ []) t.own) t.handler;
  none = ap (λ b. not b && none_starts t.own) begins ∙ t.none;
  more = t.more;
}

-- a told handler, with the line that begins it
begun_told : (word : Word) (name : List ℕ) (line : ℕ) (lines : List (List Word)) (drafts : List Draft) → word.text ≡ name →
    Told lines drafts (section name line []) → AreHandlers ((bare handler_word ∷ word ∷ []) ∷ lines) drafts
begun_told word name line lines drafts named t =
    subst (λ ls. AreHandlers ((bare handler_word ∷ word ∷ []) ∷ ls) drafts) (sym t.all_is)
    (subst (AreHandlers ((bare handler_word ∷ word ∷ []) ∷ t.own ++ t.rest)) (sym t.each_is)
    (one_handler (subst (λ n. IsHandler n t.own t.draft) (sym named) t.handler) t.none t.more))

pub rest_told : (line : ℕ) (last : Section) (lines : List (List Word)) (sections : List Section) (drafts : List Draft) →
    cut_from line (Some last) lines ≡ Ok sections → drafts_of sections ≡ Ok drafts → Told lines drafts last
rest_told line last [] sections drafts e read =
    let s : last ∷ [] ≡ sections = cc in
    last_told [] last [] drafts (ap drafts_of s ∙ read) (λ others none. let n : [] ≡ others = cc in subst (AreHandlers []) n no_handlers)
rest_told line last (words ∷ lines) sections drafts e read =
    by (starts words) refl e (λ next. rest_told (line + 1) next lines) where
      Rest : Type 0
      Rest = (next : Section) (sections : List Section) (drafts : List Draft) → cut_from (line + 1) (Some next) lines ≡ Ok sections →
          drafts_of sections ≡ Ok drafts → Told lines drafts next

      begun : starts words ≡ true → Rest →
          (in_line line (name_in words) >>= λ name.
          seen (λ more. last ∷ more) (cut_from (line + 1) (Some (section name line [])) lines)) ≡ Ok sections → Told (words ∷ lines) drafts last
      begun begins rest e =
          let p = first_part (in_line line (name_in words))
          (λ name. seen (λ more. last ∷ more) (cut_from (line + 1) (Some (section name line [])) lines)) sections e in
          let q = seen_part (λ more. last ∷ more) (cut_from (line + 1) (Some (section p.0 line [])) lines) sections p.2 in
          let n = named_is words p.0 begins (in_line_is line (name_in words) p.0 p.1) in
          last_told (words ∷ lines) last q.0 drafts (ap drafts_of q.2 ∙ read)
          (λ others more. subst (λ ws. AreHandlers (ws ∷ lines) others) (sym n.1)
          (begun_told n.0 p.0 line lines others n.2 (rest (section p.0 line []) q.0 others q.1 more)))

      by : (b : Bool) → starts words ≡ b →
          (if b then (in_line line (name_in words) >>= λ name.
          seen (λ more. last ∷ more) (cut_from (line + 1) (Some (section name line [])) lines))
          else cut_from (line + 1) (Some (record last { lines = last.lines ++ words ∷ [] })) lines) ≡ Ok sections →
          Rest → Told (words ∷ lines) drafts last
      by true begins e rest = begun begins rest e
      by false begins e rest =
          one_told words lines last drafts begins (rest (record last { lines = last.lines ++ words ∷ [] }) sections drafts e read)

pub lines_told : (line : ℕ) (lines : List (List Word)) (sections : List Section) (drafts : List Draft) →
    cut_from line None lines ≡ Ok sections → drafts_of sections ≡ Ok drafts → IsAll lines drafts
lines_told line [] sections drafts e read =
    let s : [] ≡ sections = cc in
    let t : Ok [] ≡ Ok drafts = ap drafts_of s ∙ read in
    let n : [] ≡ drafts = cc in
    subst (IsAll []) n (body_handlers no_handlers)
lines_told line (words ∷ lines) sections drafts e read =
    by (starts words) refl words refl e (lines_told (line + 1) lines sections drafts) where
      begun : starts words ≡ true →
          (in_line line (name_in words) >>= λ name.
          seen (λ more. [] ++ more) (cut_from (line + 1) (Some (section name line [])) lines)) ≡ Ok sections → IsAll (words ∷ lines) drafts
      begun begins e =
          let p = first_part (in_line line (name_in words))
          (λ name. seen (λ more. [] ++ more) (cut_from (line + 1) (Some (section name line [])) lines)) sections e in
          let q = seen_part (λ more. [] ++ more) (cut_from (line + 1) (Some (section p.0 line [])) lines) sections p.2 in
          let n = named_is words p.0 begins (in_line_is line (name_in words) p.0 p.1) in
          subst (λ ws. IsAll (ws ∷ lines) drafts) (sym n.1)
          (body_handlers (begun_told n.0 p.0 line lines drafts n.2
          (rest_told (line + 1) (section p.0 line []) lines q.0 drafts q.1 (ap drafts_of q.2 ∙ read))))

      by : (b : Bool) → starts words ≡ b → (ws : List Word) → words ≡ ws →
          (if b then (in_line line (name_in words) >>= λ name.
          seen (λ more. [] ++ more) (cut_from (line + 1) (Some (section name line [])) lines))
          else (added None line words >>= λ next. cut_from (line + 1) next lines)) ≡ Ok sections →
          (cut_from (line + 1) None lines ≡ Ok sections → drafts_of sections ≡ Ok drafts → IsAll lines drafts) → IsAll (words ∷ lines) drafts
      by true begins ws is e rest = begun begins e
      by false begins [] is e rest =
          subst (λ ws. IsAll (ws ∷ lines) drafts) (sym is)
          (body_blank (rest (ap (λ ws. added None line ws >>= λ next. cut_from (line + 1) next lines) (sym is) ∙ e) read))
      by false begins (w ∷ ws) is e rest =
          let bad = sym (ap (λ ws. added None line ws >>= λ next. cut_from (line + 1) next lines) is) ∙ e in absurd (cc)

-- ---- what is in the grammar is read

own_added : (line : ℕ) (last : Section) (own rest : List (List Word)) → none_starts own ≡ true →
    (next : ℕ) × (cut_from line (Some last) (own ++ rest) ≡ cut_from next (Some (record last { lines = last.lines ++ own })) rest)
own_added line last [] rest none =
    (line, ap (λ ls. cut_from line (Some (record last { lines = ls })) rest) (sym (append-nil last.lines)))
own_added line last (words ∷ own) rest none =
    let p = both (not (starts words)) (none_starts own) none in
    let q = own_added (line + 1) (record last { lines = last.lines ++ words ∷ [] }) own rest p.1 in (
      q.0,
      by (starts words) p.0 ∙ q.1
          ∙ ap (λ ls. cut_from q.0 (Some (record last { lines = ls })) rest) (append_assoc last.lines (words ∷ []) own),
    )
  where
    by : (b : Bool) → not b ≡ true →
        (if b then (in_line line (name_in words) >>= λ name.
        seen (λ more. last ∷ more) (cut_from (line + 1) (Some (section name line [])) (own ++ rest)))
        else cut_from (line + 1) (Some (record last { lines = last.lines ++ words ∷ [] })) (own ++ rest))
        ≡ cut_from (line + 1) (Some (record last { lines = last.lines ++ words ∷ [] })) (own ++ rest)
    by true e = absurd (false≢true e)
    by false e = refl

pub last_read : (line : ℕ) (last : Section) (own rest : List (List Word)) (draft : Draft) (drafts : List Draft) →
    IsHandler last.command (last.lines ++ own) draft → none_starts own ≡ true → AreHandlers rest drafts →
    (sections : List Section) × (cut_from line (Some last) (own ++ rest) ≡ Ok sections) × (drafts_of sections ≡ Ok (draft ∷ drafts))
last_read line last own rest draft drafts is none no_handlers =
    let p = own_added line last own [] none in (
      record last { lines = last.lines ++ own } ∷ [],
      p.1,
      ap (λ r. placed_result last.line r >>= λ draft. Ok (draft ∷ [])) (handler_read last.command (last.lines ++ own) draft is),
    )
last_read line last own rest draft drafts is none (one_handler {name = name} {lines = lines} {rest = more} {draft = next} {drafts = others} own_is own_none handlers) =
    let p = own_added line last own ((bare handler_word ∷ name ∷ []) ∷ lines ++ more) none in
    let q = last_read (p.0 + 1) (section name.text p.0 []) lines more next others own_is own_none handlers in
    let here = record last { lines = last.lines ++ own } in (
      here ∷ q.0,
      p.1 ∙ ap (seen (λ more. here ∷ more)) q.1,
      ap (λ r. placed_result last.line r >>= λ draft. seen (λ more. draft ∷ more) (drafts_of q.0))
          (handler_read last.command (last.lines ++ own) draft is)
          ∙ ap (seen (λ more. draft ∷ more)) q.2,
    )

pub all_read : (line : ℕ) (lines : List (List Word)) (drafts : List Draft) → IsAll lines drafts →
    (sections : List Section) × (cut_from line None lines ≡ Ok sections) × (drafts_of sections ≡ Ok drafts)
all_read line lines drafts (body_handlers no_handlers) = ([], refl, refl)
all_read line lines drafts (body_handlers (one_handler {name = name} {lines = own} {rest = more} {draft = next} {drafts = others} is none handlers)) =
    let q = last_read (line + 1) (section name.text line []) own more next others is none handlers in
    (q.0, ap (seen (λ more. [] ++ more)) q.1, q.2)
all_read line lines drafts (body_blank {lines = rest} more) = all_read (line + 1) rest drafts more
