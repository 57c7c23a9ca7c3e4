-- For each list of elements there are marks by which all its patterns are marked as they are or aren't read.
use Rattle.std.proofs.Common.{◌≡◌, ℕ, ◌+◌, List, [], ◌∷◌, ◌++◌}
use Rattle.std.proofs.Common.{Option, Some, None, Result, Ok, Err, refl, sym, ap, ◌∙◌, subst}
use Rattle.std.proofs.Common.{append_assoc, append-nil}
use Rattle.std.specs.Prelude.{option_map}
use Rattle.serde_json.specs.Data.{Data, Members}
use Rattle.serde_json.specs.Find.{as_object}
use Rattle.kb_base.specs.Reading.{◌>>=◌, or_fault, seen}
use Rattle.kb_base.specs.declared.fault.FaultKind.{FaultKind}
use Rattle.kb_base.specs.declared.fault.FaultKind.TheVariants as kind
use Rattle.kb_base.specs.declared.note.EntryPattern.{EntryPattern}
use Rattle.kb_base.specs.declared.note.Origin.{Origin}
use Rattle.kb_keys.specs.declared.platform.Platform.{Platform}
use Rattle.kb_pattern.proofs.PatternLemmas.{marks_for, right_marks_for}
use Rattle.kb_when.proofs.UnreadLemmas.{marked_back}
use Rattle.kb_when.specs.Clause.{Clause, patterns_of}
use Rattle.kb_when.specs.Marks.{MarkedClause}
use Rattle.kb_when.specs.Unread.{marked_by}
use Rattle.kb_rules.proofs.RuleListLemmas.{Reads, reads_next, reads_none}
use Rattle.kb_rules.specs.Entry.{Found, binding_of, completed, element_of, entry_of, found_in, made, terms_of}
use Rattle.kb_rules.specs.RuleList.{AreRightlyMarked, IsRight, IsWhole, Listed, listed, no_elements, with_read}
use Rattle.kb_rules.specs.Unread.{IsRightlyMarked, marked_entry, marked_when, unread_when}
use Rattle.kb_rules.specs.declared.entry.Binding.{Binding}
use Rattle.kb_rules.specs.declared.entry.Binding.TheVariants as binding
use Rattle.kb_rules.specs.declared.entry.Entry.{Entry}
use Rattle.kb_rules.specs.declared.entry.Entry.TheVariants.{Starts, Removes}

-- ---- the marks of a clause

abbrev clause_for : Clause → MarkedClause
clause_for tree = record { tree = tree; marks = marks_for (patterns_of tree) }

-- ---- those of an element

abbrev when_for : Option MarkedClause → Option MarkedClause
when_for when = option_map (λ c. clause_for c.tree) when

abbrev entry_for : Entry → Entry
entry_for (Starts rule) = Starts (record rule { when = when_for rule.when })
entry_for (Removes removal) = Removes (record removal { when = when_for removal.when })

abbrev read_for : Result Entry FaultKind → Result Entry FaultKind
read_for = seen entry_for

whole_when : (when : Option MarkedClause) → marked_when (unread_when (when_for when)) (when_for when) ≡ when_for when
whole_when None = refl
whole_when (Some c) = ap Some (marked_back (clause_for c.tree) (right_marks_for (patterns_of c.tree)))

whole_read : (read : Result Entry FaultKind) → IsWhole (read_for read)
whole_read (Ok (Starts rule)) = ap (λ when. Starts (record rule { when = when })) (whole_when rule.when)
whole_read (Ok (Removes removal)) =
    ap (λ when. Removes (record removal { when = when })) (whole_when removal.when)
whole_read (Err kind) = tt

right_when : (when : Option MarkedClause) → IsRightlyMarked (when_for when)
right_when None = tt
right_when (Some c) = right_marks_for (patterns_of c.tree)

right_read : (read : Result Entry FaultKind) → IsRight (read_for read)
right_read (Ok (Starts rule)) = right_when rule.when
right_read (Ok (Removes removal)) = right_when removal.when
right_read (Err kind) = tt

-- ---- an element has no marks before its patterns are read

abbrev IsBare : Result Entry FaultKind → Type 0
IsBare read = read ≡ seen (marked_entry []) (read_for read)

made_bare : (origin : Origin) (place : ℕ) (bound : Binding) (condition : Option Clause) (args : Option Data)
    → IsBare (Ok (made origin place bound (option_map (marked_by []) condition) args))
made_bare origin place (binding.Starts command keys) None args = refl
made_bare origin place (binding.Starts command keys) (Some clause) args = refl
made_bare origin place (binding.Removes command keys) None args = refl
made_bare origin place (binding.Removes command keys) (Some clause) args = refl

completed_bare : (origin : Origin) (place : ℕ) (bound : Binding)
    (terms : Result (Option Clause × Option Data) FaultKind) → IsBare (completed origin place bound terms)
completed_bare origin place bound (Ok terms) = made_bare origin place bound terms.0 terms.1
completed_bare origin place bound (Err kind) = refl

bound_bare : (origin : Origin) (place : ℕ) (bound : Result Binding FaultKind)
    (terms : Result (Option Clause × Option Data) FaultKind)
    → IsBare (bound >>= λ b. completed origin place b terms)
bound_bare origin place (Ok bound) terms = completed_bare origin place bound terms
bound_bare origin place (Err kind) terms = refl

element_bare : (origin : Origin) (place : ℕ) (found : Found) → IsBare (element_of origin place found)
unfolding element_of
element_bare origin place found =
    bound_bare origin place (binding_of found.command found.key) (terms_of found.when found.args)

members_bare : (origin : Origin) (platform : Option Platform) (place : ℕ) (members : Result Members FaultKind)
    → IsBare (members >>= λ members. element_of origin place (found_in platform members))
members_bare origin platform place (Ok members) = element_bare origin place (found_in platform members)
members_bare origin platform place (Err kind) = refl

entry_bare : (origin : Origin) (platform : Option Platform) (place : ℕ) (d : Data)
    → IsBare (entry_of origin platform place d)
entry_bare origin platform place d = members_bare origin platform place (or_fault kind.WrongShape (as_object d))

-- ---- those of a list

module _ (origin : Origin) (platform : Option Platform) where
  record RightList (elements : List Data) : Type 0 where
    list : Listed
    list_is : list ≡ listed list.unread origin platform elements
    right : AreRightlyMarked list

  right_list : (list : Listed) (place : ℕ) (done rest : List Data) → Reads origin platform list place done
      → RightList (done ++ rest)
  right_list list place done [] r = record {
    list = list;
    list_is = r.list_is ∙ ap (listed list.unread origin platform) (sym (append-nil done));
    right = r.right;
  }
  right_list list place done (d ∷ ds) r =
      let read = read_for (entry_of origin platform place d) in
      let more = right_list (with_read origin place read list) (place + 1) (done ++ d ∷ []) ds
      (reads_next origin platform list place done d read r (entry_bare origin platform place d)
      (whole_read (entry_of origin platform place d)) (right_read (entry_of origin platform place d))) in
      record {
        list = more.list;
        list_is = more.list_is ∙ ap (listed more.list.unread origin platform) (append_assoc done (d ∷ []) ds);
        right = more.right;
      }

  pub right_marks : (elements : List Data)
      → (unread : List EntryPattern) × AreRightlyMarked (listed unread origin platform elements)
  right_marks elements =
      let all = right_list no_elements 0 [] elements (reads_none origin platform) in
      (all.list.unread, subst AreRightlyMarked all.list_is all.right)
