-- The entries of a part in turn, for the unread patterns that were found.
use Rattle.std.proofs.Common.{◌≡◌, ℕ, ◌+◌, ◌<◌, ◌≤◌, List, [], ◌∷◌, ◌++◌}
use Rattle.std.proofs.Common.{refl, sym, ap, subst, ◌∙◌, arith}
use Rattle.std.proofs.lemmas.List.{append-nil, append_assoc}
use Rattle.serde_json.specs.Data.{Data}
use Rattle.kb_base.specs.declared.note.Origin.{Origin}
use Rattle.kb_base.specs.declared.note.Part.{Part}
use Rattle.kb_base.specs.declared.note.EntryPattern.{EntryPattern}
use Rattle.kb_when.specs.Placed.{marks_at, placed}
use Rattle.kb_base.specs.declared.note.UnreadPattern.{UnreadPattern}
use Rattle.kb_when.proofs.PlacedLemmas.{marks_at-append, marks_at-placed, marks_at-elsewhere, AllOf}
use Rattle.kb_when.proofs.PlacedLemmas.{all_of-append, all_of-placed}
use Rattle.kb_manifest.specs.declared.judged.Judged.{Judged}
use Rattle.kb_manifest.specs.declared.notes.Notes.{Notes}
use Rattle.kb_manifest.specs.Judged.{kept_in, kept_from, warnings_from, unread_from, each_by, AllRight}
use Rattle.kb_manifest.specs.Notes.{with_warning, with_unread, warning_in}

-- the unread patterns of notes are of their part
pub of_notes : {X : Type 0} (judged_at : List UnreadPattern → ℕ → Data → Judged X)
    (told : ℕ → List UnreadPattern) (origin : Origin) (part : Part) (place : ℕ) (ds : List Data)
    → AllOf origin part (unread_from judged_at told origin part place ds)
of_notes judged_at told origin part place [] = tt
of_notes judged_at told origin part place (d ∷ ds) =
    all_of-append origin part (placed origin part place (judged_at (told place) place d).unread)
    (unread_from judged_at told origin part (place + 1) ds)
    (all_of-placed origin part place (judged_at (told place) place d).unread)
    (of_notes judged_at told origin part (place + 1) ds)

-- ---- the patterns of one place

module _ (origin : Origin) (part : Part) where
  -- those of the entry at a place are found at its place alone
  at_its_place : (unread : List EntryPattern) (place : ℕ) (ps : List UnreadPattern)
      → marks_at origin part unread place ≡ []
      → marks_at origin part (unread ++ placed origin part place ps) place ≡ ps
  at_its_place unread place ps none =
      marks_at-append origin part unread (placed origin part place ps) place
      ∙ (λ i. none i ++ marks_at-placed origin part place ps i)

  elsewhere : (unread : List EntryPattern) (place q : ℕ) (ps : List UnreadPattern) → (place ≡ q → ⊥)
      → marks_at origin part (unread ++ placed origin part place ps) q ≡ marks_at origin part unread q
  elsewhere unread place q ps other =
      marks_at-append origin part unread (placed origin part place ps) q
      ∙ ap (λ l. marks_at origin part unread q ++ l) (marks_at-elsewhere origin part q place ps other)
      ∙ append-nil (marks_at origin part unread q)

  -- of the places so far it is what was found
  abbrev pub IsFound : (ℕ → List UnreadPattern) → ℕ → List EntryPattern → Type 0
  IsFound told place unread = (p : ℕ) → p < place → told p ≡ marks_at origin part unread p

  abbrev pub NoneFrom : ℕ → List EntryPattern → Type 0
  NoneFrom place unread = (p : ℕ) → place ≤ p → marks_at origin part unread p ≡ []

  found_here : (told : ℕ → List UnreadPattern) (place : ℕ) (unread : List EntryPattern)
      (ps : List UnreadPattern) → NoneFrom place unread
      → IsFound told (place + 1) (unread ++ placed origin part place ps) → told place ≡ ps
  found_here told place unread ps none found =
      found place (omega arith) ∙ at_its_place unread place ps (none place (omega arith))

  found_above : (told : ℕ → List UnreadPattern) (place : ℕ) (unread : List EntryPattern)
      (ps : List UnreadPattern) → IsFound told (place + 1) (unread ++ placed origin part place ps)
      → IsFound told place unread
  found_above told place unread ps found =
      λ p h. found p (omega arith) ∙ elsewhere unread place p ps (λ e. omega (arith))

-- ---- the entries in turn

module _ {X : Type 0} (judged_at : List UnreadPattern → ℕ → Data → Judged X)
    (Right : List UnreadPattern → Data → Type 0) (origin : Origin) (part : Part) (all : List Data) where
  -- what there is, and then what the entries that are left give, is what all give. Where the patterns of
  -- those that are left are right, all are
  pub record Gives (told : ℕ → List UnreadPattern) (place : ℕ) (left : List Data) (kept : List X)
      (notes : Notes) : Type 0 where
    pub kept_are : kept ++ kept_from judged_at told place left ≡ kept_from judged_at told 0 all
    pub warnings_are : notes.warnings ++ warnings_from judged_at told origin part place left
        ≡ warnings_from judged_at told origin part 0 all
    pub unread_are : notes.unread ++ unread_from judged_at told origin part place left
        ≡ unread_from judged_at told origin part 0 all
    pub right : AllRight Right told place left → AllRight Right told 0 all

  -- this holds for any patterns of the entries that are left
  pub record Goes (place : ℕ) (left : List Data) (kept : List X) (notes : Notes) : Type 0 where
    pub none : NoneFrom origin part place notes.unread
    pub gives : (told : ℕ → List UnreadPattern) → IsFound origin part told place notes.unread
        → Gives told place left kept notes

  -- the notes of one entry more
  abbrev noted : ℕ → Judged X → Notes → Notes
  noted place j notes =
      with_unread origin part place j.unread (with_warning origin part place j.fault notes)

  gives_on : (told : ℕ → List UnreadPattern) (place : ℕ) (d : Data) (ds : List Data) (kept : List X)
      (notes : Notes) (j : Judged X) → judged_at (told place) place d ≡ j → Right (told place) d
      → Gives told place (d ∷ ds) kept notes
      → Gives told (place + 1) ds (kept ++ kept_in j.kept) (noted place j notes)
  gives_on told place d ds kept notes j is right gives =
      let items = kept_from judged_at told (place + 1) ds in
      let warnings = warnings_from judged_at told origin part (place + 1) ds in
      let unread = unread_from judged_at told origin part (place + 1) ds in
      record {
        kept_are = append_assoc kept (kept_in j.kept) items
            ∙ ap (λ (i : Judged X). kept ++ (kept_in i.kept ++ items)) (sym is)
            ∙ gives.kept_are;
        warnings_are = append_assoc notes.warnings (warning_in origin part place j.fault) warnings
            ∙ ap (λ (i : Judged X). notes.warnings ++ (warning_in origin part place i.fault ++ warnings))
            (sym is)
            ∙ gives.warnings_are;
        unread_are = append_assoc notes.unread (placed origin part place j.unread) unread
            ∙ ap (λ (i : Judged X). notes.unread ++ (placed origin part place i.unread ++ unread)) (sym is)
            ∙ gives.unread_are;
        right = λ rest. gives.right (right, rest);
      }

  -- one entry is taken
  pub goes_on : {place : ℕ} {d : Data} {left ds : List Data} {kept new : List X} {notes more : Notes}
      {j : Judged X} → j ≡ judged_at j.unread place d → Right j.unread d → new ≡ kept ++ kept_in j.kept
      → more ≡ noted place j notes → left ≡ d ∷ ds → Goes place left kept notes
      → Goes (place + 1) ds new more
  goes_on {place} {d} {left} {ds} {kept} {new} {notes} {more} {j} is right put told_of first before =
      let goes : Goes place (d ∷ ds) kept notes = subst (λ l. Goes place l kept notes) first before in
      rw (put, told_of) (record {
        none = λ p h. elsewhere origin part notes.unread place p j.unread (λ e. omega (arith))
            ∙ goes.none p (omega arith);
        gives = λ told found.
            let here : told place ≡ j.unread =
            found_here origin part told place notes.unread j.unread goes.none found in
            gives_on told place d ds kept notes j (ap (λ us. judged_at us place d) here ∙ sym is)
            (subst (λ us. Right us d) (sym here) right)
            (goes.gives told (found_above origin part told place notes.unread j.unread found));
      })

  -- no entry is left
  pub ends : {place : ℕ} {left : List Data} {kept : List X} {notes : Notes} → left ≡ []
      → Goes place left kept notes
      → ((kept, notes) ≡ each_by judged_at (marks_at origin part notes.unread) origin part all)
      × AllRight Right (marks_at origin part notes.unread) 0 all
  ends {place} {left} {kept} {notes} none before =
      let goes : Goes place [] kept notes = subst (λ l. Goes place l kept notes) none before in
      let gives = goes.gives (marks_at origin part notes.unread) (λ p h. refl) in (
        (λ i. (
          (sym (append-nil kept) ∙ gives.kept_are) i,
          record {
            warnings = (sym (append-nil notes.warnings) ∙ gives.warnings_are) i;
            unread = (sym (append-nil notes.unread) ∙ gives.unread_are) i;
          },
        )),
        gives.right tt,
      )
