-- The patterns of one entry in a list of patterns of many entries.
use Rattle.std.proofs.Common.{◌≡◌, ℕ, List, [], ◌∷◌, ◌++◌, map, filter, nat_eq, Bool, true, false, ◌&&◌}
use Rattle.std.proofs.Common.{refl, ap, ◌∙◌}
use Rattle.std.specs.List.{AllByRecursion}
use Rattle.std.proofs.lemmas.Bool.{ne_eqb, eq-eqb}
use Rattle.std.proofs.lemmas.List.{map-append}
use Rattle.std.proofs.lemmas.List.Elements.{filter-append}
use Rattle.kb_base.specs.declared.note.Origin.{Origin}
use Rattle.kb_base.specs.declared.note.Origin.TheVariants.{Defaults, Extension, User}
use Rattle.kb_base.specs.declared.note.Part.{Part}
use Rattle.kb_base.specs.declared.note.Part.TheVariants.{Commands, Keybindings, Palette}
use Rattle.kb_base.specs.declared.note.EntryPattern.{EntryPattern}
use Rattle.kb_base.specs.declared.note.UnreadPattern.{UnreadPattern}
use Rattle.kb_when.specs.Placed.{same_origin, same_part, is_at, marks_at, placed}

same_self : (o : Origin) → same_origin o o ≡ true
same_self Defaults = refl
same_self (Extension n) = eq-eqb n n refl
same_self User = refl

part_self : (part : Part) → same_part part part ≡ true
part_self Commands = refl
part_self Keybindings = refl
part_self Palette = refl

and_false : (b : Bool) → (b && false) ≡ false
and_false true = refl
and_false false = refl

-- ---- whether a pattern is of an entry

at_itself : (o : Origin) (part : Part) (place : ℕ)
    → (same_origin o o && (same_part part part && nat_eq place place)) ≡ true
at_itself o part place = λ i. same_self o i && (part_self part i && eq-eqb place place refl i)

pub other_place : (o : Origin) (part : Part) (place : ℕ) (u : EntryPattern) → (u.place ≡ place → ⊥)
    → is_at o part place u ≡ false
other_place o part place u apart =
    ap (λ b. same_origin o u.origin && (same_part part u.part && b)) (ne_eqb u.place place apart)
    ∙ ap (λ b. same_origin o u.origin && b) (and_false (same_part part u.part))
    ∙ and_false (same_origin o u.origin)

-- ---- the patterns of an entry

abbrev mark : EntryPattern → UnreadPattern
mark u = u.unread

pub marks_at-append : (o : Origin) (part : Part) (us vs : List EntryPattern) (place : ℕ)
    → marks_at o part (us ++ vs) place ≡ marks_at o part us place ++ marks_at o part vs place
marks_at-append o part us vs place =
    ap (map mark) (filter-append (is_at o part place) us vs)
    ∙ map-append mark (filter (is_at o part place) us) (filter (is_at o part place) vs)

pub marks_at-placed : (o : Origin) (part : Part) (place : ℕ) (ps : List UnreadPattern)
    → marks_at o part (placed o part place ps) place ≡ ps
marks_at-placed o part place [] = refl
marks_at-placed o part place (p ∷ ps) =
    rw (at_itself o part place) (ap (λ (l : List UnreadPattern). p ∷ l) (marks_at-placed o part place ps))

-- none of these patterns is of an entry
pub marks_at-none : (o : Origin) (part : Part) (place : ℕ) (us : List EntryPattern)
    → AllByRecursion (λ u. is_at o part place u ≡ false) us → marks_at o part us place ≡ []
marks_at-none o part place [] all = refl
marks_at-none o part place (u ∷ us) all = rw all.0 (marks_at-none o part place us all.1)

abbrev one_placed : Origin → Part → ℕ → UnreadPattern → EntryPattern
one_placed o part place p = record {
  origin = o;
  part = part;
  place = place;
  unread = p;
}

all_elsewhere : (o : Origin) (part : Part) (place other : ℕ) (ps : List UnreadPattern) → (other ≡ place → ⊥)
    → AllByRecursion (λ u. is_at o part place u ≡ false) (placed o part other ps)
all_elsewhere o part place other [] apart = tt
all_elsewhere o part place other (p ∷ ps) apart =
    (other_place o part place (one_placed o part other p) apart, all_elsewhere o part place other ps apart)

pub marks_at-elsewhere : (o : Origin) (part : Part) (place other : ℕ) (ps : List UnreadPattern)
    → (other ≡ place → ⊥) → marks_at o part (placed o part other ps) place ≡ []
marks_at-elsewhere o part place other ps apart =
    marks_at-none o part place (placed o part other ps) (all_elsewhere o part place other ps apart)

-- ---- patterns of one file, and of one part of a file

abbrev pub AllFrom : Origin → List EntryPattern → Type 0
AllFrom o us = AllByRecursion (λ u. u.origin ≡ o) us

abbrev pub AllOf : Origin → Part → List EntryPattern → Type 0
AllOf o part us = AllByRecursion (λ u. (u.origin ≡ o) × (u.part ≡ part)) us

pub all-append : {X : Type 0} (P : X → Type 0) (xs ys : List X) → AllByRecursion P xs → AllByRecursion P ys
    → AllByRecursion P (xs ++ ys)
all-append P [] ys h k = k
all-append P (x ∷ xs) ys h k = (h.0, all-append P xs ys h.1 k)

pub all_of-append : (o : Origin) (part : Part) (us vs : List EntryPattern) → AllOf o part us → AllOf o part vs
    → AllOf o part (us ++ vs)
all_of-append o part = all-append (λ (u : EntryPattern). (u.origin ≡ o) × (u.part ≡ part))

pub all_from-append : (o : Origin) (us vs : List EntryPattern) → AllFrom o us → AllFrom o vs → AllFrom o (us ++ vs)
all_from-append o = all-append (λ (u : EntryPattern). u.origin ≡ o)

pub all_of-placed : (o : Origin) (part : Part) (place : ℕ) (ps : List UnreadPattern)
    → AllOf o part (placed o part place ps)
all_of-placed o part place [] = tt
all_of-placed o part place (p ∷ ps) = ((refl, refl), all_of-placed o part place ps)

pub from_of : (o : Origin) (part : Part) (us : List EntryPattern) → AllOf o part us → AllFrom o us
from_of o part [] all = tt
from_of o part (u ∷ us) all = (all.0.0, from_of o part us all.1)

-- a pattern of another file, or of another part, is not of the entry
not_from : (wanted o : Origin) (part : Part) (place : ℕ) (us : List EntryPattern)
    → same_origin wanted o ≡ false → AllFrom o us → AllByRecursion (λ u. is_at wanted part place u ≡ false) us
not_from wanted o part place [] apart all = tt
not_from wanted o part place (u ∷ us) apart all =
    let no : same_origin wanted u.origin ≡ false = ap (same_origin wanted) all.0 ∙ apart in (
      ap (λ b. b && (same_part part u.part && nat_eq u.place place)) no,
      not_from wanted o part place us apart all.1,
    )

pub marks_at-other_file : (wanted o : Origin) (part : Part) (place : ℕ) (us : List EntryPattern)
    → same_origin wanted o ≡ false → AllFrom o us → marks_at wanted part us place ≡ []
marks_at-other_file wanted o part place us apart all =
    marks_at-none wanted part place us (not_from wanted o part place us apart all)

not_of : (file o : Origin) (wanted part : Part) (place : ℕ) (us : List EntryPattern)
    → same_part wanted part ≡ false → AllOf o part us → AllByRecursion (λ u. is_at file wanted place u ≡ false) us
not_of file o wanted part place [] apart all = tt
not_of file o wanted part place (u ∷ us) apart all =
    let no : same_part wanted u.part ≡ false = ap (same_part wanted) all.0.1 ∙ apart in (
      ap (λ b. same_origin file u.origin && (b && nat_eq u.place place)) no ∙ and_false (same_origin file u.origin),
      not_of file o wanted part place us apart all.1,
    )

pub marks_at-other_part : (file o : Origin) (wanted part : Part) (place : ℕ) (us : List EntryPattern)
    → same_part wanted part ≡ false → AllOf o part us → marks_at file wanted us place ≡ []
marks_at-other_part file o wanted part place us apart all =
    marks_at-none file wanted place us (not_of file o wanted part place us apart all)

-- two extensions are two files
pub apart : (n k : ℕ) → (n ≡ k → ⊥) → same_origin (Extension n) (Extension k) ≡ false
apart n k other = ne_eqb n k other
