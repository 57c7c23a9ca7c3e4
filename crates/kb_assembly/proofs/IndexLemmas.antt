-- The index of names has the place of the first of each.
use Rattle.std.proofs.Common.{◌≡◌, refl, sym, ap, ◌∙◌, ℕ, zero, suc, ◌+◌, ◌-◌, ◌<◌, ◌≤◌, List, [], ◌∷◌, ◌++◌, length, drop, map}
use Rattle.std.proofs.Common.{get_or, Bool, true, false, cond, Option, Some, None, option_map, option_and_then, arith}
use Rattle.std.specs.Prelude.{bytes_eq, slice_get, find}
use Rattle.std.specs.Option.{option_or}
use Rattle.std.proofs.lemmas.List.{drop_more, drop_all, append_assoc}
use Rattle.std.proofs.lemmas.Slice.Eq.{bytes_eq-Decides}
use Rattle.kb_base.specs.TextMap.{filled}
use Rattle.kb_assembly.specs.declared.index.Index.{Index}
use Rattle.kb_assembly.specs.declared.table.Label.{Label}
use Rattle.kb_assembly.specs.Index.{number_in, IsIndex}
use Rattle.kb_assembly.specs.Names.{label_named}
use Rattle.kb_assembly.specs.Places.{place_in}

-- what an index has, or else what is left gives
abbrev pub Indexed : Index → List (List ℕ) → ℕ → Type 0
Indexed index names at = (name : List ℕ) →
    option_or (number_in index name) (place_in at (drop at names) name) ≡ place_in 0 names name

one_filled : (a : Option ℕ) (b : Bool) (n : ℕ) (rest : Option ℕ) →
    option_or (filled a b n) rest ≡ option_or a (cond b (Some n) rest)
one_filled (Some x) b n rest = refl
one_filled None true n rest = refl
one_filled None false n rest = refl

or_none : (a : Option ℕ) → option_or a None ≡ a
or_none None = refl
or_none (Some x) = refl

pub none_indexed : (names : List (List ℕ)) (index : Index) → ((name : List ℕ) → number_in index name ≡ None) →
    Indexed index names 0
none_indexed names index none = λ name. ap (λ o. option_or o (place_in 0 names name)) (none name)

pub one_indexed : {X : Type 0} (named : X → List ℕ) (items : List X) (old new : Index) (at : ℕ) (item : X) (text : List ℕ) →
    at < length items → item ≡ get_or items at item → text ≡ named item →
    ((other : List ℕ) → number_in new other ≡ filled (number_in old other) (bytes_eq text other) at) →
    Indexed old (map named items) at → Indexed new (map named items) (at + 1)
one_indexed named items old new at item text less is same each indexed = λ name.
    ap (λ o. option_or o (place_in (at + 1) (drop (at + 1) (map named items)) name)) (each name)
    ∙ one_filled (number_in old name) (bytes_eq text name) at (place_in (at + 1) (drop (at + 1) (map named items)) name)
    ∙ ap (λ xs. option_or (number_in old name) (place_in at xs name)) (sym (step named items at item text less is same
    ∙ ap (λ k. text ∷ drop k (map named items)) (let e : suc at ≡ at + 1 = omega arith in e)))
    ∙ indexed name
  where
    step : {X : Type 0} (named : X → List ℕ) (items : List X) (at : ℕ) (item : X) (text : List ℕ) → at < length items →
        item ≡ get_or items at item → text ≡ named item → drop at (map named items) ≡ text ∷ drop (suc at) (map named items)
    step named [] at item text less is same = absurd (omega (arith, less))
    step named (x ∷ items) zero item text less is same = ap (λ t. t ∷ map named items) (ap named (sym is) ∙ sym same)
    step named (x ∷ items) (suc at) item text less is same = step named items at item text (omega (arith, less)) is same

pub all_indexed : (names : List (List ℕ)) (index : Index) (at : ℕ) → length names ≤ at → Indexed index names at →
    IsIndex index names
all_indexed names index at past indexed = λ name.
    sym (ap (λ xs. option_or (number_in index name) (place_in at xs name)) (drop_all at names past)
    ∙ or_none (number_in index name))
    ∙ indexed name

-- ---- one name

pub found_one : (index : Index) (name : List ℕ) (place k : ℕ) → number_in index name ≡ Some k → (other : List ℕ) →
    number_in index other ≡ filled (number_in index other) (bytes_eq name other) place
found_one index name place k there other = by (bytes_eq name other) refl (number_in index other) refl where
  by : (b : Bool) → bytes_eq name other ≡ b → (o : Option ℕ) → number_in index other ≡ o → o ≡ filled o b place
  by b same (Some x) is = refl
  by false same None is = refl
  by true same None is =
      let e : name ≡ other = (bytes_eq-Decides name other).0 same in
      let f : Some k ≡ None = sym there ∙ ap (number_in index) e ∙ is in absurd (cc)

pub added_one : (old new : Index) (name : List ℕ) (place : ℕ) → number_in old name ≡ None →
    ((other : List ℕ) → number_in new other ≡ cond (bytes_eq name other) (Some place) (number_in old other)) → (other : List ℕ) →
    number_in new other ≡ filled (number_in old other) (bytes_eq name other) place
added_one old new name place none each other = each other ∙ by (bytes_eq name other) refl (number_in old other) refl where
  by : (b : Bool) → bytes_eq name other ≡ b → (o : Option ℕ) → number_in old other ≡ o →
      cond b (Some place) o ≡ filled o b place
  by true same None is = refl
  by false same None is = refl
  by false same (Some x) is = refl
  by true same (Some x) is =
      let e : name ≡ other = (bytes_eq-Decides name other).0 same in
      let f : None ≡ Some x = sym none ∙ ap (number_in old) e ∙ is in absurd (cc)

pub same_names : (texts : List (List ℕ)) → map (λ text. text) texts ≡ texts
same_names [] = refl
same_names (text ∷ texts) = ap (λ ts. text ∷ ts) (same_names texts)

-- ---- one more at the end

place_behind : (n : ℕ) (names : List (List ℕ)) (text name : List ℕ) →
    place_in n (names ++ text ∷ []) name ≡ filled (place_in n names name) (bytes_eq text name) (n + length names)
place_behind n [] text name =
    ap (λ k. cond (bytes_eq text name) (Some k) None) (let e : n ≡ n + 0 = omega arith in e)
place_behind n (x ∷ names) text name = by (bytes_eq x name) (place_behind (n + 1) names text name) where
  by : (b : Bool) →
      place_in (n + 1) (names ++ text ∷ []) name ≡ filled (place_in (n + 1) names name) (bytes_eq text name) (n + 1 + length names) →
      cond b (Some n) (place_in (n + 1) (names ++ text ∷ []) name)
      ≡ filled (cond b (Some n) (place_in (n + 1) names name)) (bytes_eq text name) (n + suc (length names))
  by true rest = refl
  by false rest = rest ∙ ap (filled (place_in (n + 1) names name) (bytes_eq text name))
      (let e : n + 1 + length names ≡ n + suc (length names) = omega arith in e)

pub one_behind : (names : List (List ℕ)) (text : List ℕ) (old new : Index) → IsIndex old names →
    ((other : List ℕ) → number_in new other ≡ filled (number_in old other) (bytes_eq text other) (length names)) →
    IsIndex new (names ++ text ∷ [])
one_behind names text old new is each = λ name.
    each name ∙ ap (λ o. filled o (bytes_eq text name) (length names)) (is name) ∙ sym (place_behind 0 names text name
    ∙ ap (filled (place_in 0 names name) (bytes_eq text name)) (let e : 0 + length names ≡ length names = omega arith in e))

-- ---- labels

label_behind : (before labels : List Label) (name : List ℕ) →
    option_and_then (slice_get (before ++ labels)) (place_in (length before) (map (λ label. label.name) labels) name)
    ≡ label_named labels name
label_behind before [] name = refl
label_behind before (x ∷ labels) name = by (bytes_eq x.name name) (label_behind (before ++ x ∷ []) labels name) where
  here : (before : List Label) → slice_get (before ++ x ∷ labels) (length before) ≡ Some x
  here [] = refl
  here (b ∷ before) = here before

  size : (before : List Label) → length (before ++ x ∷ []) ≡ length before + 1
  size [] = refl
  size (b ∷ before) = let e = size before in omega (arith, e)

  by : (b : Bool) →
      option_and_then (slice_get ((before ++ x ∷ []) ++ labels))
      (place_in (length (before ++ x ∷ [])) (map (λ label. label.name) labels) name) ≡ label_named labels name →
      option_and_then (slice_get (before ++ x ∷ labels))
      (cond b (Some (length before)) (place_in (length before + 1) (map (λ label. label.name) labels) name))
      ≡ cond b (Some x) (label_named labels name)
  by true rest = here before
  by false rest =
      ap (λ n. option_and_then (slice_get (before ++ x ∷ labels)) (place_in n (map (λ label. label.name) labels) name))
      (sym (size before))
      ∙ ap (λ xs. option_and_then (slice_get xs) (place_in (length (before ++ x ∷ [])) (map (λ label. label.name) labels) name))
      (sym (append_assoc before (x ∷ []) labels))
      ∙ rest

pub found_label : (labels : List Label) (index : Index) (name : List ℕ) →
    IsIndex index (map (λ label. label.name) labels) →
    option_and_then (slice_get labels) (number_in index name) ≡ label_named labels name
found_label labels index name is = ap (option_and_then (slice_get labels)) (is name) ∙ label_behind [] labels name
