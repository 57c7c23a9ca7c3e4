-- Lemmas on what is written.
use Rattle.std.proofs.Common.{◌≡◌, ◌≤◌, ◌+◌, ◌-◌, ◌++◌, ◌∙◌, ℕ, zero, suc, List, [], ◌∷◌}
use Rattle.std.proofs.Common.{drop, get_or, length, map, take}
use Rattle.std.proofs.Common.{add-one, ap, arith, subst, sym}
use Rattle.std.specs.Prelude.{Option, Some, slice_get}
use Rattle.std.specs.Io.KnownBytes.{Appends}
use Rattle.std.proofs.KnownBytes.{Appends-nil, Appends-trans}
use Rattle.std.proofs.lemmas.List.{map-append, take_all}
use Rattle.serde_json.specs.Data.{Data, string}
use Rattle.serde_json.specs.View.{view}
use Rattle.serde_json.specs.declared.value.Value.{Value}
use Rattle.kb_explain_report.specs.Said.{WritesEach, WritesMore}
use Rattle.kb_report.specs.Output.{WritesLine}

-- what is left of a list from a place on begins with the element there
left_from : {A : Type 0} (xs : List A) (i : ℕ) (x : A) → slice_get xs i ≡ Some x
    → drop i xs ≡ x ∷ drop (suc i) xs
left_from [] i x e = absurd (cc)
left_from (y ∷ ys) zero x e = cc
left_from (y ∷ ys) (suc i) x e = left_from ys i x e

-- the elements up to a place end with the one there
taken_to : {A : Type 0} (xs : List A) (i : ℕ) (x : A) → slice_get xs i ≡ Some x
    → take (suc i) xs ≡ take i xs ++ x ∷ []
taken_to [] i x e = absurd (cc)
taken_to (y ∷ ys) zero x e = cc
taken_to (y ∷ ys) (suc i) x e = ap (λ l. y ∷ l) (taken_to ys i x e)

-- what is left to be written, with one more line before it
pub wrote_at : {A : Type 0} (Is : A → List ℕ → Type 0) (xs : List A) (i : ℕ) (x : A) (a b c : Option (List ℕ))
    → slice_get xs i ≡ Some x → WritesLine (Is x) a b → WritesEach Is (drop (i + 1) xs) b c
    → WritesEach Is (drop i xs) a c
wrote_at Is xs i x a b c e one rest = rw (left_from xs i x e) (b, one, rw add-one at rest)

-- the first one and then the others, as a slice pattern has them
pub wrote_front : {A : Type 0} (Is : A → List ℕ → Type 0) (xs : List A) (x : A) (a b c : Option (List ℕ))
    → x ≡ get_or xs 0 x → 1 ≤ length xs → WritesLine (Is x) a b
    → WritesEach Is (take (length xs - 1) (drop 1 xs)) b c → WritesEach Is xs a c
wrote_front Is [] x a b c is some one rest = absurd (omega (arith, some))
wrote_front {A} Is (y ∷ ys) x a b c is some one rest =
    let all : take (length (y ∷ ys) - 1) ys ≡ ys = take_all (length (y ∷ ys) - 1) ys (omega arith) in (
      b,
      subst (λ (z : A). WritesLine (Is z) a b) is one,
      subst (λ (l : List A). WritesEach Is l b c) all rest,
    )

pub wrote_mapped : {A B : Type 0} (f : A → B) (Is : B → List ℕ → Type 0) (xs : List A) (a b : Option (List ℕ))
    → WritesEach (λ x. Is (f x)) xs a b → WritesEach Is (map f xs) a b
wrote_mapped f Is [] a b wrote = wrote
wrote_mapped f Is (x ∷ xs) a b wrote = (wrote.0, wrote.1, wrote_mapped f Is xs wrote.0 b wrote.2)

-- values of the texts up to a place, with one more
pub strings_at : (made new : List Value) (xs : List (List ℕ)) (i : ℕ) (x : List ℕ) (v : Value)
    → map view made ≡ map string (take i xs) → slice_get xs i ≡ Some x → view v ≡ string x
    → new ≡ made ++ v ∷ [] → map view new ≡ map string (take (i + 1) xs)
strings_at made new xs i x v before e is pushed =
    ap (map view) pushed ∙ map-append view made (v ∷ [])
    ∙ ap (λ (l : List Data). l ++ view v ∷ []) before
    ∙ ap (λ (d : Data). map string (take i xs) ++ d ∷ []) is
    ∙ sym (map-append string (take i xs) (x ∷ []))
    ∙ ap (map string) (sym (rw add-one (taken_to xs i x e)))

pub none_more : (a : Option (List ℕ)) → WritesMore a a
none_more a = record { more = []; got = Appends-nil a }

pub text_more : (a b : Option (List ℕ)) (text : List ℕ) → Appends a b text → WritesMore a b
text_more a b text got = record { more = text; got = got }

pub line_more : (Is : List ℕ → Type 0) (a b : Option (List ℕ)) → WritesLine Is a b → WritesMore a b
line_more Is a b line = record { more = line.line ++ 10 ∷ []; got = line.got }

pub more_after : (a b c : Option (List ℕ)) → WritesMore a b → WritesMore b c → WritesMore a c
more_after a b c first second = record {
  more = first.more ++ second.more;
  got = Appends-trans a b c first.more second.more first.got second.got;
}

pub ruleset more = (none_more, text_more, line_more, more_after)
