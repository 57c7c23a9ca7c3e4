-- Lists that are made one item after the other.
use Rattle.std.proofs.Common.{◌≡◌, ◌<◌, ◌+◌, ℕ, List, [], ◌∷◌, ◌++◌, ◌∙◌, map, drop, length, ap, sym, arith}
use Rattle.std.proofs.Common.{Some, None}
use Rattle.std.proofs.lemmas.List.{append_assoc, drop_more}
use Rattle.std.proofs.lemmas.Option.{get_or_from_slice_get, slice_get_within, slice_get-get_or}
use Rattle.std.specs.List.{slice_get, flat_map}

-- one more, and then those that are left
pub one_more : {X Y : Type 0} (f : X → Y) (now before whole : List Y) (x : X) (xs rest : List X) → xs ≡ x ∷ rest
    → now ≡ before ++ f x ∷ [] → before ++ map f xs ≡ whole → now ++ map f rest ≡ whole
one_more {X} f now before whole x xs rest is made so_far =
    ap (λ ys. ys ++ map f rest) made
    ∙ append_assoc before (f x ∷ []) (map f rest)
    ∙ ap (λ (ys : List X). before ++ map f ys) (sym is)
    ∙ so_far

-- those of one more, and then those of the ones that are left
pub one_more_list : {X Y : Type 0} (f : X → List Y) (now before whole : List Y) (x : X) (xs rest : List X)
    → xs ≡ x ∷ rest → now ≡ before ++ f x → before ++ flat_map f xs ≡ whole → now ++ flat_map f rest ≡ whole
one_more_list {X} f now before whole x xs rest is made so_far =
    ap (λ ys. ys ++ flat_map f rest) made
    ∙ append_assoc before (f x) (flat_map f rest)
    ∙ ap (λ (ys : List X). before ++ flat_map f ys) (sym is)
    ∙ so_far

-- what is left from an item on begins with it
pub left_from : {X : Type 0} (xs : List X) (n : ℕ) (x : X) → slice_get xs n ≡ Some x
    → drop n xs ≡ x ∷ drop (n + 1) xs
left_from {X} xs n x at =
    drop_more xs n x (slice_get_within xs n x at)
    ∙ ap (λ (y : X). y ∷ drop (n + 1) xs) (get_or_from_slice_get xs n x x at)

-- there is an item at each place before the end
pub none_left : {X : Type 0} (xs : List X) (n : ℕ) → n < length xs → slice_get xs n ≡ None → ⊥
none_left [] n below at = omega (arith, below)
none_left (x ∷ xs) n below at =
    let there = slice_get-get_or (x ∷ xs) n x below in
    let both = sym there ∙ at in
    cc
