-- The end of a list, which is the front of its reverse.
use Rattle.std.proofs.Common.{◌≡◌, ◌≤◌, ℕ, ◌-◌, List, ◌++◌, length, take, drop, map, sym, ap, ◌∙◌, arith}
use Rattle.std.proofs.Common.{length-drop}
use Rattle.std.specs.Prelude.{reverse}
use Rattle.std.proofs.lemmas.List.{take-append-drop, reverse-append, reverse-reverse, length-reverse}
use Rattle.std.proofs.lemmas.List.{length-map, drop-map, take-map, take_all}
use Rattle.std.proofs.Math.Seq.{take-append_seam, drop-append_seam}

split : {X : Type 0} (xs : List X) (at : ℕ) → reverse xs ≡ reverse (drop at xs) ++ reverse (take at xs)
split xs at = ap reverse (sym (take-append-drop at xs)) ∙ reverse-append (take at xs) (drop at xs)

size : {X : Type 0} (xs : List X) (n at : ℕ) → n ≤ length xs → at ≡ length xs - n → n ≡ length (reverse (drop at xs))
size xs n at le e =
    let a : n ≡ length (drop at xs) = omega (arith, length-drop at xs) in
    a ∙ sym (length-reverse (drop at xs))

pub taken : {X : Type 0} (xs : List X) (n at : ℕ) → n ≤ length xs → at ≡ length xs - n
    → drop at xs ≡ reverse (take n (reverse xs))
taken xs n at le e =
    sym (ap (λ ys. reverse (take n ys)) (split xs at)
    ∙ ap (λ m. reverse (take m (reverse (drop at xs) ++ reverse (take at xs)))) (size xs n at le e)
    ∙ ap reverse (take-append_seam (reverse (drop at xs)) (reverse (take at xs)))
    ∙ reverse-reverse (drop at xs))

pub kept : {X : Type 0} (xs : List X) (n at : ℕ) → n ≤ length xs → at ≡ length xs - n
    → reverse (take at xs) ≡ drop n (reverse xs)
kept xs n at le e =
    sym (ap (drop n) (split xs at)
    ∙ ap (λ m. drop m (reverse (drop at xs) ++ reverse (take at xs))) (size xs n at le e)
    ∙ drop-append_seam (reverse (drop at xs)) (reverse (take at xs)))

-- the same for a list that is mapped
module _ {X Y : Type 0} (f : X → Y) (xs : List X) (ys : List Y) (n at : ℕ) where
  same_length : reverse (map f xs) ≡ ys → length (map f xs) ≡ length ys
  same_length e = sym (length-reverse (map f xs)) ∙ ap length e

  pub taken_seen : reverse (map f xs) ≡ ys → n ≤ length ys → at ≡ length xs - n
      → map f (drop at xs) ≡ reverse (take n ys)
  taken_seen e le is =
      sym (drop-map f at xs)
      ∙ taken (map f xs) n at (omega (arith, same_length e)) (is ∙ ap (λ m. m - n) (sym (length-map xs f)))
      ∙ ap (λ zs. reverse (take n zs)) e

  pub topmost_seen : reverse (map f xs) ≡ ys → n ≤ length ys → at ≡ length xs - n
      → map f (take (length xs - at) (drop at xs)) ≡ reverse (take n ys)
  topmost_seen e le is =
      let all : length (drop at xs) ≤ length xs - at = omega (arith, length-drop at xs) in
      ap (map f) (take_all (length xs - at) (drop at xs) all) ∙ taken_seen e le is

  pub kept_seen : reverse (map f xs) ≡ ys → n ≤ length ys → at ≡ length xs - n
      → reverse (map f (take at xs)) ≡ drop n ys
  kept_seen e le is =
      ap reverse (sym (take-map f at xs))
      ∙ kept (map f xs) n at (omega (arith, same_length e)) (is ∙ ap (λ m. m - n) (sym (length-map xs f)))
      ∙ ap (drop n) e
