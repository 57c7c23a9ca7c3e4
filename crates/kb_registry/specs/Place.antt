-- The place of a ticket in a table.
use Rattle.std.specs.Prelude.{◌≡◌, ℕ, ◌<◌, List, Option, Some, MatchOption, length, slice_get}
use Rattle.kb_core.specs.declared.native.Native.{Native}

module _ {E : Type 0} (ticket : E → ℕ) (es : List (Native × E)) (t : ℕ) where
  -- no entry below a place has the ticket
  abbrev pub NoneBelow : ℕ → Type 0
  NoneBelow i = (k : ℕ) → k < i → (e : Native × E) → slice_get es k ≡ Some e → ticket e.1 ≡ t → ⊥

  -- the first place of the ticket
  abbrev pub IsPlace : Option ℕ → Type 0
  IsPlace r =
      MatchOption r (NoneBelow (length es))
      (λ i. (i < length es) × NoneBelow i × ((e : Native × E) → slice_get es i ≡ Some e → ticket e.1 ≡ t))
