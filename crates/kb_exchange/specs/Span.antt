-- Parts of a text, in order.
use Rattle.std.specs.Prelude.{◌≤◌, ℕ, List, [], ◌∷◌}
use Rattle.kb_places.specs.declared.span.Span.{Span}

-- the part from an index up to another
abbrev pub span : ℕ → ℕ → Span
span begin end = record { begin = begin; end = end }

-- parts in order, from an index on and up to an end
abbrev pub AreInOrder : ℕ → ℕ → List Span → Type 0
AreInOrder from to [] = from ≤ to
AreInOrder from to (part ∷ parts) =
    (from ≤ part.begin) × (part.begin ≤ part.end) × AreInOrder part.end to parts
