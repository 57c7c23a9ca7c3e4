-- A text with some of its parts exchanged.
use Rattle.std.specs.Prelude.{ℕ, List, [], ◌∷◌, ◌++◌, length}
use Rattle.kb_exchange.specs.declared.exchanging.Exchange.{Exchange}
use Rattle.kb_exchange.specs.Span.{span}
use Rattle.kb_places.specs.Place.{part_of}

-- the text from an index on: what stands between the parts is kept
abbrev pub exchanged_from : List ℕ → ℕ → List Exchange → List ℕ
exchanged_from text at [] = part_of text (span at (length text))
exchanged_from text at (e ∷ es) =
    part_of text (span at e.old.begin) ++ (e.text ++ exchanged_from text e.old.end es)

abbrev pub exchanged : List ℕ → List Exchange → List ℕ
exchanged text es = exchanged_from text 0 es
