-- The strings of a file that are exchanged.
use Rattle.std.specs.Prelude.{ℕ, List, [], ◌∷◌, Option, Some, None}
use Rattle.kb_exchange.specs.declared.exchanging.Exchange.{Exchange}
use Rattle.kb_places.specs.declared.span.Span.{Span}
use Rattle.kb_places.specs.Place.{part_of}
use Rattle.kb_exchange.specs.Values.{values_of}

-- an exchange of a part before the others, if there is something for it
abbrev pub exchange_if : Span → Option (List ℕ) → List Exchange → List Exchange
exchange_if part None es = es
exchange_if part (Some new) es = record { old = part; text = new } ∷ es

-- the exchanges of those parts for which there is something
abbrev pub exchanges_of : (List ℕ → Option (List ℕ)) → List ℕ → List Span → List Exchange
exchanges_of renewed text [] = []
exchanges_of renewed text (part ∷ parts) =
    exchange_if part (renewed (part_of text part)) (exchanges_of renewed text parts)

-- the strings of members with these names that are exchanged, and for what
abbrev pub renewals : (List ℕ → Option (List ℕ)) → List (List ℕ) → List ℕ → List Exchange
renewals renewed names file = exchanges_of renewed file (values_of names file)
