-- Of parts in order, those that are exchanged are in order.
use Rattle.std.proofs.Common.{◌≡◌, ◌≤◌, ℕ, List, [], ◌∷◌, Option, Some, None, arith, length, map, subst, sym}
use Rattle.kb_exchange.specs.declared.exchanging.Exchange.{Exchange}
use Rattle.kb_places.specs.declared.span.Span.{Span}
use Rattle.kb_exchange.specs.Renewal.{exchange_if, exchanges_of}
use Rattle.kb_exchange.specs.Span.{AreInOrder}
use Rattle.kb_places.specs.Place.{part_of}

-- parts that begin later begin from an earlier index on too
earlier : (before from to : ℕ) (es : List Exchange) → before ≤ from → AreInOrder from to (map (λ e. e.old) es)
    → AreInOrder before to (map (λ e. e.old) es)
earlier before from to [] l o = omega (arith, l, o)
earlier before from to (e ∷ es) l o = (omega (arith, l, o.0), o.1, o.2)

one_if : (from to : ℕ) (part : Span) (new : Option (List ℕ)) (es : List Exchange) → from ≤ part.begin
    → part.begin ≤ part.end → AreInOrder part.end to (map (λ e. e.old) es)
    → AreInOrder from to (map (λ e. e.old) (exchange_if part new es))
one_if from to part None es l m o = earlier from part.end to es (omega (arith, l, m)) o
one_if from to part (Some new) es l m o = (l, m, o)

in_order : (renewed : List ℕ → Option (List ℕ)) (text : List ℕ) (from to : ℕ) (parts : List Span)
    → AreInOrder from to parts → AreInOrder from to (map (λ e. e.old) (exchanges_of renewed text parts))
in_order renewed text from to [] o = o
in_order renewed text from to (part ∷ parts) o =
    one_if from to part (renewed (part_of text part)) (exchanges_of renewed text parts) o.0 o.1
    (in_order renewed text part.end to parts o.2)

pub renewed_in_order : (renewed : List ℕ → Option (List ℕ)) (text : List ℕ) (parts : List Span) (es : List Exchange)
    → es ≡ exchanges_of renewed text parts → AreInOrder 0 (length text) parts
    → AreInOrder 0 (length text) (map (λ e. e.old) es)
renewed_in_order renewed text parts es e o =
    subst (λ (made : List Exchange). AreInOrder 0 (length text) (map (λ e. e.old) made)) (sym e)
    (in_order renewed text 0 (length text) parts o)
