-- A text of which nothing is exchanged.
use Rattle.std.proofs.Common.{◌≡◌, ◌∙◌, ◌-◌, ℕ, List, [], length, ap, arith}
use Rattle.std.proofs.lemmas.Bool.{le-leb}
use Rattle.std.proofs.lemmas.List.{take_all}
use Rattle.kb_exchange.specs.declared.exchanging.Exchange.{Exchange}
use Rattle.kb_exchange.specs.Exchange.{exchanged}
use Rattle.kb_exchange.specs.Span.{span}
use Rattle.kb_places.specs.Place.{part_of}

pub whole_part : (text : List ℕ) → part_of text (span 0 (length text)) ≡ text
unfolding part_of
whole_part text =
    rw (le-leb 0 (length text) (omega arith), le-leb (length text) (length text) (omega arith))
    (take_all (length text - 0) text (omega arith))

pub none_exchanged : (text : List ℕ) (es : List Exchange) → es ≡ [] → exchanged text es ≡ text
none_exchanged text es e = ap (exchanged text) e ∙ whole_part text
