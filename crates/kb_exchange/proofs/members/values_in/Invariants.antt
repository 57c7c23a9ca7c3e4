use Rattle.std.proofs.Common.{◌≡◌, ◌-◌, ◌≤◌, ◌++◌, length}
use Rattle.std.specs.Prelude.{map}
use Rattle.kb_exchange.specs.Span.{AreInOrder}
use Rattle.kb_exchange.specs.Tokens.{tokens_from}
use Rattle.kb_exchange.specs.Values.{is_named, values_behind, values_in}
use Rattle.kb_exchange.proofs.members.values_in.Given as goal

-- the values so far, which are in order, and those behind the index are all
abbrev pub invariant-loop-at : goal.invariant-loop-at
invariant-loop-at l = record {
  values : l.found.items
      ++ values_behind (is_named l.text (map (λ n. n.now) l.names)) l.before (tokens_from l.at l.text)
      ≡ values_in (map (λ n. n.now) l.names) l.text;
  order : AreInOrder 0 l.at l.found.items;
  within : l.at ≤ length l.text;
}

abbrev pub decreases-loop-at : goal.decreases-loop-at
decreases-loop-at l = length l.text - l.at
