use Rattle.std.proofs.Common.{◌≡◌, ◌+◌, ◌-◌, ◌<◌, false, length}
use Rattle.std.specs.Prelude.{slice_index}
use Rattle.kb_places.specs.Children.{is_separator, AreInTurn}
use Rattle.kb_places.proofs.children.items.Given as goal

-- the items so far stand in turn before the index, where the next one begins
abbrev pub invariant-loop-at : goal.invariant-loop-at
invariant-loop-at l = record {
  turn : AreInTurn l.text (l.list.begin + 1) l.found.items l.at;
  next : l.at < length l.text → is_separator 44 (slice_index l.text l.at) ≡ false;
}

abbrev pub decreases-loop-at : goal.decreases-loop-at
decreases-loop-at l = l.list.end - l.at
