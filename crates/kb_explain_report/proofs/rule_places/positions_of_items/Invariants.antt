use Rattle.std.proofs.Common.{◌≡◌, length}
use Rattle.kb_explain_report.specs.RulePlaces.{ArePlacedFrom}
use Rattle.kb_explain_report.proofs.rule_places.positions_of_items.Given as goal

abbrev pub invariant-loop-place : goal.invariant-loop-place
invariant-loop-place l = record {
  placed : ArePlacedFrom l.source l.home 0 l.positions.items;
  count : length l.positions.items ≡ l.place;
  text : l.walker.text.now ≡ l.source.bytes.now;
}
