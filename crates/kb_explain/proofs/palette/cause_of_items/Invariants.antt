use Rattle.std.proofs.Common.{◌≡◌, drop}
use Rattle.std.specs.Prelude.{option_map}
use Rattle.std.specs.List.{list_any}
use Rattle.kb_explain.specs.Cause.{cause_data, CauseData}
use Rattle.kb_context.specs.Scopes.{context}
use Rattle.kb_explain.specs.Palette.{led, IsCauseOfItems}
use Rattle.kb_when.specs.Marks.{when_holds}
use Rattle.kb_explain.proofs.palette.cause_of_items.Given as goal

-- the items so far fail, and a cause of those that are left stands behind theirs
abbrev pub invariant-loop-item : goal.invariant-loop-item
invariant-loop-item l = record {
  cause : (d : CauseData) → IsCauseOfItems (context l.fn.scopes.seen) (drop l.item-index l.fn.items) d
      → IsCauseOfItems (context l.fn.scopes.seen) l.fn.items (led (option_map cause_data l.first) d);
  holds : list_any (when_holds (context l.fn.scopes.seen)) (drop l.item-index l.fn.items)
      ≡ list_any (when_holds (context l.fn.scopes.seen)) l.fn.items;
}
