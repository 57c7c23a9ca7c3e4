use Rattle.std.proofs.Common.{◌≡◌, drop}
use Rattle.std.specs.List.{list_any}
use Rattle.kb_context.specs.Scopes.{context}
use Rattle.kb_when.specs.Marks.{when_holds}
use Rattle.kb_palette.proofs.command.one_holds.Given as goal

-- the items that are left say what all say
abbrev pub invariant-loop-item : goal.invariant-loop-item
invariant-loop-item l =
    list_any (when_holds (context l.scopes.seen)) (drop l.item-index l.items)
    ≡ list_any (when_holds (context l.scopes.seen)) l.items
