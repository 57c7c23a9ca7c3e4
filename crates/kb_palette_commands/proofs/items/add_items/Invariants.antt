use Rattle.std.proofs.Common.{◌≡◌, ◌++◌, map, drop}
use Rattle.kb_palette_commands.proofs.items.add_items.Given as goal

-- those so far, and then those that are left
abbrev pub invariant-loop-item : goal.invariant-loop-item
invariant-loop-item l =
    map (λ item. item.now) l.made.items ++ map (λ item. item) (drop l.item-index l.items)
    ≡ map (λ item. item.now) l.fn.made.items ++ l.fn.items
