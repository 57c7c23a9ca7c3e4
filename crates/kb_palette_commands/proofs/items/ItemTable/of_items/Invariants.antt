use Rattle.std.proofs.Common.{◌≡◌, ℕ, List, [], map, take}
use Rattle.std.specs.Option.{option_map_or}
use Rattle.std.specs.HashMap.{get_by_text}
use Rattle.kb_palette_commands.specs.Items.{clauses_of}
use Rattle.kb_palette_commands.proofs.items.ItemTable.of_items.Given as goal

-- under each command stand the clauses so far of the items that name it
abbrev pub invariant-loop-item : goal.invariant-loop-item
invariant-loop-item l =
    (command : List ℕ)
    → option_map_or (λ clauses. clauses.items) (get_by_text l.table command) []
    ≡ clauses_of (map (λ item. item.now) (take l.item-index l.items)) command
