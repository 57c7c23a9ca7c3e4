use Rattle.std.proofs.Common.{◌≡◌, ◌++◌, drop, map}
use Rattle.std.specs.List.{flat_map}
use Rattle.kb_palette_commands.specs.Items.{items_in}
use Rattle.kb_palette_commands.proofs.items.all_items.Given as goal

-- those so far, and then those of the extensions that are left
abbrev pub invariant-loop-extension : goal.invariant-loop-extension
invariant-loop-extension l =
    map (λ item. item.now) l.made.items ++ flat_map items_in (drop l.extension-index l.extensions)
    ≡ flat_map items_in l.fn.extensions
