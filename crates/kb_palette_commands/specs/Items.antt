-- The items of the palette's menu, by the command that they name.
use Rattle.std.specs.Prelude.{◌≡◌, ℕ, List, [], map, filter, Option, bytes_eq, if◌then◌else◌}
use Rattle.std.specs.Option.{option_map_or}
use Rattle.std.specs.HashMap.{get_by_text}
use Rattle.kb_files.specs.declared.extension_file.Extension.{Extension}
use Rattle.kb_manifest.specs.declared.palette_item.PaletteItem.{PaletteItem}
use Rattle.kb_palette_commands.specs.declared.items.ItemTable.{ItemTable}
use Rattle.kb_when.specs.Marks.{MarkedClause}

-- the items of an extension, if it is enabled
abbrev pub items_in : Extension → List PaletteItem
items_in e = if e.enabled then e.manifest.palette else []

-- the clauses of the items that name a command
abbrev pub clauses_of : List PaletteItem → List ℕ → List (Option MarkedClause)
clauses_of items command = map (λ i. i.when) (filter (λ i. bytes_eq command i.command) items)

-- the clauses that a table has for a command
abbrev pub clauses_in : ItemTable → List ℕ → List (Option MarkedClause)
clauses_in table command = option_map_or (λ clauses. clauses.items) (get_by_text table.table command) []

-- the table has these items
abbrev pub HasItems : ItemTable → List PaletteItem → Type 0
HasItems table items = (command : List ℕ) → clauses_in table command ≡ clauses_of items command
