-- The commands of the palette.
use Rattle.std.specs.Prelude.{ℕ, List, [], ◌++◌, map, Option, codes}
use Rattle.std.specs.List.{flat_map}
use Rattle.std.specs.Option.{option_map_or}
use Rattle.kb_files.specs.declared.extension_file.Extension.{Extension}
use Rattle.kb_manifest.specs.CommandTable.{firsts_behind}
use Rattle.kb_manifest.specs.declared.command.Command.{Command}
use Rattle.kb_manifest.specs.declared.command_table.Named.{Named}
use Rattle.kb_palette.specs.Command.{CommandData}
use Rattle.kb_palette_commands.specs.Contributed.{commands_in}
use Rattle.kb_palette_commands.specs.Items.{clauses_of, items_in}
use Rattle.kb_when.specs.Marks.{MarkedClause}

-- the text of a command in the palette: its title, behind its category and a colon where it has one
abbrev pub label_of : Command → List ℕ
label_of c = option_map_or (λ category. category ++ (codes ": " ++ c.title)) c.category c.title

-- a command, with the clauses of the items that name it
abbrev pub with_clauses : (List ℕ → List (Option MarkedClause)) → Named → CommandData
with_clauses clauses c = record {
  command = c.name;
  label = label_of c.command;
  enablement = c.command.enablement;
  items = clauses c.name;
}

-- the commands of enabled extensions, in load order, the first of each identifier, with all items that name
-- it
abbrev pub palette_commands : List Extension → List CommandData
palette_commands extensions =
    map (with_clauses (clauses_of (flat_map items_in extensions)))
    (firsts_behind [] (flat_map commands_in extensions))
