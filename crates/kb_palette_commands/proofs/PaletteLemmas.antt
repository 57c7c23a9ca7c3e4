-- The palette's commands by a table of items.
use Rattle.std.proofs.Common.{◌≡◌, ◌∙◌, List, [], ◌∷◌, map, ap, refl, sym}
use Rattle.std.proofs.lemmas.Simd.{map-map}
use Rattle.std.specs.List.{flat_map}
use Rattle.kb_files.specs.declared.extension_file.Extension.{Extension}
use Rattle.kb_manifest.specs.CommandTable.{firsts_behind}
use Rattle.kb_manifest.specs.declared.command_table.Named.{Named}
use Rattle.kb_palette.specs.Command.{CommandData}
use Rattle.kb_palette_commands.specs.Contributed.{commands_in, named_of}
use Rattle.kb_palette_commands.specs.Items.{clauses_in, clauses_of, HasItems, items_in}
use Rattle.kb_palette_commands.specs.Palette.{palette_commands, with_clauses}
use Rattle.kb_palette_commands.specs.declared.contributed.Contributed.{Contributed}
use Rattle.kb_palette_commands.specs.declared.items.ItemTable.{ItemTable}

same_clauses : (table : ItemTable) (extensions : List Extension)
    → HasItems table (flat_map items_in extensions) → (cs : List Named)
    → map (with_clauses (clauses_in table)) cs
    ≡ map (with_clauses (clauses_of (flat_map items_in extensions))) cs
same_clauses table extensions has [] = refl
same_clauses table extensions has (c ∷ cs) =
    λ i. record {
      command = c.name;
      label = (with_clauses (clauses_in table) c).label;
      enablement = c.command.enablement;
      items = has c.name i;
    } ∷ same_clauses table extensions has cs i

-- the first commands with the items of a table
pub with_table : (table : ItemTable) (extensions : List Extension) (all : List Named) (firsts : List Contributed)
    (made : List CommandData) → HasItems table (flat_map items_in extensions)
    → all ≡ flat_map commands_in extensions → map named_of firsts ≡ firsts_behind [] all
    → made ≡ map (λ c. with_clauses (clauses_in table) (named_of c)) firsts
    → made ≡ palette_commands extensions
with_table table extensions all firsts made has are first is =
    is ∙ sym (map-map (with_clauses (clauses_in table)) named_of firsts)
    ∙ ap (map (with_clauses (clauses_in table))) (first ∙ ap (firsts_behind []) are)
    ∙ same_clauses table extensions has (firsts_behind [] (flat_map commands_in extensions))
