-- The names of the parts of a file in messages, and the line of a warning.
use Rattle.std.specs.Prelude.{ℕ, List, ◌++◌, codes, decimal}
use Rattle.kb_base.specs.Fault.{fault_number}
use Rattle.kb_base.specs.declared.note.Part.{Part}
use Rattle.kb_base.specs.declared.note.Part.TheVariants.{Commands, Keybindings, Palette}
use Rattle.kb_base.specs.declared.note.Warning.{Warning}

abbrev pub part_name : Part → List ℕ
part_name Commands = codes "commands"
part_name Keybindings = codes "keybindings"
part_name Palette = codes "palette"

-- the line of a warning: its number, its source, the part of the file that its entry is in, and the entry's
-- place
abbrev pub warning_line : List ℕ → Warning → List ℕ
warning_line source warning =
    codes "warning " ++ (decimal (fault_number warning.kind) ++ (codes " " ++ (source ++ (codes " "
    ++ (part_name warning.part ++ (codes " " ++ decimal warning.place))))))
