-- Which member of an entry has its clause.
use Rattle.std.specs.Prelude.{ℕ, List, codes}
use Rattle.kb_base.specs.declared.note.Part.{Part}
use Rattle.kb_base.specs.declared.note.Part.TheVariants.{Commands, Keybindings, Palette}

abbrev pub clause_member : Part → List ℕ
clause_member Commands = codes "enablement"
clause_member Keybindings = codes "when"
clause_member Palette = codes "when"
