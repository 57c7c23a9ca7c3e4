-- The commands that extensions contribute.
use Rattle.std.specs.Prelude.{List, [], if◌then◌else◌}
use Rattle.kb_files.specs.declared.extension_file.Extension.{Extension}
use Rattle.kb_manifest.specs.declared.command_table.Named.{Named}
use Rattle.kb_palette_commands.specs.declared.contributed.Contributed.{Contributed}

-- the commands of an extension, if it is enabled
abbrev pub commands_in : Extension → List Named
commands_in e = if e.enabled then e.manifest.commands else []

-- a command that is lent
abbrev pub named_of : Contributed → Named
named_of c = record { name = c.name.now; command = c.command.now }
