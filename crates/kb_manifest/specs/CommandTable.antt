-- Contributed commands by their identifiers, each of which counts once.
use Rattle.std.specs.Prelude.{ℕ, List, [], ◌∷◌, ◌++◌, map, Bool, Option, if◌then◌else◌, bytes_eq}
use Rattle.std.specs.Prelude.{option_map, String, string_bytes}
use Rattle.std.specs.declared.alloc.Global.{Global}
use Rattle.std.specs.List.{list_any, find}
use Rattle.kb_manifest.specs.declared.command.Command.{Command}
use Rattle.kb_manifest.specs.declared.command_table.Named.{Named}

-- the entries of a table, by the bytes of their identifiers
abbrev pub by_name : List (String Global × Command) → List Named
by_name es = map (λ e. record { name = string_bytes e.0; command = e.1 }) es

-- a command has the identifier
abbrev pub is_there : List ℕ → List Named → Bool
is_there name commands = list_any (λ e. bytes_eq name e.name) commands

-- the command of an identifier
abbrev pub command_named : List ℕ → List Named → Option Command
command_named name commands = option_map (λ e. e.command) (find (λ e. bytes_eq name e.name) commands)

-- the same with one more at the end, unless its identifier is there
abbrev pub with_first : Named → List Named → List Named
with_first e commands = if is_there e.name commands then commands else commands ++ e ∷ []

-- the first ones of their identifiers, behind those that stand above
abbrev pub firsts_behind : List Named → List Named → List Named
firsts_behind above [] = []
firsts_behind above (e ∷ es) =
    if is_there e.name above then firsts_behind above es else e ∷ firsts_behind (above ++ e ∷ []) es
