-- The commands that a handler may call.
use Rattle.std.specs.Prelude.{ℕ, List, Option, option_and_then, slice_get, if◌then◌else◌}
use Rattle.std.specs.Ordering.{nat_cmp}
use Rattle.std.specs.Cmp.Lexicographic.{slice_cmp}
use Rattle.std.specs.FinMap as map
use Rattle.kb_core.specs.Declaration.{Declaration}
use Rattle.kb_code.specs.Handler.{HandlerData}

-- the declarations of the callable commands, by name
abbrev pub Commands : Type 0
Commands = map.FinMap (slice_cmp nat_cmp) Declaration

-- the commands with one more, unless one of its name exists
abbrev pub with_first : List ℕ → Declaration → Commands → Commands
with_first name d commands =
    if map.contains_key commands name then commands else map.insert commands name d

-- the declaration of the command at an index of the handler's list of calls
abbrev pub declaration_at : Commands → HandlerData → ℕ → Option Declaration
declaration_at commands h n = option_and_then (map.get commands) (slice_get h.calls n)
