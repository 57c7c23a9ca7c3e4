use Rattle.std.proofs.Common.{◌≡◌, ◌++◌, map, string_bytes}
use Rattle.serde_json.specs.View.{members_view}
use Rattle.kb_jsonc.specs.Parts.{names_of}
use Rattle.kb_layout.proofs.context.names_in.Given as goal

-- the names so far, and then those that are left
abbrev pub invariant-loop-name : goal.invariant-loop-name
invariant-loop-name l =
    l.names ++ map string_bytes l.name-iterator ≡ names_of (members_view l.fn.members.entries)
