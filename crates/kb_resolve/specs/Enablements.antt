-- The enablements of commands, by identifier.
use Rattle.std.specs.Prelude.{ℕ, List, [], ◌∷◌, if◌then◌else◌, Option, None, unwrap_or, bytes_eq}
use Rattle.std.specs.FinMap.{get}
use Rattle.kb_when.specs.Marks.{MarkedClause}
use Rattle.kb_resolve.specs.declared.enablements.Contribution.{Contribution}
use Rattle.kb_resolve.specs.declared.enablements.Enablements.{Enablements}

-- the enablement of each command, if it has one, by the bytes of its identifier
abbrev pub Enabling : Type 0
Enabling = List ℕ → Option MarkedClause

-- the enablement of a command: that of its first contribution, if it has one
abbrev pub enablement_of : List Contribution → Enabling
enablement_of [] command = None
enablement_of (c ∷ cs) command =
    if bytes_eq command c.command then c.enablement else enablement_of cs command

-- the enablement of a command in a table
unfoldable pub enablement_in : Enablements → Enabling
enablement_in enablements command = unwrap_or (get enablements.table command) None
