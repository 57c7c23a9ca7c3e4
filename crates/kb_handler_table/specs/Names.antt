-- The places of handlers, by name.
use Rattle.std.specs.Prelude.{ℕ, List, Option}
use Rattle.std.specs.HashMap.{get_by_text}
use Rattle.kb_handler_table.specs.declared.names.Names.{Names}

-- the place of a name
unfoldable pub place_in : Names → List ℕ → Option ℕ
place_in names name = get_by_text names.places name
