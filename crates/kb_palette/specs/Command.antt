-- A command of the palette, and whether it is shown.
use Rattle.std.specs.Prelude.{ℕ, List, length, Bool, ◌&&◌, ◌||◌, ◌==◌, Option}
use Rattle.std.specs.List.{list_any}
use Rattle.kb_context.specs.Scopes.{Keys}
use Rattle.kb_when.specs.Marks.{MarkedClause, when_holds}

-- the identifier of a command, its label, its enablement, and the clauses of the items that name it
pub record CommandData : Type 0 where
  pub command : List ℕ
  pub label : List ℕ
  pub enablement : Option MarkedClause
  pub items : List (Option MarkedClause)

-- no item names the command, or one that names it holds
abbrev pub is_visible : Keys → CommandData → Bool
is_visible keys c = (length c.items == 0) || list_any (when_holds keys) c.items

-- the command has no enablement, or its enablement holds
abbrev pub is_enabled : Keys → CommandData → Bool
is_enabled keys c = when_holds keys c.enablement

-- the command is visible and enabled
abbrev pub is_shown : Keys → CommandData → Bool
is_shown keys c = is_visible keys c && is_enabled keys c
