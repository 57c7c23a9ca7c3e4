-- The data that is resolved once for an extension's handlers.
use Rattle.std.specs.Prelude.{◌≡◌, ℕ, Bool, List, Some, is_some, slice_get}
use Rattle.std.specs.List.{AllZip}
use Rattle.std.specs.Option.{option_and_then}
use Rattle.kb_code.specs.Handler.{HandlerData, handler_named}
use Rattle.kb_handler_table.specs.declared.links.Links.{Links}
use Rattle.kb_handler_table.specs.declared.names.Names.{Names}
use Rattle.kb_handler_table.specs.Links.{AreLinks}
use Rattle.kb_handler_table.specs.Names.{place_in}

-- a look-up by name finds a handler of `all` exactly if it is one of `first`
abbrev pub FindsFirst : Names → List HandlerData → List HandlerData → Type 0
FindsFirst names all first =
    (name : List ℕ) → option_and_then (slice_get all) (place_in names name) ≡ handler_named name first

-- each handler has its links, and its name finds it
pub record IsGroup (names : Names) (links : List Links) (handlers : List HandlerData) : Type 0 where
  pub linked : AllZip AreLinks links handlers
  pub found : FindsFirst names handlers handlers

-- the handler at the place has the name
pub record IsNamedAt
    (name : List ℕ) (handlers : List HandlerData) (place : ℕ) (h : HandlerData) : Type 0 where
  pub there : slice_get handlers place ≡ Some h
  pub its : h.command ≡ name

-- whether a look-up by name finds a handler
abbrev pub is_kept : Names → List HandlerData → List ℕ → Bool
is_kept names all name = is_some (option_and_then (slice_get all) (place_in names name))
