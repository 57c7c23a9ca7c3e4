-- What contracts see of a registry: the live commands, without closures.
use Rattle.std.specs.Prelude.{◌≡◌, ℕ, ◌+◌, ◌≤◌, Bool, List, [], ◌∷◌, ◌++◌, map, find, Option, Some, None}
use Rattle.std.specs.Prelude.{option_map, is_some, Result, Ok, Err, if◌then◌else◌, nat_eq}
use Rattle.std.specs.List.{list_any}
use Rattle.kb_core.specs.declared.native.Native.{Native}
use Rattle.kb_core.specs.Native.{named}
use Rattle.kb_code.specs.Commands.{Callee, Plain, Coded, Table}
use Rattle.kb_handler_table.specs.Codes.{CodesData}
use Rattle.kb_handler_table.specs.Live.{Group, live_in, caller_of, with_codes}
use Rattle.kb_code.specs.Handler.{handler_named}
use Rattle.kb_handler_table.specs.Live.{without_group, exchanged, switched, same_native}
use Rattle.kb_registry.specs.declared.fault.RegistryFault.{RegistryFault}
use Rattle.kb_registry.specs.declared.fault.RegistryFault.TheVariants.{AlreadyExists, Exhausted, StaleTicket}
use Rattle.kb_registry.specs.declared.fault.RegistryFault.TheVariants.{InUse}

-- a registered closure: its native command, and its ticket, which is the number of its registration
pub record Registered : Type 0 where
  pub native : Native
  pub ticket : ℕ

-- the limit of registrations, their number so far, the registered closures in order of registration,
-- and the code of extensions in load order, whose handlers are live or not
pub record Live : Type 0 where
  pub limit : ℕ
  pub made : ℕ
  pub commands : List Registered
  pub code : List Group

-- an empty registry
abbrev pub fresh : ℕ → Live
fresh limit = record { limit = limit; made = 0; commands = []; code = [] }

abbrev pub natives_of : List Registered → List Native
natives_of commands = map (λ c. c.native) commands

-- whether a closure is registered for the native
abbrev pub is_live : Native → Live → Bool
is_live native live = list_any (same_native native) (natives_of live.commands)

-- the native, if there is one and a closure is registered for it
abbrev pub where_live : Option Native → Live → Option Native
where_live None live = None
where_live (Some native) live = if is_live native live then Some native else None

-- the native with this identifier, if a closure is registered for it
abbrev pub live_native : List ℕ → Live → Option Native
live_native identifier live = where_live (named identifier) live

-- the fault of registering a closure for the native, if there is one
abbrev pub registration_fault : Native → Live → Option RegistryFault
registration_fault native live =
    if is_live native live then Some AlreadyExists
    else if nat_eq live.made live.limit then Some Exhausted else None

-- the registry with one more registration, whose ticket is its number
abbrev pub registered : Native → Live → Live
registered native live = record live {
  made = live.made + 1;
  commands = live.commands ++ record { native = native; ticket = live.made + 1 } ∷ [];
}

-- the native of the registered closure with the ticket
abbrev pub holder_in : ℕ → List Registered → Option Native
holder_in ticket commands = option_map (λ c. c.native) (find (λ c. nat_eq c.ticket ticket) commands)

abbrev pub holder : ℕ → Live → Option Native
holder ticket live = holder_in ticket live.commands

-- tickets are distinct, and none is above the number of registrations
abbrev pub AreNumbered : ℕ → List Registered → Type 0
AreNumbered made [] = Unit {0}
AreNumbered made (c ∷ cs) = (c.ticket ≤ made) × (holder_in c.ticket cs ≡ None) × AreNumbered made cs

-- all closures but the one with the ticket
abbrev pub without : ℕ → List Registered → List Registered
without ticket [] = []
without ticket (c ∷ cs) = if nat_eq c.ticket ticket then cs else c ∷ without ticket cs

-- the registry without the closure that has the ticket; ended registrations still count
abbrev pub disposed : ℕ → Live → Live
disposed ticket live = record live { commands = without ticket live.commands }

-- the fault of ending a registration: the ticket is stale, or a live handler calls its native
abbrev pub disposal_fault_of : Option Native → Live → Option RegistryFault
disposal_fault_of None live = Some StaleTicket
disposal_fault_of (Some native) live = if is_some (caller_of native live.code) then Some InUse else None

abbrev pub disposal_fault : ℕ → Live → Option RegistryFault
disposal_fault ticket live = disposal_fault_of (holder ticket live) live

-- the live command of an identifier, by the native that has this identifier, if there is one: a native
-- with a registered closure, or a live handler; no handler has the identifier of a native
abbrev pub callee_by : Option Native → List ℕ → Live → Option Callee
callee_by (Some native) identifier live = option_map Plain (where_live (Some native) live)
callee_by None identifier live = option_map Coded (handler_named identifier (live_in live.code))

abbrev pub callee : List ℕ → Live → Option Callee
callee identifier live = callee_by (named identifier) identifier live

-- the live command of each identifier
abbrev pub table_of : Live → Table
table_of live = λ identifier. callee identifier live

-- the registry with an extension's code, whose handlers are live
abbrev pub with_code : ℕ → CodesData → Live → Live
with_code extension codes live = record live { code = with_codes extension codes live.code }

-- the registry without an extension's code
abbrev pub without_code : ℕ → Live → Live
without_code extension live = record live { code = without_group extension live.code }

-- the registry with other code of an extension
abbrev pub with_exchanged : ℕ → CodesData → Live → Live
with_exchanged extension codes live = record live { code = exchanged extension codes live.code }

-- the registry with the handlers of an extension live, or not
abbrev pub with_switched : ℕ → Bool → Live → Live
with_switched extension on live = record live { code = switched extension on live.code }

-- the next result, unless there is a fault
abbrev pub unless_fault : Option RegistryFault → Result Live RegistryFault → Result Live RegistryFault
unless_fault None next = next
unless_fault (Some fault) next = Err fault

-- the registry with a registration for each of the natives, in order, or the first fault
abbrev pub all_registered : List Native → Live → Result Live RegistryFault
all_registered [] live = Ok live
all_registered (native ∷ natives) live =
    unless_fault (registration_fault native live) (all_registered natives (registered native live))
