-- The live handlers, as contracts see them.
use Rattle.std.specs.Prelude.{ℕ, Bool, true, false, List, [], ◌∷◌, ◌++◌, find, Option, Some, None, is_some}
use Rattle.std.specs.Prelude.{if◌then◌else◌, nat_eq, nat_lt, bytes_eq, codes, ◌||◌, get_or, option_map}
use Rattle.std.specs.Prelude.{slice_get}
use Rattle.std.specs.List.{list_any, flat_map}
use Rattle.std.specs.Option.{option_map_or}
use Rattle.kb_core.specs.declared.native.Native.{Native}
use Rattle.kb_core.specs.contracts.native.NativePartialEq.TheImpl as equality
use Rattle.kb_core.specs.Native.{named}
use Rattle.kb_code.specs.Handler.{HandlerData, handler_named}
use Rattle.kb_code.specs.Callees.{callees_of}
use Rattle.kb_code.specs.Target.{natives_of}
use Rattle.kb_handler_table.specs.Codes.{CodesData, checked_in}
use Rattle.kb_handler_table.specs.declared.fault.CodesFault.{CodesFault}
use Rattle.kb_handler_table.specs.declared.fault.CodesFault.TheVariants.{AlreadyExists}

-- the code of an extension, and whether its handlers are live; extensions are numbered in load order, from 0
pub record Group : Type 0 where
  pub extension : ℕ
  pub codes : CodesData
  pub live : Bool

-- the code of an extension, with live handlers
abbrev pub live_group : ℕ → CodesData → Group
live_group extension codes = record { extension = extension; codes = codes; live = true }

-- all handlers, live or not, in load and file order
abbrev pub handlers_in : List Group → List HandlerData
handlers_in groups = flat_map (λ g. g.codes.handlers) groups

-- the live handlers of a group: all, or none
abbrev pub live_of : Group → List HandlerData
live_of g = if g.live then g.codes.handlers else []

-- all live handlers, in load and file order
abbrev pub live_in : List Group → List HandlerData
live_in groups = flat_map live_of groups

-- names that no handler may have: those of the native commands, and `runCommands`
abbrev pub is_reserved : List ℕ → Bool
is_reserved name = is_some (named name) || bytes_eq name (codes "runCommands")

-- whether a handler's name is reserved, or one of `others` has it
abbrev pub is_taken : List HandlerData → HandlerData → Bool
is_taken others h = is_reserved h.command || is_some (handler_named h.command others)

-- whether, in order, a handler's name is taken by one of `above` or by an earlier handler
abbrev pub has_taken : List HandlerData → List HandlerData → Bool
has_taken above [] = false
has_taken above (h ∷ hs) = is_taken above h || has_taken (above ++ h ∷ []) hs

-- the fault of adding handlers beside the groups, if there is one; handlers that aren't live keep their names
abbrev pub codes_fault : List HandlerData → List Group → Option CodesFault
codes_fault handlers groups =
    if has_taken (handlers_in groups) handlers then Some AlreadyExists else None

-- the group of an extension, if it has one
abbrev pub found_group : ℕ → List Group → Option Group
found_group extension groups = find (λ g. nat_eq g.extension extension) groups

-- the code of an extension, live or not, if it has a group
abbrev pub group_of : ℕ → List Group → Option CodesData
group_of extension groups = option_map (λ g. g.codes) (found_group extension groups)

-- whether the handlers of an extension are live
abbrev pub is_on : ℕ → List Group → Bool
is_on extension groups = option_map_or (λ g. g.live) (found_group extension groups) false

-- the handlers of an extension's group; none if it has no group
abbrev pub handlers_of : ℕ → List Group → List HandlerData
handlers_of extension groups = option_map_or (λ codes. codes.handlers) (group_of extension groups) []

-- the groups with a new one, in load order
abbrev pub with_group : Group → List Group → List Group
with_group new [] = new ∷ []
with_group new (g ∷ gs) = if nat_lt new.extension g.extension then new ∷ g ∷ gs else g ∷ with_group new gs

-- the groups with the code of an extension, whose handlers are live
abbrev pub with_codes : ℕ → CodesData → List Group → List Group
with_codes extension codes groups = with_group (live_group extension codes) groups

-- the groups without that of an extension
abbrev pub without_group : ℕ → List Group → List Group
without_group extension [] = []
without_group extension (g ∷ gs) = if nat_eq g.extension extension then gs else g ∷ without_group extension gs

-- the groups with a change of that of an extension, if it has one
abbrev pub changed : (Group → Group) → ℕ → List Group → List Group
changed change extension [] = []
changed change extension (g ∷ gs) =
    if nat_eq g.extension extension then change g ∷ gs else g ∷ changed change extension gs

-- other code for an extension; its handlers are live if those before were
abbrev pub exchanged : ℕ → CodesData → List Group → List Group
exchanged extension codes groups = changed (λ g. record g { codes = codes }) extension groups

-- the handlers of an extension are live from now on, or aren't
abbrev pub switched : ℕ → Bool → List Group → List Group
switched extension live groups = changed (λ g. record g { live = live }) extension groups

-- whether two natives are equal, as `==` decides it
abbrev pub same_native : Native → Native → Bool
same_native = (equality.ghosts).eq

-- whether the option has this native
abbrev pub is_it : Native → Option Native → Bool
is_it native None = false
is_it native (Some other) = same_native other native

-- whether a reachable call of the handler names the native
abbrev pub calls_native : Native → HandlerData → Bool
calls_native native h = list_any (λ n. is_it native (get_or (natives_of h) n None)) (callees_of h)

-- the first live handler, in load and file order, that calls the native
abbrev pub caller_of : Native → List Group → Option HandlerData
caller_of native groups = find (calls_native native) (live_in groups)

-- whether a name is that of one of the handlers
abbrev pub names_one : List HandlerData → Option (List ℕ) → Bool
names_one own None = false
names_one own (Some name) = is_some (handler_named name own)

-- whether a reachable call of the handler names one of these
abbrev pub calls_one : List HandlerData → HandlerData → Bool
calls_one own h = list_any (λ n. names_one own (slice_get h.calls n)) (callees_of h)

-- all live handlers of verified code, in load and file order
abbrev pub checked_live : Group → List HandlerData
checked_live g = if g.live then checked_in g.codes else []

abbrev pub checked_handlers : List Group → List HandlerData
checked_handlers groups = flat_map checked_live groups

-- the first live verified handler of the other groups that calls a handler of the extension's
abbrev pub user_of : ℕ → List Group → Option HandlerData
user_of extension groups =
    find (calls_one (handlers_of extension groups)) (checked_handlers (without_group extension groups))
