-- The commands that the handlers of an extension may call: native commands, the handlers of the extensions
-- that it depends on, in load order, and those of its own file. Of equal names the first counts.
use Rattle.std.specs.Prelude.{ℕ, Bool, List, [], ◌∷◌, if◌then◌else◌}
use Rattle.std.specs.FinMap as map
use Rattle.std.specs.List.{list_any}
use Rattle.kb_base.specs.ExtensionId.{same_id}
use Rattle.kb_code.specs.Handler.{HandlerData}
use Rattle.kb_core.specs.Native.{name_of, declaration_of}
use Rattle.kb_core.specs.declared.native.Native.{Native}
use Rattle.kb_verify.specs.Callable.{Commands, with_first}
use Rattle.kb_verify.specs.declared.provider.Provider.{Provider}

-- an extension: its identifier and its handlers
pub record Provided : Type 0 where
  pub id : List ℕ
  pub handlers : List HandlerData

abbrev pub provided : Provider → Provided
provided p = record { id = p.id.now; handlers = p.handlers.now }

-- with native commands
abbrev pub with_natives : List Native → Commands → Commands
with_natives [] commands = commands
with_natives (native ∷ rest) commands =
    with_natives rest (with_first (name_of native) (declaration_of native) commands)

-- with handlers
abbrev pub with_handlers : List HandlerData → Commands → Commands
with_handlers [] commands = commands
with_handlers (h ∷ rest) commands = with_handlers rest (with_first h.command h.signature commands)

-- an extension is among the dependencies; ASCII letter case is ignored
abbrev pub is_needed : List ℕ → List (List ℕ) → Bool
is_needed id dependencies = list_any (λ other. same_id id other) dependencies

-- with the handlers of those extensions that are among the dependencies
abbrev pub with_needed : List (List ℕ) → List Provided → Commands → Commands
with_needed dependencies [] commands = commands
with_needed dependencies (p ∷ rest) commands =
    with_needed dependencies rest
    (if is_needed p.id dependencies then with_handlers p.handlers commands else commands)

-- what handlers of an extension with these dependencies may call
abbrev pub callable_of : List Native → List (List ℕ) → List Provided → List HandlerData → Commands
callable_of natives dependencies providers own =
    with_handlers own (with_needed dependencies providers (with_natives natives map.empty))
