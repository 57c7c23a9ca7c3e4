-- The native commands among the names in a handler's list of calls.
use Rattle.std.specs.Prelude.{List, Option, map}
use Rattle.kb_core.specs.declared.native.Native.{Native}
use Rattle.kb_core.specs.Native.{named}
use Rattle.kb_code.specs.Handler.{HandlerData}
use Rattle.kb_code.specs.declared.target.Target.{Target}

-- the native of each target, if it has one
abbrev pub natives_in : List Target → List (Option Native)
natives_in targets = map (λ t. t.native) targets

-- the native with each name in the list of calls, if there is one
abbrev pub natives_of : HandlerData → List (Option Native)
natives_of h = map named h.calls
