-- The search for a missing callee of verified code.
use Rattle.std.specs.Prelude.{ℕ, Bool, true, ◌||◌, List, [], ◌∷◌, Option, Some, None, option_map, slice_get}
use Rattle.std.specs.Prelude.{option_and_then, if◌then◌else◌}
use Rattle.std.specs.Option.{option_or}
use Rattle.kb_core.specs.Declaration.{Declaration}
use Rattle.kb_core.specs.Native.{named}
use Rattle.kb_core.specs.declared.native.Native.{Native}
use Rattle.kb_code.specs.Face.{declared_among, declares}
use Rattle.kb_code.specs.Handler.{HandlerData}
use Rattle.kb_code.specs.Commands.{declared_by}
use Rattle.kb_handler_table.specs.Codes.{CodesData}
use Rattle.kb_handler_table.specs.Live.{group_of}
use Rattle.kb_registry.specs.Live.{Live, callee, is_live}
use Rattle.kb_verify.specs.declared.callees.Callee.{Callee}

-- the name of a callee, if it fails a test, which gets the signature that it had when the code was verified
abbrev pub unless_there : (Declaration → List ℕ → Bool) → Declaration → Option (List ℕ) → Option (List ℕ)
unless_there there d None = None
unless_there there d (Some name) = if there d name then None else Some name

-- the name of the first callee of a handler that fails the test
abbrev pub missing_in : (Declaration → List ℕ → Bool) → HandlerData → List Callee → Option (List ℕ)
missing_in there h [] = None
missing_in there h (c ∷ callees) =
    option_or (unless_there there c.signature (slice_get h.calls c.index)) (missing_in there h callees)

-- the same for several handlers
abbrev pub missing_from : (Declaration → List ℕ → Bool) → List HandlerData → List (List Callee) →
    Option (List ℕ)
missing_from there [] all = None
missing_from there (h ∷ hs) [] = None
missing_from there (h ∷ hs) (callees ∷ all) =
    option_or (missing_in there h callees) (missing_from there hs all)

-- code that wasn't verified has no missing callee
abbrev pub missing_by : (Declaration → List ℕ → Bool) → Option (List (List Callee)) → List HandlerData
    → Option (List ℕ)
missing_by there None handlers = None
missing_by there (Some all) handlers = missing_from there handlers all

-- ---- callees that aren't live

-- the declaration of the live command with a name
abbrev pub declared_live : Live → List ℕ → Option Declaration
declared_live live name = option_map declared_by (callee name live)

-- the live command or the handler with the name declares `d`
abbrev pub is_there : List HandlerData → Live → Declaration → List ℕ → Bool
is_there handlers live d name =
    declares (declared_live live name) d || declares (declared_among handlers name) d

-- the name of the first callee of the code, in file order and order of place, that is neither live nor
-- one of the code's own handlers, with the signature that it had when the code was verified
abbrev pub missing_callee : CodesData → Live → Option (List ℕ)
missing_callee codes live = missing_by (is_there codes.handlers live) codes.callees codes.handlers

-- ---- native commands without a closure

-- a closure is registered for the native, if there is one
abbrev pub has_closure : Option Native → Live → Bool
has_closure None live = true
has_closure (Some native) live = is_live native live

abbrev pub native_there : Live → Declaration → List ℕ → Bool
native_there live d name = has_closure (named name) live

-- the name of the first callee of the code, in file order and order of place, that is a native command
-- without a registered closure
abbrev pub missing_native : CodesData → Live → Option (List ℕ)
missing_native codes live = missing_by (native_there live) codes.callees codes.handlers

-- the same for the code of an extension
abbrev pub native_missing : ℕ → Live → Option (List ℕ)
native_missing extension live =
    option_and_then (λ codes. missing_native codes live) (group_of extension live.code)
