-- The commands that the handlers of an extension may call: the live native commands, the handlers of the
-- extensions that it depends on, in load order, live or not, and those of its own file. Of equal names the
-- first counts.
use Rattle.std.specs.Prelude.{ℕ, List, [], ◌∷◌, ◌++◌, map, slice_get, if◌then◌else◌}
use Rattle.std.specs.Option.{option_map_or}
use Rattle.kb_code.specs.Handler.{HandlerData}
use Rattle.kb_core.specs.Native.{natives}
use Rattle.kb_core.specs.declared.native.Native.{Native}
use Rattle.kb_files.specs.declared.extension_file.Extension.{Extension}
use Rattle.kb_handler_table.specs.Live.{handlers_of}
use Rattle.kb_registry.specs.Live.{Live, is_live}
use Rattle.kb_verify.specs.Callable.{Commands}
use Rattle.kb_verify.specs.Provider as verify
use Rattle.kb_verify.specs.Provider.{Provided}

-- those of the native commands that are live
abbrev pub live_among : List Native → Live → List Native
live_among [] live = []
live_among (native ∷ rest) live =
    if is_live native live then native ∷ live_among rest live else live_among rest live

-- with a native command, if it is live
abbrev pub with_native : Native → Live → List Native → List Native
with_native native live before = if is_live native live then before ++ native ∷ [] else before

-- with those of the native commands that are live
abbrev pub with_natives : List Native → Live → List Native → List Native
with_natives [] live before = before
with_natives (native ∷ rest) live before = with_natives rest live (with_native native live before)

-- an extension with its handlers
abbrev pub provided_by : Live → Extension → Provided
provided_by live e = record { id = e.manifest.id; handlers = handlers_of e.number live.code }

-- the dependencies of the extension of a number
abbrev pub dependencies_of : ℕ → List Extension → List (List ℕ)
dependencies_of number extensions =
    option_map_or (λ e. e.manifest.dependencies) (slice_get extensions number) []

-- the commands that handlers of an extension may call, which is one of these, among these native commands
abbrev pub callable_among : List Native → List Extension → ℕ → List HandlerData → Live → Commands
callable_among among extensions number own live =
    verify.callable_of (live_among among live) (dependencies_of number extensions)
    (map (provided_by live) extensions) own

abbrev pub callable_of : List Extension → ℕ → List HandlerData → Live → Commands
callable_of = callable_among natives
