-- A loaded session is settled. Extensions that are enabled, disabled and updated keep it settled.
use Rattle.std.specs.Prelude.{◌≡◌, ℕ, true, false, List, length, Some, None, Ok, slice_get}
use Rattle.std.specs.List.{All}
use Rattle.kb_code.specs.Handler.{HandlerData}
use Rattle.kb_core.specs.declared.native.Native.{Native}
use Rattle.kb_files.specs.Enabled.{switched_at}
use Rattle.kb_files.specs.declared.extension_file.Extension.{Extension}
use Rattle.kb_handler_table.specs.Codes.{CodesData}
use Rattle.kb_extension_code.specs.Checked.{LiveChecked}
use Rattle.kb_registry.specs.Live.{Live, disposal_fault, disposed, registered, with_exchanged, with_switched}
use Rattle.kb_extension_code.specs.Settled.{AreNumbered, IsSettled}
use Rattle.kb_extension_code.specs.Switching.{disable_refusal, enable_refusal}
use Rattle.kb_extension_code.specs.Updating.{updated_code}

-- a load gives each extension its verified code, and enables all
abbrev pub LoadedIsSettled : Type 0
LoadedIsSettled =
    (natives : List Native) (es : List Extension) (handlers : List (List HandlerData)) (live : Live) →
    LiveChecked natives es handlers (Ok live) → AreNumbered 0 es → All (λ e. e.enabled ≡ true) es →
    length handlers ≡ length es → IsSettled es live

-- an extension that may be enabled is, and its handlers become live
abbrev pub EnabledStaysSettled : Type 0
EnabledStaysSettled = (es : List Extension) (live : Live) (place : ℕ) (e : Extension) →
    slice_get es place ≡ Some e → enable_refusal e es live ≡ None → IsSettled es live →
    IsSettled (switched_at place true es) (with_switched e.number true live)

-- an extension that may be disabled is, and its handlers aren't live any more
abbrev pub DisabledStaysSettled : Type 0
DisabledStaysSettled = (es : List Extension) (live : Live) (place : ℕ) (e : Extension) →
    slice_get es place ≡ Some e → disable_refusal e es ≡ None → IsSettled es live →
    IsSettled (switched_at place false es) (with_switched e.number false live)

-- an extension gets the code of an update that isn't refused
abbrev pub UpdatedStaysSettled : Type 0
UpdatedStaysSettled = (es : List Extension) (live : Live) (place : ℕ) (e : Extension) (bytes : List ℕ)
    (codes : CodesData) → slice_get es place ≡ Some e → updated_code e es live bytes ≡ Ok codes →
    IsSettled es live → IsSettled es (with_exchanged e.number codes live)

-- a closure is registered
abbrev pub RegisteredStaysSettled : Type 0
RegisteredStaysSettled = (es : List Extension) (live : Live) (native : Native) → IsSettled es live →
    IsSettled es (registered native live)

-- a registration ends, unless a live handler calls its native command
abbrev pub DisposedStaysSettled : Type 0
DisposedStaysSettled = (es : List Extension) (live : Live) (ticket : ℕ) → disposal_fault ticket live ≡ None →
    IsSettled es live → IsSettled es (disposed ticket live)
