-- Why an extension can't be enabled or disabled.
use Rattle.std.specs.Prelude.{ℕ, List, Option, Some, None, option_map, if◌then◌else◌}
use Rattle.std.specs.Option.{option_or}
use Rattle.kb_base.specs.declared.fault.FaultKind.{FaultKind}
use Rattle.kb_base.specs.declared.fault.FaultKind.TheVariants.{CalleeNotLive, NeedsDependency, NeededBy}
use Rattle.kb_base.specs.declared.refusal.Refusal.{Refusal}
use Rattle.kb_files.specs.declared.extension_file.Extension.{Extension}
use Rattle.kb_registry.specs.Live.{Live}
use Rattle.kb_registry.specs.Missing.{native_missing}
use Rattle.kb_extension_code.specs.Dependencies.{missing_dependency, dependent_on}
use Rattle.kb_extension_code.specs.declared.switching.Obstacle.{Obstacle}

-- the refusal of a fault that concerns this name
abbrev pub refused_with : FaultKind → List ℕ → Refusal
refused_with kind name = record { kind = kind; detail = Some name }

-- an extension that isn't enabled can't be while one of its dependencies isn't (93), or while its verified
-- code calls a native command without a registered closure (74)
abbrev pub enable_refusal : Extension → List Extension → Live → Option Refusal
enable_refusal e es live =
    if e.enabled then None
    else option_or (option_map (refused_with NeedsDependency) (missing_dependency e.manifest.dependencies es))
    (option_map (refused_with CalleeNotLive) (native_missing e.number live))

-- an enabled extension can't be disabled while another enabled one depends on it (94)
abbrev pub disable_refusal : Extension → List Extension → Option Refusal
disable_refusal e es =
    if e.enabled then option_map (refused_with NeededBy) (dependent_on e.manifest.id es) else None

-- ---- for private functions

abbrev pub refusal_of : Obstacle → Refusal
refusal_of o = refused_with o.kind o.name.now
