-- The first extension that a load refuses for its identifier or its dependencies.
use Rattle.std.specs.Prelude.{ℕ, List, [], ◌∷◌, ◌++◌, length, Bool, not, Option, Some, None, option_map}
use Rattle.std.specs.Prelude.{if◌then◌else◌}
use Rattle.std.specs.List.{list_any}
use Rattle.std.specs.Option.{option_or}
use Rattle.kb_base.specs.ExtensionId.{same_id}
use Rattle.kb_base.specs.declared.fault.FaultKind.{FaultKind}
use Rattle.kb_base.specs.declared.fault.FaultKind.TheVariants.{DuplicateExtension, MissingDependency}
use Rattle.kb_files.specs.declared.identifiers.IdentifierFault.{IdentifierFault}

-- the identifier of an extension, and those that it depends on
pub record Names : Type 0 where
  pub id : List ℕ
  pub dependencies : List (List ℕ)

-- an identifier is among those of extensions, compared without the case of ASCII letters
abbrev pub is_among : List ℕ → List Names → Bool
is_among id others = list_any (λ other. same_id id other.id) others

-- an extension repeats the identifier of an earlier one
abbrev pub repeats : List Names → Names → Bool
repeats earlier e = is_among e.id earlier

-- an extension depends on one that isn't among the earlier ones
abbrev pub lacks : List Names → Names → Bool
lacks earlier e = list_any (λ id. not (is_among id earlier)) e.dependencies

-- the place of the first extension that fails a test beside the earlier ones, if one does
abbrev pub first_failing : (List Names → Names → Bool) → List Names → List Names → Option ℕ
first_failing fails earlier [] = None
first_failing fails earlier (e ∷ es) =
    if fails earlier e then Some (length earlier) else first_failing fails (earlier ++ e ∷ []) es

abbrev pub fault_at : FaultKind → ℕ → IdentifierFault
fault_at kind place = record { kind = kind; place = place }

-- a repeated identifier comes before each missing dependency, whatever their places
abbrev pub identifier_fault : List Names → Option IdentifierFault
identifier_fault es =
    option_or (option_map (fault_at DuplicateExtension) (first_failing repeats [] es))
    (option_map (fault_at MissingDependency) (first_failing lacks [] es))
