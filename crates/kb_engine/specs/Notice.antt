-- The text of a load's warnings, and of its refusal.
use Rattle.std.specs.Prelude.{◌≡◌, ℕ, List, [], ◌∷◌, ◌++◌, Err, flat_map}
use Rattle.kb_base.specs.declared.failure.Failure.TheVariants.{Fault}
use Rattle.kb_base.specs.declared.note.Warning.{Warning}
use Rattle.kb_files.specs.Inputs.{Files}
use Rattle.kb_bindings.specs.Sources.{Sources, source_of}
use Rattle.kb_bindings.specs.Warning.{warnings_of}
use Rattle.kb_core.specs.Native.{natives}
use Rattle.kb_base.specs.Note.{warning_line}
use Rattle.kb_files.specs.Fault.{load_line}
use Rattle.kb_files.specs.declared.fault.LoadFault.{LoadFault}
use Rattle.kb_session.specs.Session.{Loads}

-- a line for each warning, with a line feed behind each
abbrev pub warning_text : Sources → List Warning → List ℕ
warning_text sources warnings =
    flat_map (λ warning. warning_line (source_of sources warning.origin) warning ++ 10 ∷ []) warnings

abbrev pub warnings_text : Sources → List ℕ
warnings_text sources = warning_text sources (warnings_of sources)

-- a load of these files is refused, and the notice says why
pub record IsRefusal (files : Files) (notice : List ℕ) : Type 0 where
  pub fault : LoadFault
  pub refused : Loads files natives (Err (Fault fault))
  pub says : notice ≡ load_line fault ++ 10 ∷ []
