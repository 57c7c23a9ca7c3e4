-- What the problems of some files say of the load: they refuse exactly what it refuses, for the same fault,
-- and have each of its warnings once.
use Rattle.std.specs.Prelude.{◌≡◌, ◌⊎◌, ℕ, List, [], ◌∷◌, map, Bool, false, IsTrue}
use Rattle.std.specs.Prelude.{Option, Some, None, Ok, Err}
use Rattle.std.specs.List.{All, filter_map}
use Rattle.kb_base.specs.declared.failure.Failure.TheVariants.{Fault}
use Rattle.kb_base.specs.declared.note.Warning.{Warning}
use Rattle.kb_files.specs.Inputs.{Files}
use Rattle.kb_bindings.specs.Sources.{Sources, enablement, rules_of}
use Rattle.kb_bindings.specs.Warning.{warnings_of}
use Rattle.kb_core.specs.Native.{natives}
use Rattle.kb_files.specs.declared.fault.LoadFault.{LoadFault}
use Rattle.kb_session.specs.Session.{Loads, Seen}
use Rattle.kb_source_files.specs.SourceFiles.{bytes_of, bytes_in, bytes_of_extension}
use Rattle.kb_source_files.specs.declared.source_files.SourceFiles.{SourceFiles}
use Rattle.kb_problems.specs.declared.cause.Cause.{Cause}
use Rattle.kb_problems.specs.declared.cause.Cause.TheVariants.{Refused, Warned, Linted}
use Rattle.kb_problems.specs.declared.cause.Lint.{Lint}
use Rattle.kb_problems.specs.declared.choices.Choices.{Choices}
use Rattle.kb_problems.specs.declared.problem.Problem.{Problem}
use Rattle.kb_problems.specs.Choices.{wants}
use Rattle.kb_check.specs.Sound.{AreSound}
use Rattle.kb_rules.specs.declared.rule.Rule.{Rule}

-- the files as a load takes them
abbrev pub files_in : SourceFiles → Files
files_in files = record {
  layout = bytes_of files.layout;
  defaults = bytes_in files.defaults;
  user = bytes_in files.user;
  platform = files.platform;
  extensions = map bytes_of_extension files.extensions.now;
}

abbrev pub warning_of : Cause → Option Warning
warning_of (Refused file number) = None
warning_of (Warned warning) = Some warning
warning_of (Linted lint) = None

-- the warning that a problem is, if it is one
abbrev pub warning_in : Problem → Option Warning
warning_in problem = warning_of problem.cause

-- a fault is the only problem
abbrev pub IsRefusal : LoadFault → List Problem → Type 0
IsRefusal fault problems =
    map (λ problem. problem.cause) problems ≡ Refused fault.file fault.refusal.kind ∷ []

-- the load refuses the files, and its fault is the only problem
pub record TellsRefusal (files : Files) (problems : List Problem) : Type 0 where
  pub fault : LoadFault
  pub refuses : Loads files natives (Err (Fault fault))
  pub only : IsRefusal fault problems

-- the identifiers of the extensions, in load order
abbrev pub ids_in : Sources → List (List ℕ)
ids_in s = map (λ e. e.manifest.id) s.extensions

-- the load accepts the files, these are the identifiers of its extensions, its warnings are among the
-- problems, each once and in their order, and each problem that says that a rule can never start is at a rule
-- that can't
pub record TellsWarnings (at_rule : Rule → Problem → Type 0) (files : Files) (ids : List (List ℕ))
    (problems : List Problem) : Type 0 where
  pub session : Seen
  pub accepts : Loads files natives (Ok session)
  pub named : ids ≡ ids_in session.state.sources
  pub warnings : filter_map warning_in problems ≡ warnings_of session.state.sources
  pub sound : AreSound at_rule (enablement session.state.sources) (rules_of session.state.sources) problems

abbrev pub Tells : (Rule → Problem → Type 0) → Files → List (List ℕ) → List Problem → Type 0
Tells at_rule files ids problems = TellsRefusal files problems ⊎ TellsWarnings at_rule files ids problems

-- the lint that a problem is, if it is one
abbrev pub lint_of : Cause → Option Lint
lint_of (Refused file number) = None
lint_of (Warned warning) = None
lint_of (Linted lint) = Some lint

abbrev pub lint_in : Problem → Option Lint
lint_in problem = lint_of problem.cause

-- a problem is a lint that is looked for
abbrev pub is_wanted : Choices → Cause → Bool
is_wanted choices (Refused file number) = false
is_wanted choices (Warned warning) = false
is_wanted choices (Linted lint) = wants choices lint

-- each lint among the problems is looked for
abbrev pub AreWanted : Choices → List Problem → Type 0
AreWanted choices problems = All (λ lint. IsTrue (wants choices lint)) (filter_map lint_in problems)
