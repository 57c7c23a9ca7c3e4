-- Problems that say that a rule can never start.
use Rattle.std.specs.Prelude.{List, Bool, true, false, filter}
use Rattle.kb_base.specs.declared.note.Origin.{Origin}
use Rattle.kb_base.specs.declared.note.Origin.TheVariants as origin
use Rattle.kb_files.specs.declared.fault.LoadFile.{LoadFile}
use Rattle.kb_files.specs.declared.fault.LoadFile.TheVariants as file
use Rattle.kb_problems.specs.declared.cause.Cause.{Cause}
use Rattle.kb_problems.specs.declared.cause.Cause.TheVariants.{Refused, Warned, Linted}
use Rattle.kb_problems.specs.declared.cause.Lint.{Lint}
use Rattle.kb_problems.specs.declared.cause.Lint.TheVariants as lint
use Rattle.kb_problems.specs.declared.problem.Problem.{Problem}

-- the file that entries of an origin are in
abbrev pub file_in : Origin → LoadFile
file_in origin.Defaults = file.Defaults
file_in (origin.Extension number) = file.Package number
file_in origin.User = file.User

-- a lint says that a rule can never start
abbrev pub is_never : Lint → Bool
is_never lint.NeverStarts = true
is_never lint.Overridden = true
is_never lint.ChordNeverOpens = true
is_never lint.ChordHidesRule = true
is_never _ = false

abbrev pub says_never : Cause → Bool
says_never (Refused file number) = false
says_never (Warned warning) = false
says_never (Linted lint) = is_never lint

-- those of some problems that say so
abbrev pub never_said : List Problem → List Problem
never_said = filter (λ problem. says_never problem.cause)
