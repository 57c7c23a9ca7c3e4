-- What clap's clauses say of the command of a program.
use Rattle.std.proofs.Common.{◌≡◌, refl, subst, true, List}
use Rattle.std.specs.Borrow.{Bor}
use Rattle.std.specs.Prelude.{Result, Ok, Err, IfOk, IfErr, []}
use Rattle.clap.specs.Words.{App, FailsBy, HasKind, HasMatchesOf, Text, fault_of, is_simple}
use Rattle.clap.specs.Words.{is_simple_and_free, kind_of, takes}
use Rattle.clap.specs.declared.parser.matches.ArgMatches.{ArgMatches}
use Rattle.clap.specs.declared.error.Error.{Error}
use Rattle.clap.specs.declared.error.kind.ErrorKind.TheVariants.{OutOfMemory}
use Rattle.clap.proofs.OnLiterals.{clap_on_literals}
use Rattle.kb_cli.specs.CommandLine.{Matched, program_app}

-- the command is one whose words clap gives a meaning
program_is_simple : (program : Text) (names : Bor (List (Bor Text))) → is_simple (program_app program names) ≡ true
unfolding clap_on_literals
program_is_simple program names = refl

program_is_free : (program : Text) (names : Bor (List (Bor Text)))
    → is_simple_and_free (program_app program names) ≡ true
unfolding clap_on_literals
program_is_free program names = refl

-- what clap answers of a command that is the program's
pub matched_by : (program : Text) (names : Bor (List (Bor Text))) (made : App) → made ≡ program_app program names
    → (words : List Text) (r : Result ArgMatches Error)
    → IfOk r (λ m. HasMatchesOf made words m)
    → (is_simple_and_free made ≡ true → FailsBy (fault_of made words) r)
    → IfErr r (λ e. takes made words ≡ true → kind_of e ≡ OutOfMemory) → Matched (program_app program names) words r
matched_by program names made is words (Ok m) has kinds passes = (
  subst (λ (a : App). is_simple_and_free a ≡ true → fault_of a words ≡ []) is kinds (program_is_free program names),
  (subst (λ (a : App). HasMatchesOf a words m) is has (program_is_simple program names)).0,
)
matched_by program names made is words (Err e) has kinds passes = (
  subst (λ (a : App). is_simple_and_free a ≡ true → HasKind (fault_of a words) e) is kinds
      (program_is_free program names),
  subst (λ (a : App). takes a words ≡ true → kind_of e ≡ OutOfMemory) is passes,
)
