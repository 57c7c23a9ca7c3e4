-- What clap's clauses say of the command line.
use Rattle.std.proofs.Common.{◌≡◌, refl, subst, true, List, []}
use Rattle.std.specs.Borrow.{Bor}
use Rattle.std.specs.Prelude.{Result, Ok, Err, IfErr, IfOk}
use Rattle.clap.proofs.OnLiterals.{clap_on_literals}
use Rattle.clap.specs.Words.{App, FailsBy, HasKind, HasMatchesOf, Text, fault_of, is_simple}
use Rattle.clap.specs.Words.{is_simple_and_free, kind_of, takes}
use Rattle.clap.specs.declared.error.Error.{Error}
use Rattle.clap.specs.declared.error.kind.ErrorKind.TheVariants.{OutOfMemory}
use Rattle.clap.specs.declared.parser.matches.ArgMatches.{ArgMatches}
use Rattle.kb_keycheck.specs.CommandLine.{Matched, keycheck_app}

-- the command is one whose words clap gives a meaning
app_is_simple : (platforms lints levels formats : Bor (List (Bor Text)))
    → is_simple (keycheck_app platforms lints levels formats) ≡ true
unfolding clap_on_literals
app_is_simple platforms lints levels formats = refl

app_is_free : (platforms lints levels formats : Bor (List (Bor Text)))
    → is_simple_and_free (keycheck_app platforms lints levels formats) ≡ true
unfolding clap_on_literals
app_is_free platforms lints levels formats = refl

-- what clap answers of a command that is the program's
pub matched_by : (platforms lints levels formats : Bor (List (Bor Text))) (made : App)
    → made ≡ keycheck_app platforms lints levels formats
    → (words : List Text) (r : Result ArgMatches Error)
    → IfOk r (λ m. HasMatchesOf made words m)
    → (is_simple_and_free made ≡ true → FailsBy (fault_of made words) r)
    → IfErr r (λ e. takes made words ≡ true → kind_of e ≡ OutOfMemory)
    → Matched (keycheck_app platforms lints levels formats) words r
matched_by platforms lints levels formats made is words (Ok m) has kinds passes = (
  subst (λ (a : App). is_simple_and_free a ≡ true → fault_of a words ≡ []) is kinds
      (app_is_free platforms lints levels formats),
  (subst (λ (a : App). HasMatchesOf a words m) is has (app_is_simple platforms lints levels formats)).1,
)
matched_by platforms lints levels formats made is words (Err e) has kinds passes = (
  subst (λ (a : App). is_simple_and_free a ≡ true → HasKind (fault_of a words) e) is kinds
      (app_is_free platforms lints levels formats),
  subst (λ (a : App). takes a words ≡ true → kind_of e ≡ OutOfMemory) is passes,
)
