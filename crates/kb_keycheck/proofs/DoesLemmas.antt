-- What commands do, by how they end.
use Rattle.std.proofs.Common.{◌≡◌, ◌∙◌, ℕ, Bool, List, inl, inr, refl, sym, subst, ap}
use Rattle.std.specs.Borrow.{Bor}
use Rattle.std.specs.Box.{box_value}
use Rattle.std.specs.declared.alloc.Global.{Global}
use Rattle.std.specs.Prelude.{Option, Some, None, Result, Ok, Err, Box, IfErr, IfOk, codes, map, option_map}
use Rattle.std.specs.Prelude.{unwrap_or, []}
use Rattle.clap.specs.Words.{Row, Text, all_of, found_of, rows_of, subcommand_name_of, subcommand_rows}
use Rattle.clap.specs.Words.{subcommand_rows_of}
use Rattle.clap.specs.declared.parser.matches.ArgMatches.{ArgMatches}
use Rattle.clap.specs.declared.parser.matches.ArgMatches.TheViews.{out-ArgMatches, out-SubCommand}
use Rattle.clap.specs.declared.parser.matches.SubCommand.{SubCommand}
use Rattle.kb_disk.specs.Files.{Held}
use Rattle.kb_run.specs.declared.outcome.Stop.TheVariants as run
use Rattle.kb_handler_report.specs.Check as handlers
use Rattle.kb_handler_report.specs.Stop as handlers_stop
use Rattle.kb_handler_report.specs.declared.stop.Stop as handlers_end
use Rattle.kb_keycheck.specs.CommandLine.{AreWishes, IsAsked, IsGiven, path_in, subcommand_named}
use Rattle.kb_keycheck.specs.Ends.{Answers, AnswersBy, AreChecked, AreLoaded, Checks, ChecksBy, Does, Handles}
use Rattle.kb_keycheck.specs.Ends.{HandlersBy, Obeys, StopsAnswering, StopsChecking, answer_status, check_status}
use Rattle.kb_keycheck.specs.Ends.{Translates, TranslatesGiven, translation_status}
use Rattle.kb_keycheck.specs.Translating.{EndsTranslating}
use Rattle.kb_keycheck.specs.declared.ending.Stop.{Stop}
use Rattle.kb_keycheck.specs.declared.ending.Stop.TheVariants.{Run}
use Rattle.kb_keycheck.specs.declared.request.Direction.{Direction}
use Rattle.kb_keycheck.specs.declared.request.Given.{Given}
use Rattle.kb_keycheck.specs.declared.request.Question.{Question}
use Rattle.kb_keycheck.specs.declared.request.Topic.{Topic}
use Rattle.kb_keycheck.specs.declared.request.Wishes.{Wishes}

-- ---- how a command ends

pub checks_given : (held : List ℕ → Held) (rows : List Row) (given : Given) (wishes : Wishes)
    (end : Result Bool Stop) → IsGiven rows given → AreWishes rows wishes
    → IfOk end (AreChecked held given.options wishes) → IfErr end (StopsChecking held given.options wishes)
    → ChecksBy held rows end
checks_given held rows given wishes (Ok clean) is are checked stopped =
    inr (record { given = given; is_given = is; wishes = wishes; are_wishes = are; ends = checked })
checks_given held rows given wishes (Err stop) is are checked stopped =
    inr (record { given = given; is_given = is; wishes = wishes; are_wishes = are; ends = stopped })

pub no_check : (held : List ℕ → Held) (rows : List Row) (end : Result Bool Stop) (stop : Stop)
    → end ≡ Err stop → stop ≡ Run run.NoMemory → ChecksBy held rows end
no_check held rows end stop ends is = inl (ends ∙ ap Err is)

pub ruleset checks = (checks_given)

pub answers_given : (held : List ℕ → Held) (topic : Topic) (rows : List Row) (given : Given) (asked : Question)
    (end : Result (Unit {0}) Stop) → IsGiven rows given → IsAsked topic rows asked
    → IfOk end (λ done. AreLoaded held given.options) → IfErr end (StopsAnswering held given.options asked)
    → AnswersBy held topic rows end
answers_given held topic rows given asked (Ok done) is is_asked answered stopped =
    inr (record { given = given; is_given = is; asked = asked; is_asked = is_asked; ends = answered })
answers_given held topic rows given asked (Err stop) is is_asked answered stopped =
    inr (record { given = given; is_given = is; asked = asked; is_asked = is_asked; ends = stopped })

pub no_answer : (held : List ℕ → Held) (topic : Topic) (rows : List Row) (end : Result (Unit {0}) Stop)
    (stop : Stop) → end ≡ Err stop → stop ≡ Run run.NoMemory → AnswersBy held topic rows end
no_answer held topic rows end stop ends is = inl (ends ∙ ap Err is)

pub ruleset answers = (answers_given)

pub handlers_given : (held : List ℕ → Held) (rows : List Row) (dirs : List (Bor Text))
    (end : Result Bool handlers_end.Stop)
    → map (λ (dir : Bor Text). dir.now) dirs ≡ unwrap_or (all_of (codes "dir") rows) []
    → IfOk end (handlers.HasChecked held dirs) → IfErr end (handlers.Stops held dirs)
    → HandlersBy held rows end
handlers_given held rows dirs (Ok all) named checked stopped =
    inr (record { dirs = dirs; dirs_are = named; ends = checked })
handlers_given held rows dirs (Err stop) named checked stopped =
    inr (record { dirs = dirs; dirs_are = named; ends = stopped })

pub ruleset handles = (handlers_given)

pub translates_given : (held : List ℕ → Held) (direction : Direction) (rows : List Row) (path : Bor Text)
    (end : Result (Option Text) Stop) → path.now ≡ path_in rows → EndsTranslating direction held path end
    → TranslatesGiven held direction rows end
translates_given held direction rows path end is ends = record { path = path; path_is = is; ends = ends }

pub ruleset translates = (translates_given)

-- ---- its exit status

pub checks_status : (held : List ℕ → Held) (rows : List Row) (end : Result Bool Stop) (status : ℕ)
    → ChecksBy held rows end → status ≡ check_status end → Checks held rows status
checks_status held rows end status ends is = record { end = end; ends = ends; status_is = is }

pub answers_status : (held : List ℕ → Held) (topic : Topic) (rows : List Row) (end : Result (Unit {0}) Stop) (status : ℕ)
    → AnswersBy held topic rows end → status ≡ answer_status end → Answers held topic rows status
answers_status held topic rows end status ends is = record { end = end; ends = ends; status_is = is }

pub handles_status : (held : List ℕ → Held) (rows : List Row) (end : Result Bool handlers_end.Stop) (status : ℕ)
    → HandlersBy held rows end → status ≡ handlers_stop.status_of end → Handles held rows status
handles_status held rows end status ends is = record { end = end; ends = ends; status_is = is }

pub translates_status : (held : List ℕ → Held) (direction : Direction) (rows : List Row)
    (end : Result (Option Text) Stop) (status : ℕ) → TranslatesGiven held direction rows end
    → status ≡ translation_status end → Translates held direction rows status
translates_status held direction rows end status ends is = record { end = end; ends = ends; status_is = is }

pub ruleset statuses = (checks_status, answers_status, handles_status, translates_status)

-- ---- the command of a line

named_pair : (o : Option (Box SubCommand Global)) (name : Text) (rows : List Row)
    → Some name ≡ option_map (λ b. (out-SubCommand (box_value b)).name.now) o
    → Some rows ≡ option_map (λ p. p.1) (subcommand_rows o) → subcommand_rows o ≡ Some (name, rows)
named_pair None name rows named had = cc
named_pair (Some b) name rows named had = cc

no_pair : (o : Option (Box SubCommand Global))
    → None ≡ option_map (λ b. (out-SubCommand (box_value b)).name.now) o → subcommand_rows o ≡ None
no_pair None named = refl
no_pair (Some b) named = cc

pub obeys_named : (held : List ℕ → Held) (m : ArgMatches) (name : Text) (rows : List Row) (status : ℕ)
    → Some name ≡ subcommand_name_of m → Some rows ≡ option_map (λ p. p.1) (subcommand_rows_of m)
    → Does held (subcommand_named name) rows status → Obeys held (subcommand_rows_of m) status
obeys_named held m name rows status named had does =
    subst (λ o. Obeys held o status) (sym (named_pair (out-ArgMatches m).subcommand name rows named had)) does

pub obeys_none : (held : List ℕ → Held) (m : ArgMatches) (status : ℕ) → None ≡ subcommand_name_of m → status ≡ 2
    → Obeys held (subcommand_rows_of m) status
obeys_none held m status named is =
    subst (λ o. Obeys held o status) (sym (no_pair (out-ArgMatches m).subcommand named)) is

pub ruleset obeys = (obeys_named, obeys_none)
