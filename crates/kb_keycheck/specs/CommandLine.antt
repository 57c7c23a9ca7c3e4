-- The command line in clap's definitions, and what its words mean.
use Rattle.std.specs.Prelude.{◌≡◌, ℕ, true, false, List, [], ◌∷◌, Option, Some, None, Result, Err}
use Rattle.std.specs.Prelude.{MatchResult, codes, map, option_map, option_and_then}
use Rattle.std.specs.Prelude.{unwrap_or, find, bytes_eq}
use Rattle.std.specs.Borrow.{Bor}
use Rattle.clap.specs.Words.{App, Rule, Row, Shape, Text, all_of, first_of, fault_of, kind_of}
use Rattle.clap.specs.Words.{takes, HasKind, one_of}
use Rattle.clap.specs.Words.{new_app, new_rule, subcommand_of, subcommand_rows_of, with_rule, with_subcommand}
use Rattle.clap.specs.declared.builder.action.ArgAction.TheVariants.{Append, SetTrue}
use Rattle.clap.specs.declared.builder.command.Command.{Command}
use Rattle.clap.specs.declared.builder.command.Command.TheViews.{out-Command}
use Rattle.clap.specs.declared.builder.value_parser.ValueParser.TheVariants.{Names}
use Rattle.clap.specs.declared.error.Error.{Error}
use Rattle.clap.specs.declared.error.kind.ErrorKind.TheVariants.{OutOfMemory}
use Rattle.clap.specs.declared.parser.matches.ArgMatches.{ArgMatches}
use Rattle.clap.specs.Simple.{app_of}
use Rattle.kb_check_report.specs.Format.{format_named, format_of}
use Rattle.kb_check_report.specs.declared.format.Format.{Format}
use Rattle.kb_check_report.specs.declared.format.Format.TheVariants as format
use Rattle.kb_cli.specs.CommandLine.{Gives, NamesPlatforms, dirs_rule, platform_rule, valued_rule}
use Rattle.kb_problems.specs.Severity.{severity_named}
use Rattle.kb_problems.specs.declared.severity.Severity.{Severity}
use Rattle.kb_problems.specs.declared.severity.Severity.TheVariants.{Warning}
use Rattle.kb_report.specs.declared.output.Form.{Form}
use Rattle.kb_report.specs.declared.output.Form.TheVariants as form
use Rattle.kb_keycheck.specs.declared.request.Direction.TheVariants as direction
use Rattle.kb_keycheck.specs.declared.request.Given.{Given}
use Rattle.kb_keycheck.specs.declared.request.Question.{Question}
use Rattle.kb_keycheck.specs.declared.request.Question.TheVariants as question
use Rattle.kb_keycheck.specs.declared.request.Subcommand.{Subcommand}
use Rattle.kb_keycheck.specs.declared.request.Subcommand.TheVariants as command
use Rattle.kb_keycheck.specs.declared.request.Topic.{Topic}
use Rattle.kb_keycheck.specs.declared.request.Topic.TheVariants as topic
use Rattle.kb_keycheck.specs.declared.request.Wishes.{Wishes}

-- ---- arguments

-- `--json`
abbrev pub json_rule : Rule
json_rule = record (new_rule (codes "json")) { long = Some (codes "json"); action = Some SetTrue }

-- these are the names of the lints
abbrev pub NamesLints : Bor (List (Bor Text)) → Type 0
NamesLints names = map (λ name. name.now) names.now
    ≡ codes "unknown-command" ∷ codes "misspelled-command" ∷ codes "wrong-arguments" ∷ codes "idle-removal"
    ∷ codes "never-starts" ∷ codes "overridden" ∷ codes "chord-never-opens" ∷ codes "chord-hides-rule"
    ∷ codes "unread-pattern" ∷ codes "misspelled-member" ∷ codes "double-quotes"
    ∷ codes "unknown-context-key" ∷ []

-- `--NAME LINT`, any number of times, where LINT is one of these names
abbrev pub lints_rule : Text → Bor (List (Bor Text)) → Rule
lints_rule name lints = record (valued_rule name) { parser = Some (Names lints); action = Some Append }

-- these are the names of the severities
abbrev pub NamesLevels : Bor (List (Bor Text)) → Type 0
NamesLevels names = map (λ name. name.now) names.now ≡ codes "error" ∷ codes "warning" ∷ codes "note" ∷ []

-- `--level LEVEL`, where LEVEL is one of these names
abbrev pub level_rule : Bor (List (Bor Text)) → Rule
level_rule levels = record (valued_rule (codes "level")) { parser = Some (Names levels) }

-- these are the names of the formats
abbrev pub NamesFormats : Bor (List (Bor Text)) → Type 0
NamesFormats names = map (λ name. name.now) names.now
    ≡ codes "text" ∷ codes "json" ∷ codes "github" ∷ codes "sarif" ∷ codes "diff" ∷ []

-- `--format FORMAT`, where FORMAT is one of these names
abbrev pub format_rule : Bor (List (Bor Text)) → Rule
format_rule formats = record (valued_rule (codes "format")) { parser = Some (Names formats) }

-- a word that must be there
abbrev pub word_rule : Text → Rule
word_rule name = record (new_rule name) { value_names = 1; required = true }

-- `DIR...`, one or more of them
abbrev pub some_dirs_rule : Rule
some_dirs_rule = record dirs_rule { required = true }

-- ---- commands

-- `[--layout F] [--defaults F] [--user F] [--platform P] [--json] [DIR]...`
abbrev pub with_files : App → Bor (List (Bor Text)) → App
with_files a platforms = with_rule (with_rule (with_rule (with_rule (with_rule (with_rule a
    (valued_rule (codes "layout"))) (valued_rule (codes "defaults"))) (valued_rule (codes "user")))
    (platform_rule platforms)) json_rule) dirs_rule

-- the same behind `[--script F]`
abbrev pub with_script : App → Bor (List (Bor Text)) → App
with_script a platforms = with_files (with_rule a (valued_rule (codes "script"))) platforms

-- `--only NAME`, any number of times
abbrev pub only_rule : Rule
only_rule = record (valued_rule (codes "only")) { action = Some Append }

-- `check [--only NAME]... [--level LEVEL] [--allow NAME]... [--warn NAME]... [--commands F] [--format FORMAT]
-- FILES`
abbrev pub check_app : Bor (List (Bor Text)) → Bor (List (Bor Text)) → Bor (List (Bor Text))
    → Bor (List (Bor Text)) → App
check_app platforms lints levels formats = with_files (with_rule (with_rule (with_rule (with_rule (with_rule
    (with_rule (new_app (codes "check")) only_rule) (level_rule levels)) (lints_rule (codes "allow") lints))
    (lints_rule (codes "warn") lints)) (valued_rule (codes "commands"))) (format_rule formats)) platforms

-- `explain KEY FILES [--script F]`
abbrev pub explain_app : Bor (List (Bor Text)) → App
explain_app platforms =
    with_script (with_rule (new_app (codes "explain")) (word_rule (codes "key"))) platforms

-- `--unbound`
abbrev pub unbound_rule : Rule
unbound_rule = record (new_rule (codes "unbound")) {
  long = Some (codes "unbound");
  action = Some SetTrue;
}

-- `list [--key KEY] [--command ID] [--unbound] FILES [--script F]`
abbrev pub list_app : Bor (List (Bor Text)) → App
list_app platforms = with_script (with_rule (with_rule (with_rule (new_app (codes "list"))
    (valued_rule (codes "key"))) (valued_rule (codes "command"))) unbound_rule) platforms

-- `context FILES [--script F]`
abbrev pub context_app : Bor (List (Bor Text)) → App
context_app platforms = with_script (new_app (codes "context")) platforms

-- `palette QUERY [--command ID] FILES [--script F]`
abbrev pub palette_app : Bor (List (Bor Text)) → App
palette_app platforms = with_script (with_rule (with_rule (new_app (codes "palette"))
    (word_rule (codes "query"))) (valued_rule (codes "command"))) platforms

-- `log SCRIPT FILES`
abbrev pub log_app : Bor (List (Bor Text)) → App
log_app platforms = with_files (with_rule (new_app (codes "log")) (word_rule (codes "script"))) platforms

-- `handlers [--json] DIR...`
abbrev pub handlers_app : App
handlers_app = with_rule (with_rule (new_app (codes "handlers")) json_rule) some_dirs_rule

-- `assemble FILE`
abbrev pub assemble_app : App
assemble_app = with_rule (new_app (codes "assemble")) (word_rule (codes "file"))

-- `disassemble FILE`
abbrev pub disassemble_app : App
disassemble_app = with_rule (new_app (codes "disassemble")) (word_rule (codes "file"))

-- `keycheck COMMAND`, which has `--help` and `--version`
abbrev pub bare_app : App
bare_app = record (new_app (codes "keycheck")) {
  top = record (new_app (codes "keycheck")).top { has_version = true; subcommand_required = true };
}

abbrev pub keycheck_app : Bor (List (Bor Text)) → Bor (List (Bor Text)) → Bor (List (Bor Text))
    → Bor (List (Bor Text)) → App
keycheck_app platforms lints levels formats = with_subcommand (with_subcommand (with_subcommand
    (with_subcommand (with_subcommand (with_subcommand (with_subcommand (with_subcommand (with_subcommand
    bare_app (check_app platforms lints levels formats).top) (explain_app platforms).top)
    (list_app platforms).top) (context_app platforms).top) (palette_app platforms).top)
    (log_app platforms).top) handlers_app.top) assemble_app.top) disassemble_app.top

-- ---- what the words mean

-- what clap may return for the words: the subcommand with its matches that its meaning gives, or an error of
-- a kind that its meaning gives. Memory may also be refused, and words that the meaning accepts have no other
-- error
abbrev pub Matched : App → List Text → Result ArgMatches Error → Type 0
Matched app words r = MatchResult r
    (λ m. (fault_of app words ≡ []) × (subcommand_rows_of m ≡ subcommand_of app words))
    (λ e. HasKind (fault_of app words) e × (takes app words ≡ true → kind_of e ≡ OutOfMemory))

-- the same of the program's command, wherever the names of the platforms, of the lints, of the severities and
-- of the formats stand
pub record IsMatched (words : List Text) (r : Result ArgMatches Error) : Type 0 where
  pub platforms : Bor (List (Bor Text))
  pub are_platforms : NamesPlatforms platforms
  pub lints : Bor (List (Bor Text))
  pub are_lints : NamesLints lints
  pub levels : Bor (List (Bor Text))
  pub are_levels : NamesLevels levels
  pub formats : Bor (List (Bor Text))
  pub are_formats : NamesFormats formats
  pub by_clap : Matched (keycheck_app platforms lints levels formats) words r

-- the names of the commands
abbrev pub subcommand_name : Subcommand → Text
subcommand_name command.Check = codes "check"
subcommand_name (command.Ask topic.Press) = codes "explain"
subcommand_name (command.Ask topic.Rules) = codes "list"
subcommand_name (command.Ask topic.Context) = codes "context"
subcommand_name (command.Ask topic.Palette) = codes "palette"
subcommand_name (command.Ask topic.Log) = codes "log"
subcommand_name command.Handlers = codes "handlers"
subcommand_name (command.Translate direction.Assemble) = codes "assemble"
subcommand_name (command.Translate direction.Disassemble) = codes "disassemble"

abbrev pub subcommands : List Subcommand
subcommands = command.Check ∷ command.Ask topic.Press ∷ command.Ask topic.Rules ∷ command.Ask topic.Context
    ∷ command.Ask topic.Palette ∷ command.Ask topic.Log ∷ command.Handlers
    ∷ command.Translate direction.Assemble ∷ command.Translate direction.Disassemble ∷ []

abbrev pub subcommand_named : Text → Option Subcommand
subcommand_named name = find (λ c. bytes_eq name (subcommand_name c)) subcommands

-- how lines are written, by the value of the flag
pub record IsForm (rows : List Row) (written : Form) : Type 0 where
  pub json : one_of (codes "json") rows ≡ Some (codes "true") → written ≡ form.Json
  pub text : one_of (codes "json") rows ≡ Some (codes "false") → written ≡ form.Text

-- the files that the arguments of a command name, and how lines are written
pub record IsGiven (rows : List Row) (given : Given) : Type 0 where
  pub options : Gives rows given.options
  pub written : IsForm rows given.form

-- the level of the name that the option gives, or warnings if it is not given
abbrev pub level_given : Option Text → Severity
level_given name = unwrap_or (option_and_then severity_named name) Warning

-- the format of the name that the option gives, or by the flag if it is not given
abbrev pub IsFormat : List Row → Option Text → Format → Type 0
IsFormat rows (Some name) written = written ≡ unwrap_or (format_named name) format.Text
IsFormat rows None written = (f : Form) × IsForm rows f × (written ≡ format_of f)

-- what the arguments of `check` look for, and what they show
pub record AreWishes (rows : List Row) (wishes : Wishes) : Type 0 where
  pub allowed : map (λ name. name.now) wishes.allowed.items ≡ unwrap_or (all_of (codes "allow") rows) []
  pub asked : map (λ name. name.now) wishes.asked.items ≡ unwrap_or (all_of (codes "warn") rows) []
  pub only : map (λ name. name.now) wishes.only.items ≡ unwrap_or (all_of (codes "only") rows) []
  pub level : wishes.level ≡ level_given (first_of (codes "level") rows)
  pub commands : option_map (λ s. s.now) wishes.commands ≡ first_of (codes "commands") rows
  pub written : IsFormat rows (first_of (codes "format") rows) wishes.format

-- the path of the file to translate
abbrev pub path_in : List Row → Text
path_in rows = unwrap_or (first_of (codes "file") rows) []

-- the question that the arguments of a command ask
abbrev pub IsAsked : Topic → List Row → Question → Type 0
IsAsked topic.Press rows (question.Press keys) = keys.now ≡ unwrap_or (first_of (codes "key") rows) []
IsAsked topic.Rules rows question.Unbound = one_of (codes "unbound") rows ≡ Some (codes "false") → ⊥
IsAsked topic.Rules rows (question.Rules keys id) =
    (one_of (codes "unbound") rows ≡ Some (codes "true") → ⊥)
    × (option_map (λ s. s.now) keys ≡ first_of (codes "key") rows)
    × (option_map (λ s. s.now) id ≡ first_of (codes "command") rows)
IsAsked topic.Context rows question.Context = Unit {0}
IsAsked topic.Palette rows (question.Palette query id) =
    (query.now ≡ unwrap_or (first_of (codes "query") rows) [])
    × (option_map (λ s. s.now) id ≡ first_of (codes "command") rows)
IsAsked topic.Log rows question.Log = Unit {0}
IsAsked asked rows q = ⊥

-- ---- for private functions

-- the command is this one, and has no argument that its subcommands share
pub record IsCommand (a : App) (c : Command) : Type 0 where
  pub app : app_of c ≡ a
  pub local : (out-Command c).has_globals ≡ false
