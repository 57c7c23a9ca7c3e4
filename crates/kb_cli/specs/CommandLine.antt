-- The command line of a program: its command in clap's definitions, and what the words mean.
use Rattle.std.specs.Prelude.{◌≡◌, ℕ, Bool, true, false, List, [], Option, Some, Result, Ok, Err}
use Rattle.std.specs.Prelude.{MatchResult, codes, map, is_some, option_map, option_and_then, unwrap_or}
use Rattle.std.specs.Borrow.{Bor}
use Rattle.std.specs.declared.io.ErrorKind as io
use Rattle.std.specs.declared.io.ErrorKind.TheVariants as io_kind
use Rattle.clap.specs.Words.{App, Rule, Row, Text, new_app, new_rule, with_rule, all_of, first_of, matches_of}
use Rattle.clap.specs.Words.{HasKind, fault_of, found_of, rows_of, kind_of, takes}
use Rattle.clap.specs.declared.builder.action.ArgAction.TheVariants.{Append}
use Rattle.clap.specs.declared.builder.value_parser.ValueParser.TheVariants.{Names}
use Rattle.clap.specs.declared.error.Error.{Error}
use Rattle.clap.specs.declared.error.kind.ErrorKind.{ErrorKind}
use Rattle.clap.specs.declared.error.kind.ErrorKind.TheVariants.{OutOfMemory, DisplayHelp, DisplayVersion}
use Rattle.clap.specs.declared.parser.matches.ArgMatches.{ArgMatches}
use Rattle.kb_keys.specs.Platform.{platforms, platform_name, platform_named}
use Rattle.kb_keys.specs.declared.platform.Platform.{Platform}
use Rattle.kb_keys.specs.declared.platform.Platform.TheVariants.{Linux}
use Rattle.kb_disk.specs.declared.options.Options.{Options}
use Rattle.kb_cli.specs.declared.given.OptionsFault.{OptionsFault}
use Rattle.kb_cli.specs.declared.given.OptionsFault.TheVariants.{Line, NoMemory}
use Rattle.kb_cli.specs.declared.given.WordsFault.{WordsFault}
use Rattle.kb_cli.specs.declared.given.WordsFault.TheVariants as words_fault

-- ---- the command

-- `--NAME VALUE`
abbrev pub valued_rule : Text → Rule
valued_rule name = record (new_rule name) { long = Some name; value_names = 1 }

-- these are the names of the platforms
abbrev pub NamesPlatforms : Bor (List (Bor Text)) → Type 0
NamesPlatforms names = map (λ name. name.now) names.now ≡ map platform_name platforms

-- `--platform P`, where P is one of these names
abbrev pub platform_rule : Bor (List (Bor Text)) → Rule
platform_rule names = record (valued_rule (codes "platform")) { parser = Some (Names names) }

-- `[DIR]...`, any number of them
abbrev pub dirs_rule : Rule
dirs_rule = record (new_rule (codes "dir")) { action = Some Append; value_names = 1 }

-- `PROGRAM`, which has `--help` and `--version`
abbrev pub bare_app : Text → App
bare_app program = record (new_app program) { top = record (new_app program).top { has_version = true } }

-- `PROGRAM [--layout F] [--defaults F] [--user F] [--platform P] [--script F] [DIR]...`, for a program's name
abbrev pub program_app : Text → Bor (List (Bor Text)) → App
program_app program names = with_rule (with_rule (with_rule (with_rule (with_rule (with_rule
    (bare_app program) (valued_rule (codes "layout"))) (valued_rule (codes "defaults")))
    (valued_rule (codes "user"))) (platform_rule names)) (valued_rule (codes "script"))) dirs_rule

-- ---- what the words mean

-- the platform of the name that the option gives, or Linux if it is not given
abbrev pub platform_given : Option Text → Platform
platform_given name = unwrap_or (option_and_then platform_named name) Linux

-- the options that the matches of a command line give
pub record Gives (rows : List Row) (given : Options) : Type 0 where
  pub layout : option_map (λ s. s.now) given.layout ≡ first_of (codes "layout") rows
  pub defaults : option_map (λ s. s.now) given.defaults ≡ first_of (codes "defaults") rows
  pub user : option_map (λ s. s.now) given.user ≡ first_of (codes "user") rows
  pub platform : given.platform ≡ platform_given (first_of (codes "platform") rows)
  pub script : option_map (λ s. s.now) given.script ≡ first_of (codes "script") rows
  pub dirs : map (λ s. s.now) given.dirs.items ≡ unwrap_or (all_of (codes "dir") rows) []

-- what clap may return for the words: the matches that its meaning gives, or an error of a kind that its
-- meaning gives. Memory may also be refused, and words that the meaning accepts have no other error
abbrev pub Matched : App → List Text → Result ArgMatches Error → Type 0
Matched app words r = MatchResult r
    (λ m. (fault_of app words ≡ []) × (rows_of (found_of m) ≡ matches_of app words))
    (λ e. HasKind (fault_of app words) e × (takes app words ≡ true → kind_of e ≡ OutOfMemory))

-- the fault for an error of clap: refused memory if clap says so, and otherwise the error
abbrev pub fault_of_kind : ErrorKind → Error → OptionsFault
fault_of_kind OutOfMemory e = NoMemory
fault_of_kind _ e = Line e

abbrev pub fault_by : Error → OptionsFault
fault_by e = fault_of_kind (kind_of e) e

-- memory was refused for the list of directories, of which there are some
abbrev pub LacksDirs : List Row → OptionsFault → Type 0
LacksDirs rows fault = (fault ≡ NoMemory) × (is_some (all_of (codes "dir") rows) ≡ true)

-- the options, from the result of clap
abbrev pub Answers : Result ArgMatches Error → Result Options OptionsFault → Type 0
Answers (Ok m) r = MatchResult r (Gives (rows_of (found_of m))) (LacksDirs (rows_of (found_of m)))
Answers (Err e) r = MatchResult r (λ given. ⊥) (λ fault. fault ≡ fault_by e)

-- the words are parsed by clap's meaning of the program's command, for any list of the platforms' names
pub record Reads (program : Text) (words : List Text) (r : Result Options OptionsFault) : Type 0 where
  pub names : Bor (List (Bor Text))
  pub are_platforms : NamesPlatforms names
  pub read : Result ArgMatches Error
  pub by_clap : Matched (program_app program names) words read
  pub answers : Answers read r

-- the exit status of a command line that gives no options, and whether its text could be written
abbrev pub line_status_of : ErrorKind → Bool → ℕ
line_status_of DisplayHelp true = 0
line_status_of DisplayHelp false = 4
line_status_of DisplayVersion true = 0
line_status_of DisplayVersion false = 4
line_status_of _ is_written = 2

abbrev pub RefusesWith : ErrorKind → ℕ → Type 0
RefusesWith kind status = (is_written : Bool) × (status ≡ line_status_of kind is_written)

-- why the words of the command line could not be read, by the kind of the system's error
abbrev pub words_fault_of : io.ErrorKind → WordsFault
words_fault_of io_kind.InvalidData = words_fault.NotText
words_fault_of _ = words_fault.NoMemory
