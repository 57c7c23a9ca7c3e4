-- The exit statuses of runs.
use Rattle.std.proofs.Common.{◌≡◌, ◌∙◌, ℕ, List, ap, inl, inr, subst}
use Rattle.std.specs.Prelude.{Ok, Err}
use Rattle.clap.specs.Words.{Text, subcommand_rows_of}
use Rattle.clap.specs.declared.error.Error.{Error}
use Rattle.clap.specs.declared.parser.matches.ArgMatches.{ArgMatches}
use Rattle.kb_cli.specs.CommandLine.{fault_by, line_status_of}
use Rattle.kb_cli.specs.declared.given.OptionsFault.{OptionsFault}
use Rattle.kb_cli.specs.declared.given.OptionsFault.TheVariants.{Line, NoMemory}
use Rattle.kb_disk.specs.Files.{Held, unknown}
use Rattle.kb_keycheck.specs.CommandLine.{IsMatched}
use Rattle.kb_keycheck.specs.Ends.{EndsWithFault, HasNoWords, IsLineFault, Obeys, ObeysLine, RunsLine, RunsOnSystem}

pub obeys_line : (held : List ℕ → Held) (words : List Text) (m : ArgMatches) (status : ℕ) → IsMatched words (Ok m)
    → Obeys held (subcommand_rows_of m) status → ObeysLine held words status
obeys_line held words m status has obeys = record { matches = m; by_clap = has; obeys = obeys }

pub refused_line : (words : List Text) (e : Error) (fault : OptionsFault) → IsMatched words (Err e)
    → fault ≡ fault_by e → IsLineFault words fault
refused_line words e fault has is = inr (e, has, is)

pub ruleset line_ends = (obeys_line, refused_line)

pub obeyed_status : (held : List ℕ → Held) (words : List Text) (status : ℕ) → ObeysLine held words status
    → RunsLine held words status
obeyed_status held words status obeys = inr (inr obeys)

pub refused_status : (held : List ℕ → Held) (words : List Text) (fault : OptionsFault) (status : ℕ) → IsLineFault words fault
    → EndsWithFault fault status → RunsLine held words status
refused_status held words fault status (inl is) ends = inl (subst (λ f. EndsWithFault f status) is ends)
refused_status held words fault status (inr (e, has, is)) ends = inr (inl (record {
  error = e;
  by_clap = has;
  ends = subst (λ f. EndsWithFault f status) is ends;
}))

pub ruleset line_status = (obeyed_status, refused_status)

-- the words could not be read
pub no_words_status : (fault : OptionsFault) (status : ℕ) → HasNoWords fault → EndsWithFault fault status
    → RunsOnSystem status
no_words_status (Line e) status is (w, status_is) = inl (inl (status_is ∙ ap (λ k. line_status_of k w) is))
no_words_status NoMemory status is ends = inl (inr ends)

pub words_status : (words : List Text) (status : ℕ) → RunsLine (λ path. unknown) words status → RunsOnSystem status
words_status words status runs = inr (words, runs)

pub ruleset on_system = (no_words_status, words_status)
