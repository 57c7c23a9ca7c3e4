use Rattle.std.proofs.Common.{subst}
use Rattle.std.specs.Prelude.{Option}
use Rattle.clap.specs.Words.{found_of, rows_of}
use Rattle.kb_keycheck.specs.Ends.{Does}
use Rattle.kb_keycheck.specs.declared.request.Subcommand.{Subcommand}
use Rattle.kb_keycheck.proofs.DoesLemmas.{obeys_named}
use Rattle.kb_keycheck.proofs.dispatch.obey.Goals as goal

pub returns-in-Some-subcommand_named-clause-does : goal.returns-in-Some-subcommand_named-clause-does
returns-in-Some-subcommand_named-clause-does g c =
    let held = g.F.FileSource.held c.args.files.now in
    let rows = rows_of (found_of c.in-Some.named.1.now) in
    obeys_named held c.args.matches.now c.in-Some.named.0.now rows c.obey_command.result c.in-Some.ensures.name
    c.in-Some.ensures.rows
    (subst (λ (o : Option Subcommand). Does held o rows c.obey_command.result) c.in-Some-subcommand_named.ensures
    c.obey_command.ensures.does)
