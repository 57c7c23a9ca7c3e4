use Rattle.std.proofs.Common.{◌≡◌, Err, rules}
use Rattle.std.specs.Prelude.{map}
use Rattle.kb_end_to_end.proofs.Transcripts.{loaded_runs, answered_failure}
use Rattle.kb_end_to_end.proofs.transcript.Goals as goal

pub returns-clause-err : goal.returns-clause-err
returns-clause-err g c =
    let natives = map g.C.HostCommand.stands_for c.args.natives.items in
    let failure = c.in-Err-ran.failure in
    let failed : c.run_script-ran.result ≡ Err failure = search rules in
    rw c.script_failure.ensures
    (answered_failure _ natives c.run_script-ran.result failure c.args.script.now _ _ _ _ _ failed
    (loaded_runs _ natives c.in-Ok.session c.in-Ok.ensures.read)
    c.in-Ok.ensures.safe c.run_script-ran.ensures.left)
