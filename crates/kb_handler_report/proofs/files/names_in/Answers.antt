use Rattle.kb_handler_report.proofs.StoppingLemmas.{manifest_refused}
use Rattle.kb_handler_report.proofs.files.names_in.Goals as goal

pub returns-in-Err-clause-stopped : goal.returns-in-Err-clause-stopped
returns-in-Err-clause-stopped c =
    manifest_refused c.args.dir.now c.args.bytes.now _ _ c.in-Err.failure c.failed_file.result
    c.in-Err.ensures.read c.failed_file.ensures
