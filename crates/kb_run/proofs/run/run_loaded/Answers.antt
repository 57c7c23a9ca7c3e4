use Rattle.std.proofs.Common.{subst}
use Rattle.std.specs.Io.Buffered.{writer_contents, writer_inner}
use Rattle.std.specs.Prelude.{map}
use Rattle.kb_files.specs.Inputs.{files_of}
use Rattle.kb_run.proofs.HeadlineLemmas.{run_played}
use Rattle.kb_run.specs.Run.{PlaysAny, hosted, script_bytes}
use Rattle.kb_script.specs.Shelf.{beside}
use Rattle.kb_session.specs.State.{State}
use Rattle.kb_stream.specs.Fold.{Traced}
use Rattle.kb_run.proofs.run.run_loaded.Goals as goal

pub returns-in-Ok : goal.returns-in-Ok
returns-in-Ok g c =
    let stands = g.H.HostCommand.stands_for in
    let closures = c.args.setup.closures in
    let bytes = script_bytes g.S.Read.remaining c.args.script (g.I.Read.remaining c.args.streams.now.input) in
    run_played c.args.setup.verification (files_of c.args.inputs)
    (hosted (map stands closures.natives.items) (map stands closures.shelf.items) c.args.setup.takes_rules)
    bytes _ c.play_any-end.result c.in-Ok.session c.in-Ok.ensures.read
    c.in-Ok.ensures.sound c.in-Ok.ensures.right c.say_warnings.ensures
    (subst (λ (s : Traced State). PlaysAny bytes (beside s (map stands closures.shelf.items))
    (writer_contents g.O.Write.contents c.args.streams.now.trace)
    (g.O.Write.contents (writer_inner c.play_any-end.new.trace)) c.play_any-end.result)
    c.take_rule_lines.ensures c.play_any-end.ensures)
