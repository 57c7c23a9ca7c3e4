use Rattle.std.proofs.Common.{rules}
use Rattle.kb_script.proofs.ScriptRuns.{line_on, line_lacks}
use Rattle.kb_script.proofs.script_run.run_line.Goals as goal

pub returns-in-Ok-write_from-clause-ok : goal.returns-in-Ok-write_from-clause-ok
returns-in-Ok-write_from-clause-ok g c =
    line_on c.obey.new.session.state.sources.user.unread c.args.number c.args.line.now _ _ _ _ _ c.len-before.result
    c.in-Ok.ensures.said c.in-Ok-obey.ensures.ok c.in-Ok-obey.ensures.marked (search rules)
    c.in-Ok-write_from.ensures.ok

pub returns-in-Err-clause-err : goal.returns-in-Err-clause-err
returns-in-Err-clause-err g c =
    line_lacks c.obey.new.session.state.sources.user.unread c.args.number c.args.line.now _ _ _ _ _ c.len-before.result _
    c.in-Ok.ensures.said c.in-Ok-obey.ensures.ok c.in-Ok-obey.ensures.marked (search rules)
    c.in-Err.ensures.err
