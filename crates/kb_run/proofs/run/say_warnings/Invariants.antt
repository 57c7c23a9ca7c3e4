use Rattle.std.proofs.Common.{drop}
use Rattle.kb_run.specs.Voice.{Heard, Says, heard_by}
use Rattle.kb_run.specs.Run.{warning_text}
use Rattle.kb_run.proofs.run.say_warnings.Given as goal

-- what says those that are left has said all
abbrev pub invariant-loop-warning : goal.invariant-loop-warning
invariant-loop-warning g l =
    let sources = l.fn.session.state.sources in
    (end : Heard)
    → Says (heard_by g.C.Console.said g.C.Console.broken l.voice) end
    (warning_text sources (drop l.warning-index l.warnings))
    → Says (heard_by g.C.Console.said g.C.Console.broken l.fn.voice) end (warning_text sources l.warnings)
