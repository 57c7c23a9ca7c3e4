use Rattle.std.proofs.Common.{◌≡◌, ◌++◌, drop, string_bytes}
use Rattle.kb_engine.specs.Notice.{warning_text}
use Rattle.kb_engine.proofs.notice.warnings_text.Given as goal

abbrev pub invariant-loop-warning : goal.invariant-loop-warning
invariant-loop-warning l =
    string_bytes l.text ++ warning_text l.session.state.sources (drop l.warning-index l.warnings)
    ≡ warning_text l.session.state.sources l.warnings
