use Rattle.std.specs.Prelude.{string_bytes}
use Rattle.kb_explain_report.proofs.disabled_said.disabled_text.Goals as goal

pub returns : goal.returns
returns c = (
  string_bytes c.in_ok-said.said,
  c.in_ok-said.ensures,
  rw (c.in_ok-place.ensures, c.source-source.ensures) at c.in_ok-line.ensures.ok,
)
