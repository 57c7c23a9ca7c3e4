use Rattle.std.proofs.Common.{rules, sym}
use Rattle.std.specs.Prelude.{string_bytes}
use Rattle.kb_explain_report.specs.Said.{IsTraceLine}
use Rattle.kb_report.specs.Output.{WritesLine}
use Rattle.kb_explain_report.proofs.SaidLemmas.{wrote_at}
use Rattle.kb_explain_report.proofs.trace_said.say_lines.Goals as goal

pub loop-place-preserved : goal.loop-place-preserved
loop-place-preserved g c = λ new rest.
    let line : WritesLine (IsTraceLine c.unwrap-line.result.now) (g.W.Write.contents c.loop-place.out)
    (g.W.Write.contents c.say_text.new.out) = record {
      line = string_bytes c.in_ok-format.field-0;
      is = search rules;
      got = c.in_ok-say_text.ensures.ok;
    } in
    c.loop-place.invariant new
    (wrote_at IsTraceLine c.args.lines.now c.loop-place.place c.unwrap-line.result.now _ _ new
    (rw c.unwrap-line.ensures at (sym c.get.ensures)) line rest)
