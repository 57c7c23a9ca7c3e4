use Rattle.std.proofs.Common.{◌≤◌, ◌∙◌, List, ap, arith, length, map, sym}
use Rattle.std.proofs.lemmas.List.{take_all}
use Rattle.serde_json.proofs.Views.{view-Array}
use Rattle.serde_json.specs.Data.{Data, array, string}
use Rattle.serde_json.specs.View.{items_of}
use Rattle.kb_explain_report.proofs.SaidLemmas.{strings_at}
use Rattle.kb_explain_report.proofs.trace_said.lines_json.Goals as goal

pub loop-place-preserved : goal.loop-place-preserved
loop-place-preserved c = strings_at c.loop-place.list.items c.push.new.self.items c.args.lines.now
    c.loop-place.place c.unwrap-line.result.now c.in_ok-try_from_str.field-0 c.loop-place.invariant
    (rw c.unwrap-line.ensures at (sym c.get.ensures)) c.in_ok-try_from_str.ensures
    c.in_ok-push.ensures.items

pub returns : goal.returns
returns c =
    let all : length c.args.lines.now ≤ c.loop-place.place = omega arith in
    view-Array c.loop-place.list ∙ ap (λ (l : List Data). array (items_of l))
    (c.loop-place.invariant ∙ ap (map string) (take_all c.loop-place.place c.args.lines.now all))
