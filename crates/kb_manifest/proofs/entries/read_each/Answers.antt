use Rattle.std.proofs.Common.{◌≡◌, [], ap, arith}
use Rattle.std.proofs.lemmas.Grind.{common_steps}
use Rattle.std.specs.Vec.Iter.{into_iter_items}
use Rattle.serde_json.specs.View.{items_view}
use Rattle.kb_jsonc.specs.Parts.{listed}
use Rattle.kb_manifest.proofs.JudgedLemmas.{goes_on, ends}
use Rattle.kb_manifest.proofs.entries.read_each.Goals as goal

pub loop-entry-preserved : goal.loop-entry-preserved
loop-entry-preserved g c =
    let all = listed (items_view c.args.entries.items) in
    record {
      goes = goes_on g.E.Entry.judged g.E.Entry.is_right c.args.origin c.args.part all
          c.in_ok-judged.ensures.read c.in_ok-judged.ensures.right c.in_ok-keep.ensures c.in_ok-add.ensures
          (ap (λ es. listed (items_view es)) c.in-Some.ensures.steps.0) c.loop-entry.invariant.goes;
      places = grind (arith, common_steps);
    }

pub returns-clause-read : goal.returns-clause-read
returns-clause-read g c =
    let all = listed (items_view c.args.entries.items) in
    let none : into_iter_items c.loop-entry.entry-iterator ≡ [] = grind (arith, common_steps) in
    (ends g.E.Entry.judged g.E.Entry.is_right c.args.origin c.args.part all
    (ap (λ es. listed (items_view es)) none) c.loop-entry.invariant.goes).0

pub returns-clause-right : goal.returns-clause-right
returns-clause-right g c =
    let all = listed (items_view c.args.entries.items) in
    let none : into_iter_items c.loop-entry.entry-iterator ≡ [] = grind (arith, common_steps) in
    (ends g.E.Entry.judged g.E.Entry.is_right c.args.origin c.args.part all
    (ap (λ es. listed (items_view es)) none) c.loop-entry.invariant.goes).1
