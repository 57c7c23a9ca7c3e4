use Rattle.std.proofs.Common.{◌≡◌, ◌+◌, length}
use Rattle.std.specs.Vec.Iter.{into_iter_items}
use Rattle.serde_json.specs.View.{items_view}
use Rattle.kb_jsonc.specs.Parts.{listed}
use Rattle.kb_manifest.proofs.JudgedLemmas.{Goes}
use Rattle.kb_manifest.proofs.entries.read_each.Given as goal

-- what there is, and then what the entries that are left give
abbrev pub invariant-loop-entry : goal.invariant-loop-entry
invariant-loop-entry g l =
    let all = listed (items_view l.fn.entries.items) in
    let left = into_iter_items l.entry-iterator in
    record {
      goes : Goes g.E.Entry.judged g.E.Entry.is_right l.fn.origin l.fn.part all l.place
          (listed (items_view left)) l.kept l.notes;
      places : l.place + length left ≡ length l.fn.entries.items;
    }
