use Rattle.std.proofs.Common.{◌≡◌, drop}
use Rattle.std.specs.List.{list_any}
use Rattle.serde_json.specs.View.{items_view}
use Rattle.kb_explain.specs.Started.{names}
use Rattle.kb_jsonc.specs.Parts.{listed}
use Rattle.kb_explain.proofs.started.any_names.Given as goal

-- those that are left give the same
abbrev pub invariant-loop-element : goal.invariant-loop-element
invariant-loop-element l =
    list_any (names l.command) (listed (items_view (drop l.element-index l.elements)))
    ≡ list_any (names l.command) (listed (items_view l.fn.elements))
