use Rattle.std.proofs.Common.{◌≡◌, drop, is_some}
use Rattle.serde_json.specs.View.{items_view}
use Rattle.kb_jsonc.specs.Parts.{each, listed}
use Rattle.serde_json.specs.Find.{as_str}
use Rattle.kb_layout.proofs.shape.are_texts.Given as goal

-- those that are left decide
abbrev pub invariant-loop-element : goal.invariant-loop-element
invariant-loop-element l =
    is_some (each as_str (listed (items_view (drop l.element-index l.elements))))
    ≡ is_some (each as_str (listed (items_view l.elements)))
