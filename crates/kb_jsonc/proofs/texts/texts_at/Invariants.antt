use Rattle.std.proofs.Common.{◌≡◌, ◌++◌, option_map}
use Rattle.std.specs.Vec.Iter.{into_iter_items}
use Rattle.serde_json.specs.Find.{as_str}
use Rattle.serde_json.specs.View.{items_view}
use Rattle.kb_jsonc.specs.Parts.{each, listed}
use Rattle.kb_jsonc.proofs.texts.texts_at.Given as goal

-- the texts so far, and then those that are left
abbrev pub invariant-loop-element : goal.invariant-loop-element
invariant-loop-element l =
    option_map (λ rest. l.texts ++ rest)
    (each as_str (listed (items_view (into_iter_items l.element-iterator))))
    ≡ each as_str (listed (items_view l.fn.elements.items))
