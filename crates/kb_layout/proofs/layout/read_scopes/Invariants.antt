use Rattle.std.proofs.Common.{◌≡◌, ◌++◌, option_map}
use Rattle.std.specs.Vec.Iter.{into_iter_items}
use Rattle.serde_json.specs.View.{items_view}
use Rattle.kb_layout.specs.Layout.{scope_of}
use Rattle.kb_jsonc.specs.Parts.{each, listed}
use Rattle.kb_layout.proofs.layout.read_scopes.Given as goal

-- the scopes so far, and then those that are left
abbrev pub invariant-loop-element : goal.invariant-loop-element
invariant-loop-element l =
    option_map (λ rest. l.scopes ++ rest)
    (each scope_of (listed (items_view (into_iter_items l.element-iterator))))
    ≡ each scope_of (listed (items_view l.fn.elements.items))
