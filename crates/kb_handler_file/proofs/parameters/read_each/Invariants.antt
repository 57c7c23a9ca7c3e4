use Rattle.std.proofs.Common.{◌≡◌, ◌++◌, option_map}
use Rattle.std.specs.Vec.Iter.{into_iter_items}
use Rattle.serde_json.specs.View.{items_view}
use Rattle.kb_jsonc.specs.Parts.{each, listed}
use Rattle.kb_handler_file.specs.Parameters.{param_of}
use Rattle.kb_handler_file.proofs.parameters.read_each.Given as goal

-- the parameters so far, and then those that are left
abbrev pub invariant-loop-element : goal.invariant-loop-element
invariant-loop-element l =
    option_map (λ rest. l.params ++ rest)
    (each param_of (listed (items_view (into_iter_items l.element-iterator))))
    ≡ each param_of (listed (items_view l.fn.elements.items))
