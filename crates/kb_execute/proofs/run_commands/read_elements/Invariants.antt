use Rattle.std.proofs.Common.{◌≡◌, ◌++◌, drop, map, option_map}
use Rattle.serde_json.specs.View.{items_view}
use Rattle.kb_jsonc.specs.Parts.{each, listed}
use Rattle.kb_execute.specs.RunCommands.{planned, planned_in}
use Rattle.kb_execute.proofs.run_commands.read_elements.Given as goal

-- the commands so far, followed by those of the remaining elements
abbrev pub invariant-loop-element : goal.invariant-loop-element
invariant-loop-element l =
    option_map (λ rest. map planned l.steps.items ++ rest)
    (each planned_in (listed (items_view (drop l.element-index l.elements))))
    ≡ each planned_in (listed (items_view l.fn.elements))
