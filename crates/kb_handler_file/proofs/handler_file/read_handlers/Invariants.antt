use Rattle.std.proofs.Common.{◌≡◌, ◌++◌}
use Rattle.std.specs.Vec.Iter.{into_iter_items}
use Rattle.serde_json.specs.View.{items_view}
use Rattle.kb_base.specs.Reading.{seen}
use Rattle.kb_jsonc.specs.Parts.{listed}
use Rattle.kb_handler_file.specs.HandlerFile.{each_read, handler_of}
use Rattle.kb_handler_file.proofs.handler_file.read_handlers.Given as goal

-- the handlers so far, and then those that are left
abbrev pub invariant-loop-element : goal.invariant-loop-element
invariant-loop-element l =
    seen (λ rest. l.handlers ++ rest)
    (each_read (handler_of l.fn.version) (listed (items_view (into_iter_items l.element-iterator))))
    ≡ each_read (handler_of l.fn.version) (listed (items_view l.fn.elements.items))
