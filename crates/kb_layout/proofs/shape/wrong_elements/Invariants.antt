use Rattle.std.proofs.Common.{◌≡◌, drop}
use Rattle.serde_json.specs.View.{items_view}
use Rattle.kb_jsonc.specs.Mismatch.{unread}
use Rattle.kb_jsonc.specs.Parts.{each, listed}
use Rattle.kb_layout.specs.Layout.{scope_of}
use Rattle.kb_layout.proofs.shape.wrong_elements.Given as goal

-- those that are left decide
abbrev pub invariant-loop-scope : goal.invariant-loop-scope
invariant-loop-scope l =
    unread (each scope_of (listed (items_view (drop l.scope l.elements))))
    ≡ unread (each scope_of (listed (items_view l.elements)))
