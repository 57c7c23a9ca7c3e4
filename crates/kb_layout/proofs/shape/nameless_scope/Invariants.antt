use Rattle.std.proofs.Common.{◌≡◌, codes, drop}
use Rattle.std.specs.List.{list_any}
use Rattle.serde_json.specs.View.{items_view}
use Rattle.kb_jsonc.specs.Parts.{lacks, listed}
use Rattle.kb_layout.proofs.shape.nameless_scope.Given as goal

-- those that are left give the same
abbrev pub invariant-loop-scope : goal.invariant-loop-scope
invariant-loop-scope l =
    list_any (lacks (codes "name")) (listed (items_view (drop l.scope l.scopes)))
    ≡ list_any (lacks (codes "name")) (listed (items_view l.scopes))
