use Rattle.std.proofs.Common.{◌≡◌, drop}
use Rattle.serde_json.specs.View.{view}
use Rattle.kb_places.specs.Place.{at_path}
use Rattle.kb_places.proofs.path.value_at.Given as goal

-- what is behind the steps that are left is what is at the path
abbrev pub invariant-loop-step : goal.invariant-loop-step
invariant-loop-step l = at_path (drop l.step-index l.path) (view l.found) ≡ at_path l.fn.path (view l.fn.value)
