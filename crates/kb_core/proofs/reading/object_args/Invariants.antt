use Rattle.std.proofs.Common.{◌≡◌, ◌++◌, drop, map, option_map, length}
use Rattle.serde_json.specs.View.{view}
use Rattle.kb_core.specs.Reading.{object_args}
use Rattle.kb_core.proofs.reading.object_args.Given as goal

-- the arguments so far, with those of the parameters that are left
abbrev pub invariant-loop-param : goal.invariant-loop-param
invariant-loop-param g l =
    (option_map (λ rest. l.args ++ rest)
    (object_args (view l.object) (map g.P.Parameter.declares (drop l.param-index l.params)))
    ≡ object_args (view l.object) (map g.P.Parameter.declares l.params))
    × (length l.args ≡ l.param-index)
