use Rattle.std.proofs.Common.{◌≡◌, ◌++◌, drop, map, length}
use Rattle.kb_core.specs.Arg.{empty_of}
use Rattle.kb_core.proofs.reading.empty_args.Given as goal

abbrev pub invariant-loop-param : goal.invariant-loop-param
invariant-loop-param g l =
    (l.args ++ map (λ p. empty_of p.kind) (map g.P.Parameter.declares (drop l.param-index l.params))
    ≡ map (λ p. empty_of p.kind) (map g.P.Parameter.declares l.params))
    × (length l.args ≡ l.param-index)
