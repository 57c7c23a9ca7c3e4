use Rattle.std.proofs.Common.{◌≡◌, drop, map}
use Rattle.std.specs.List.{list_any}
use Rattle.std.specs.Prelude.{slice_get}
use Rattle.kb_handler_table.specs.Live.{names_one}
use Rattle.kb_handler_table.proofs.group.calls_one.Given as goal

-- the remaining callees give the result
abbrev pub invariant-loop-callee : goal.invariant-loop-callee
invariant-loop-callee l =
    list_any (λ n. names_one l.own.codes.handlers (slice_get l.handler.calls n))
    (map (λ c. c.index) (drop l.callee-index l.callees))
    ≡ list_any (λ n. names_one l.own.codes.handlers (slice_get l.handler.calls n))
    (map (λ c. c.index) l.callees)
