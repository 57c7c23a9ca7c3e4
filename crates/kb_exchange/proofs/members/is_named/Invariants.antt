use Rattle.std.proofs.Common.{◌≡◌, drop}
use Rattle.std.specs.Prelude.{map}
use Rattle.std.specs.List.{list_any}
use Rattle.kb_exchange.specs.Says.{says}
use Rattle.kb_exchange.proofs.members.is_named.Given as goal

-- whether one of the names that are left is said is whether one of all is
abbrev pub invariant-loop-name : goal.invariant-loop-name
invariant-loop-name l =
    list_any (λ n. says n l.string) (map (λ n. n.now) (drop l.name-index l.names))
    ≡ list_any (λ n. says n l.string) (map (λ n. n.now) l.names)
