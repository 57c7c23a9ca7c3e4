use Rattle.std.proofs.Common.{◌≡◌, ℕ, List, length, unwrap_or}
use Rattle.std.specs.FinMap.{get}
use Rattle.std.specs.Vec.Iter.{into_iter_items, into_iter_len}
use Rattle.kb_resolve.specs.Enablements.{enablement_of}
use Rattle.kb_resolve.proofs.enablements.Enablements.new.Given as goal

-- the enablement in the table, or else that of the remaining contributions, is the enablement of all
abbrev pub invariant-loop-contribution : goal.invariant-loop-contribution
invariant-loop-contribution l =
    (length (into_iter_items l.contribution-iterator) ≡ into_iter_len l.contribution-iterator)
    × ((command : List ℕ)
    → unwrap_or (get l.table command)
    (enablement_of (into_iter_items l.contribution-iterator) command)
    ≡ enablement_of l.fn.contributions.items command)
