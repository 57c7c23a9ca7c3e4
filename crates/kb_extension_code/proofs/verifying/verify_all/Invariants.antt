use Rattle.std.proofs.Common.{◌≡◌, ◌++◌, map}
use Rattle.std.specs.List.{All}
use Rattle.std.specs.Vec.Iter.{into_iter_items}
use Rattle.kb_extension_code.specs.declared.verifying.Rejection.{Rejection}
use Rattle.kb_extension_code.specs.Verified.{FirstIsRejected, IsVerified}
use Rattle.kb_extension_code.proofs.verifying.verify_all.Given as goal

-- the handlers so far are verified, and the first rejection among the remaining ones is the first of all
abbrev pub invariant-loop-handler : goal.invariant-loop-handler
invariant-loop-handler l =
    (map (λ v. v.handler) l.verified ++ into_iter_items l.handler-iterator ≡ l.fn.handlers)
    × All (IsVerified l.callable) l.verified
    × ((r : Rejection) → FirstIsRejected l.callable (into_iter_items l.handler-iterator) r
    → FirstIsRejected l.callable l.fn.handlers r)
