-- The numbers of outcomes.
use Rattle.std.specs.Prelude.{ℕ, Option, Some, None, ◌==◌, if◌then◌else◌}
use Rattle.kb_engine.specs.declared.outcome.Outcome.{Outcome}
use Rattle.kb_engine.specs.declared.outcome.Outcome.TheVariants as outcome

-- the outcome that a number stands for
abbrev pub outcome_numbered : ℕ → Option Outcome
outcome_numbered n =
    if n == 0 then Some outcome.Done
    else (if n == 1 then Some outcome.OutOfOrder
    else (if n == 2 then Some outcome.Unknown
    else (if n == 3 then Some outcome.Refused
    else (if n == 5 then Some outcome.NoMemory
    else (if n == 6 then Some outcome.NoText
    else (if n == 7 then Some outcome.NotFound
    else (if n == 8 then Some outcome.BadArguments
    else (if n == 10 then Some outcome.NoKey
    else (if n == 97 then Some outcome.Stopped
    else (if n == 103 then Some outcome.Trapped else None))))))))))
