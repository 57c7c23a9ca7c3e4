-- The possible results of running a native command.
use Rattle.std.specs.Prelude.{◌≡◌, ◌≤◌, List}
use Rattle.std.specs.Result.{ForOk, ForErr}
use Rattle.kb_core.specs.declared.arg.Arg.{Arg}
use Rattle.kb_core.specs.declared.native.Native.{Native}
use Rattle.kb_core.specs.declared.run.Ran.{Ran}
use Rattle.kb_core.specs.Core.{Core, core_after}
use Rattle.kb_core.specs.Native.{budget_of}

-- the core after the native, within its budget, or the unchanged core if memory ran out
abbrev pub Does : Native → Core → List Arg → Ran → Type 0
Does native core args ran =
    ForOk ran.cost (λ cost. (ran.core ≡ core_after native args core) × (cost ≤ budget_of native))
    × ForErr ran.cost (λ _. ran.core ≡ core)
