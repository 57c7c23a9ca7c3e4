use Rattle.std.proofs.Common.{◌≡◌, ◌++◌, take, drop}
use Rattle.kb_handler_table.specs.Live.{Group, with_group}
use Rattle.kb_handler_table.proofs.code_table.place_for.Given as goal

-- a group of the extension belongs after the checked ones
abbrev pub invariant-loop-place : goal.invariant-loop-place
invariant-loop-place l =
    (g : Group) → g.extension ≡ l.extension
    → with_group g l.groups ≡ take l.place l.groups ++ with_group g (drop l.place l.groups)
