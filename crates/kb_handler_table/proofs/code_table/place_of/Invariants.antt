use Rattle.std.proofs.Common.{◌≡◌, ◌++◌, take, drop}
use Rattle.kb_handler_table.specs.Live.{Group, changed, group_of, without_group}
use Rattle.kb_handler_table.proofs.code_table.place_of.Given as goal

-- none of the checked groups is the extension's
abbrev pub invariant-loop-place : goal.invariant-loop-place
invariant-loop-place l =
    (group_of l.extension l.groups ≡ group_of l.extension (drop l.place l.groups))
    × (without_group l.extension l.groups
    ≡ take l.place l.groups ++ without_group l.extension (drop l.place l.groups))
    × ((change : Group → Group) → changed change l.extension l.groups
    ≡ take l.place l.groups ++ changed change l.extension (drop l.place l.groups))
