-- The numbers of the texts that a host reads.
use Rattle.std.specs.Prelude.{ℕ, Option, Some, None, ◌==◌, if◌then◌else◌}
use Rattle.kb_engine.specs.declared.part.Part.{Part}
use Rattle.kb_engine.specs.declared.part.Part.TheVariants as part

-- the part that a number stands for
abbrev pub part_numbered : ℕ → Option Part
part_numbered n =
    if n == 0 then Some part.Trace
    else (if n == 1 then Some part.Notice
    else (if n == 2 then Some part.Chord
    else (if n == 3 then Some part.Command
    else (if n == 4 then Some part.Arguments
    else (if n == 5 then Some part.Source
    else (if n == 6 then Some part.Before
    else (if n == 7 then Some part.After
    else (if n == 8 then Some part.Step
    else (if n == 9 then Some part.Keys else None)))))))))
