use Rattle.std.proofs.Common.{List, ◌++◌, map, drop}
use Rattle.kb_files.specs.Extensions.{ExtensionBytes}
use Rattle.kb_base.specs.declared.failure.Failure.{Failure}
use Rattle.kb_disk.specs.declared.cannot_read.CannotRead.{CannotRead}
use Rattle.kb_disk.specs.Directory.{HasDirectories, FailsInDirectories}
use Rattle.kb_files.specs.SourceFiles.{bytes_of_extension}
use Rattle.kb_disk.proofs.load_files.read_directories.Given as goal

-- the directories that are left complete the list, and a failure in them is a failure in the list
abbrev pub invariant-loop-dir : goal.invariant-loop-dir
invariant-loop-dir g l =
    let held = g.F.FileSource.held l.files in
    ((rest : List ExtensionBytes) → HasDirectories held (drop l.dir-index l.dirs) rest
    → HasDirectories held l.dirs (map bytes_of_extension l.sources.items ++ rest))
    × ((failure : Failure CannotRead) → FailsInDirectories held (drop l.dir-index l.dirs) failure
    → FailsInDirectories held l.dirs failure)
