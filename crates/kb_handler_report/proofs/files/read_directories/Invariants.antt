use Rattle.std.proofs.Common.{List, ◌++◌, drop}
use Rattle.kb_handler_report.specs.Files.{HasExtensions}
use Rattle.kb_handler_report.specs.Stopping.{StopsInDirectories}
use Rattle.kb_handler_report.specs.declared.extension.ExtensionCode.{ExtensionCode}
use Rattle.kb_handler_report.specs.declared.stop.Stop.{Stop}
use Rattle.kb_handler_report.proofs.files.read_directories.Given as goal

-- the extensions in the directories that are left complete the list, and what stops in them stops in the list
abbrev pub invariant-loop-dir : goal.invariant-loop-dir
invariant-loop-dir g l =
    let held = g.F.FileSource.held l.files in
    ((rest : List ExtensionCode) → HasExtensions held (drop l.dir-index l.dirs) rest
    → HasExtensions held l.dirs (l.extensions.items ++ rest))
    × ((stop : Stop) → StopsInDirectories held (drop l.dir-index l.dirs) stop
    → StopsInDirectories held l.dirs stop)
