-- The paths of files that could not be read.
use Rattle.std.specs.Prelude.{ℕ, List, ◌++◌, codes}
use Rattle.kb_disk.specs.declared.cannot_read.CannotRead.{CannotRead}
use Rattle.kb_disk.specs.declared.cannot_read.CannotRead.TheVariants.{File, InDirectory}
use Rattle.kb_disk.specs.declared.cannot_read.DirFile.{DirFile}
use Rattle.kb_disk.specs.declared.cannot_read.DirFile.TheVariants.{Package, Handlers}

-- the name of a file of an extension's directory
abbrev pub file_name : DirFile → List ℕ
file_name Package = codes "package.json"
file_name Handlers = codes "handlers.json"

-- its path
abbrev pub path_in : List ℕ → DirFile → List ℕ
path_in dir file = dir ++ (codes "/" ++ file_name file)

-- the path of a file that could not be read
abbrev pub path_of : CannotRead → List ℕ
path_of (File path) = path.now
path_of (InDirectory dir file) = path_in dir.now file
