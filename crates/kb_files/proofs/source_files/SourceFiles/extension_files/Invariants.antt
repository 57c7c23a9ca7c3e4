use Rattle.std.proofs.Common.{◌≡◌, map, take}
use Rattle.kb_files.specs.Extensions.{extension_bytes}
use Rattle.kb_files.specs.SourceFiles.{bytes_of_extension}
use Rattle.kb_files.proofs.source_files.SourceFiles.extension_files.Given as goal

abbrev pub invariant-loop-source : goal.invariant-loop-source
invariant-loop-source l =
    map extension_bytes l.files.items ≡ map bytes_of_extension (take l.source-index l.self.extensions)
