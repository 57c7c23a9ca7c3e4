use Rattle.std.proofs.Common.{◌≡◌, map, take}
use Rattle.kb_files.specs.SourceFiles as owned
use Rattle.kb_source_files.specs.SourceFiles.{bytes_of_extension}
use Rattle.kb_keycheck.proofs.files.extension_sources.Given as goal

abbrev pub invariant-loop-one : goal.invariant-loop-one
invariant-loop-one l =
    map bytes_of_extension l.sources.items ≡ map owned.bytes_of_extension (take l.one-index l.read.extensions)
