use Rattle.std.proofs.Common.{◌≡◌, map, take}
use Rattle.kb_files.specs.Extensions.{extension_bytes}
use Rattle.kb_files.proofs.ExtensionsLemmas.{Reads}
use Rattle.kb_files.proofs.extensions.read_each.Given as goal

-- the extensions of the files so far
abbrev pub invariant-loop-bytes : goal.invariant-loop-bytes
invariant-loop-bytes l =
    Reads l.platform l.all l.number (map extension_bytes (take l.bytes-index l.extensions))
    × (l.number ≡ l.bytes-index)
