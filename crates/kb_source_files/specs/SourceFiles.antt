-- The bytes of files with paths, and which file an entry or a fault is of.
use Rattle.std.specs.Prelude.{ℕ, List, [], Option, Some, None, option_map, slice_get}
use Rattle.std.specs.Option.{option_map_or, option_and_then}
use Rattle.kb_base.specs.declared.note.Origin.{Origin}
use Rattle.kb_base.specs.declared.note.Origin.TheVariants as origin
use Rattle.kb_files.specs.Extensions.{ExtensionBytes}
use Rattle.kb_files.specs.declared.fault.LoadFile.{LoadFile}
use Rattle.kb_files.specs.declared.fault.LoadFile.TheVariants as file
use Rattle.kb_source_files.specs.declared.source_files.ExtensionSource.{ExtensionSource}
use Rattle.kb_source_files.specs.declared.source_files.SourceFile.{SourceFile}
use Rattle.kb_source_files.specs.declared.source_files.SourceFiles.{SourceFiles}

-- the bytes of a file, if there is one
abbrev pub bytes_of : Option SourceFile → Option (List ℕ)
bytes_of = option_map (λ file. file.bytes.now)

-- the same, none without a file
abbrev pub bytes_in : Option SourceFile → List ℕ
bytes_in file = option_map_or (λ file. file.bytes.now) file []

abbrev pub bytes_of_extension : ExtensionSource → ExtensionBytes
bytes_of_extension source = record {
  manifest = source.package.bytes.now;
  handlers = bytes_of source.handlers;
}

-- the file that entries of an origin are read from
abbrev pub file_of_origin : SourceFiles → Origin → Option SourceFile
file_of_origin files origin.Defaults = files.defaults
file_of_origin files (origin.Extension number) =
    option_map (λ source. source.package) (slice_get files.extensions.now number)
file_of_origin files origin.User = files.user

-- the file that a refused load names
abbrev pub file_of : SourceFiles → LoadFile → Option SourceFile
file_of files file.Layout = files.layout
file_of files file.Defaults = files.defaults
file_of files file.User = files.user
file_of files (file.Package number) =
    option_map (λ source. source.package) (slice_get files.extensions.now number)
file_of files (file.Handlers number) =
    option_and_then (λ source. source.handlers) (slice_get files.extensions.now number)
file_of files file.Extensions = None
file_of files file.Natives = None
