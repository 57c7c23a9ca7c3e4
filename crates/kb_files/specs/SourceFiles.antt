-- The files of a load with their paths: their bytes, and which of them an entry or a fault is of.
use Rattle.std.specs.Prelude.{ℕ, List, [], Option, None, map, option_map, unwrap_or, slice_get}
use Rattle.std.specs.Option.{option_and_then}
use Rattle.kb_base.specs.declared.note.Origin.{Origin}
use Rattle.kb_base.specs.declared.note.Origin.TheVariants as origin
use Rattle.kb_files.specs.Extensions.{ExtensionBytes}
use Rattle.kb_files.specs.Inputs.{Files}
use Rattle.kb_files.specs.declared.fault.LoadFile.{LoadFile}
use Rattle.kb_files.specs.declared.fault.LoadFile.TheVariants as file
use Rattle.kb_files.specs.declared.source_files.ExtensionSource.{ExtensionSource}
use Rattle.kb_files.specs.declared.source_files.SourceFile.{SourceFile}
use Rattle.kb_files.specs.declared.source_files.SourceFiles.{SourceFiles}
use Rattle.kb_keys.specs.declared.platform.Platform.TheVariants.{Linux}

abbrev pub no_sources : SourceFiles
no_sources = record { layout = None; defaults = None; user = None; platform = Linux; extensions = [] }

-- the bytes of a file, if there is one
abbrev pub bytes_of : Option SourceFile → Option (List ℕ)
bytes_of = option_map (λ file. file.bytes)

abbrev pub bytes_of_extension : ExtensionSource → ExtensionBytes
bytes_of_extension source = record {
  manifest = source.manifest.bytes;
  handlers = bytes_of source.handlers;
}

-- the bytes of all files; an absent file of rules is the empty text
abbrev pub files_in : SourceFiles → Files
files_in sources = record {
  layout = bytes_of sources.layout;
  defaults = unwrap_or (bytes_of sources.defaults) [];
  user = unwrap_or (bytes_of sources.user) [];
  platform = sources.platform;
  extensions = map bytes_of_extension sources.extensions;
}

-- the file that entries of an origin are read from
abbrev pub file_of_origin : SourceFiles → Origin → Option SourceFile
file_of_origin sources origin.Defaults = sources.defaults
file_of_origin sources (origin.Extension number) =
    option_map (λ source. source.manifest) (slice_get sources.extensions number)
file_of_origin sources origin.User = sources.user

-- the file that a refused load names
abbrev pub file_of : SourceFiles → LoadFile → Option SourceFile
file_of sources file.Layout = sources.layout
file_of sources file.Defaults = sources.defaults
file_of sources file.User = sources.user
file_of sources (file.Package number) =
    option_map (λ source. source.manifest) (slice_get sources.extensions number)
file_of sources (file.Handlers number) =
    option_and_then (λ source. source.handlers) (slice_get sources.extensions number)
file_of sources file.Extensions = None
file_of sources file.Natives = None
