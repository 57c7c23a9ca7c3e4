-- Whose problems are shown.
use Rattle.std.specs.Prelude.{ℕ, zero, suc, nat_eq, ◌==◌, List, [], ◌∷◌, length, slice_get, codes, bytes_eq}
use Rattle.std.specs.Prelude.{Bool, true, false, not, ◌&&◌, ◌||◌, if◌then◌else◌, Option, None, Some, is_some}
use Rattle.std.specs.List.{list_any, starts_with, ends_with}
use Rattle.std.specs.Option.{option_map_or}
use Rattle.kb_base.specs.ExtensionId.{same_id}
use Rattle.kb_files.specs.declared.fault.LoadFile.{LoadFile}
use Rattle.kb_files.specs.declared.fault.LoadFile.TheVariants as file
use Rattle.kb_source_files.specs.SourceFiles.{file_of}
use Rattle.kb_source_files.specs.declared.source_files.SourceFiles.{SourceFiles}

-- the word for a file
abbrev pub file_word : LoadFile → List ℕ
file_word file.Layout = codes "layout"
file_word file.Defaults = codes "defaults"
file_word file.User = codes "user"
file_word (file.Package number) = codes "extensions"
file_word (file.Handlers number) = codes "extensions"
file_word file.Extensions = codes "extensions"
file_word file.Natives = codes "natives"

-- the files that are asked for if none is named: the user's, else those of extensions, else the default rules
abbrev pub usual_word : SourceFiles → List ℕ
usual_word files =
    if is_some files.user then codes "user" else (
    if is_some (slice_get files.extensions.now 0) then codes "extensions" else (
    if is_some files.defaults then codes "defaults" else codes "layout"))

-- behind the name the path ends, or goes on in the folder
abbrev pub is_end : Option ℕ → Bool
is_end None = true
is_end (Some b) = b == 47

-- a path is this one, or in this folder
abbrev pub is_at : List ℕ → List ℕ → Bool
is_at name path = starts_with nat_eq path name
    && (ends_with nat_eq name (47 ∷ []) || is_end (slice_get path (length name)))

-- the identifier of the extension that a file is of
abbrev pub id_of : List (List ℕ) → LoadFile → Option (List ℕ)
id_of ids (file.Package number) = slice_get ids number
id_of ids (file.Handlers number) = slice_get ids number
id_of ids _ = None

-- a file is named by a word, by the identifier of its extension, by its path, or by a folder that it is in
abbrev pub names : SourceFiles → List (List ℕ) → LoadFile → List ℕ → Bool
names files ids f name =
    bytes_eq name (codes "all") || bytes_eq name (file_word f)
    || option_map_or (λ id. same_id id name) (id_of ids f) false
    || option_map_or (λ file. is_at name file.path.now) (file_of files f) false

-- a file is asked for, by these names
abbrev pub is_asked : SourceFiles → List (List ℕ) → List (List ℕ) → LoadFile → Bool
is_asked files ids [] f = bytes_eq (usual_word files) (file_word f)
is_asked files ids (name ∷ others) f = list_any (names files ids f) (name ∷ others)

-- ---- names that are of no file

-- there is such a file, and it has the name
abbrev pub is_there : SourceFiles → List (List ℕ) → List ℕ → LoadFile → Bool
is_there files ids name f = is_some (file_of files f) && names files ids f name

-- a file of the extension with this number has the name
abbrev pub is_of_one : SourceFiles → List (List ℕ) → List ℕ → ℕ → Bool
is_of_one files ids name number =
    is_there files ids name (file.Package number) || is_there files ids name (file.Handlers number)

-- a file of one of so many extensions has the name
abbrev pub is_of_extension : SourceFiles → List (List ℕ) → List ℕ → ℕ → Bool
is_of_extension files ids name zero = false
is_of_extension files ids name (suc number) =
    is_of_one files ids name number || is_of_extension files ids name number

-- the name is of no file
abbrev pub is_unknown : SourceFiles → List (List ℕ) → List ℕ → Bool
is_unknown files ids name = not (bytes_eq name (codes "all") || is_there files ids name file.Layout
    || is_there files ids name file.Defaults || is_there files ids name file.User
    || is_of_extension files ids name (length files.extensions.now))
