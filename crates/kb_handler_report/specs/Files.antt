-- What is read of the files of extensions, by what is at their paths.
use Rattle.std.specs.Prelude.{◌≡◌, ⊤, ℕ, List, [], ◌∷◌, Option, Some, None, Ok}
use Rattle.std.specs.Borrow.{Bor}
use Rattle.kb_code.specs.Handler.{HandlerData}
use Rattle.kb_disk.specs.CannotRead.{path_in}
use Rattle.kb_disk.specs.Files.{Held, GivesIfThere, HasRead}
use Rattle.kb_disk.specs.declared.cannot_read.DirFile.TheVariants.{Package, Handlers}
use Rattle.kb_files.specs.Extension.{outline_in}
use Rattle.kb_files.specs.HandlerFile.{handlers_in}
use Rattle.kb_manifest.specs.Manifest.{Outline}
use Rattle.kb_handler_report.specs.declared.extension.ExtensionCode.{ExtensionCode}

-- the identifier of an extension and those that it depends on, from the bytes of its manifest
pub record NamesIn (bytes : List ℕ) (id : List ℕ) (dependencies : List (List ℕ)) : Type 0 where
  pub outline : Outline
  pub outline_is : outline_in bytes ≡ Ok outline
  pub id_is : id ≡ outline.id
  pub dependencies_are : dependencies ≡ outline.dependencies

-- the handlers of an extension, from the bytes of their file, seen by view; None if there is no file
abbrev pub HandlersIn : {B : Type 0} → (B → List ℕ) → Option B → Option (List HandlerData) → Type 0
HandlersIn view None None = ⊤
HandlersIn view None (Some handlers) = ⊥
HandlersIn view (Some bytes) None = ⊥
HandlersIn view (Some bytes) (Some handlers) = handlers_in (view bytes) ≡ Ok handlers

-- the same of the manifest in a directory
pub record HasNames (held : List ℕ → Held) (dir : Bor (List ℕ)) (id : List ℕ) (dependencies : List (List ℕ))
    : Type 0 where
  pub bytes : List ℕ
  pub reads : HasRead {B = List ℕ} (held (path_in dir.now Package)) (λ got. got) (Ok bytes)
  pub names : NamesIn bytes id dependencies

-- the same of the handlers in a directory
pub record HasHandlers (held : List ℕ → Held) (dir : Bor (List ℕ)) (handlers : Option (List HandlerData))
    : Type 0 where
  pub bytes : Option (List ℕ)
  pub reads : GivesIfThere {B = List ℕ} (held (path_in dir.now Handlers)) (λ got. got) bytes
  pub lists : HandlersIn {B = List ℕ} (λ got. got) bytes handlers

-- an extension, from the files in its directory
pub record HasExtension (held : List ℕ → Held) (dir : Bor (List ℕ)) (e : ExtensionCode) : Type 0 where
  pub dir_is : e.dir ≡ dir.now
  pub names : HasNames held dir e.id e.dependencies
  pub handlers : HasHandlers held dir e.handlers

-- the same of several directories, in their order
abbrev pub HasExtensions : (List ℕ → Held) → List (Bor (List ℕ)) → List ExtensionCode → Type 0
HasExtensions held [] [] = ⊤
HasExtensions held [] (e ∷ rest) = ⊥
HasExtensions held (dir ∷ dirs) [] = ⊥
HasExtensions held (dir ∷ dirs) (e ∷ rest) = HasExtension held dir e × HasExtensions held dirs rest
