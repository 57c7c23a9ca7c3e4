-- What was read of the files in extension directories.
use Rattle.std.proofs.Common.{◌<◌, ◌≤◌, ◌+◌, ◌++◌, ◌∙◌, List, [], ◌∷◌, ℕ, drop, length, map, get_or, sym, ap, subst, inr, append-nil, append_assoc}
use Rattle.std.proofs.lemmas.List.{drop_more, drop_all, map-append}
use Rattle.std.specs.Borrow.{Bor}
use Rattle.std.specs.Prelude.{Option, Ok, option_map}
use Rattle.kb_files.specs.Extensions.{ExtensionBytes}
use Rattle.kb_base.specs.declared.failure.Failure.{Failure}
use Rattle.kb_disk.specs.CannotRead.{path_in}
use Rattle.kb_disk.proofs.FilesLemmas.{had_if_there, had_read}
use Rattle.kb_disk.specs.Files.{Held, HasManifest}
use Rattle.kb_disk.specs.declared.cannot_read.CannotRead.{CannotRead}
use Rattle.kb_disk.specs.declared.cannot_read.DirFile.TheVariants.{Package, Handlers}
use Rattle.kb_disk.specs.Directory.{HandlersRead, HasDirectories, HasDirectory, HasPackage, FailsAtHandlers}
use Rattle.kb_disk.specs.Directory.{FailsInDirectories, FailsInDirectory}

pub had_package : {B : Type 0} (held : List ℕ → Held) (view : B → List ℕ) (dir : Bor (List ℕ)) (got : B)
    → HasManifest held view dir (Ok got) → HasPackage held dir (view got)
had_package held view dir got has = had_read (held (path_in dir.now Package)) view got has

pub had_handlers : {B : Type 0} (held : List ℕ → Held) (view : B → List ℕ) (dir : Bor (List ℕ))
    (got : Option B) → HandlersRead held view dir got
    → HandlersRead {B = List ℕ} held (λ bytes. bytes) dir (option_map view got)
had_handlers held view dir got has = had_if_there (held (path_in dir.now Handlers)) view got has

-- the manifest was read, and the handlers cannot be read
pub fails_at_handlers : {B : Type 0} (held : List ℕ → Held) (view : B → List ℕ)
    (dir : Bor (List ℕ)) (got : B) (failure : Failure CannotRead) → HasManifest held view dir (Ok got)
    → FailsAtHandlers held dir failure → FailsInDirectory held dir failure
fails_at_handlers held view dir got failure has fails = inr ((view got, had_package held view dir got has), fails)

pub ruleset directory = (had_package, had_handlers, fails_at_handlers)

-- a directory, and then the later ones
pub directories_more : {R : Type 0} (held : List ℕ → Held) (view : R → ExtensionBytes)
    (dirs : List (Bor (List ℕ))) (i : ℕ) (d : Bor (List ℕ)) (read : List R) (got : R) → i < length dirs
    → HasDirectory held (get_or dirs i d) (view got)
    → ((rest : List ExtensionBytes) → HasDirectories held (drop i dirs) rest
    → HasDirectories held dirs (map view read ++ rest))
    → (rest : List ExtensionBytes) → HasDirectories held (drop (i + 1) dirs) rest
    → HasDirectories held dirs (map view (read ++ got ∷ []) ++ rest)
directories_more held view dirs i d read got below has those rest others =
    let all = those (view got ∷ rest) (rw (drop_more dirs i d below) (has, others)) in
    subst (HasDirectories held dirs) (sym (ap (λ xs. xs ++ rest) (map-append view read (got ∷ []))
    ∙ append_assoc (map view read) (view got ∷ []) rest)) all

-- all directories, where none is left
pub directories_end : (held : List ℕ → Held) (dirs : List (Bor (List ℕ))) (i : ℕ)
    (read : List ExtensionBytes) → length dirs ≤ i
    → ((rest : List ExtensionBytes) → HasDirectories held (drop i dirs) rest
    → HasDirectories held dirs (read ++ rest))
    → HasDirectories held dirs read
directories_end held dirs i read past those =
    subst (HasDirectories held dirs) (append-nil read) (those [] (rw (drop_all i dirs past) tt))

-- a later directory has a file that cannot be read
pub fails_later : {R : Type 0} (held : List ℕ → Held) (view : R → ExtensionBytes)
    (dirs : List (Bor (List ℕ))) (i : ℕ) (d : Bor (List ℕ)) (got : R) (failure : Failure CannotRead)
    → i < length dirs
    → HasDirectory held (get_or dirs i d) (view got) → FailsInDirectories held (drop (i + 1) dirs) failure
    → FailsInDirectories held (drop i dirs) failure
fails_later held view dirs i d got failure below has why =
    rw (drop_more dirs i d below) (inr ((view got, has), why))
