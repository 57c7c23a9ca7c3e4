-- Files that were read, and files of directories that could not be read.
use Rattle.std.proofs.Common.{ℕ, List, refl, subst, sym}
use Rattle.std.specs.Borrow.{Bor}
use Rattle.std.specs.Prelude.{Option, None, Some, Ok, Err, option_map}
use Rattle.kb_base.specs.declared.failure.Failure.{Failure}
use Rattle.kb_base.specs.declared.failure.Failure.TheVariants.{Fault, NoMemory}
use Rattle.kb_disk.specs.Files.{Held, unknown, refuses, holds, GivesIfThere, HasIfThere, HasRead, failure_in}
use Rattle.kb_disk.specs.Files.{FailsAt, FailsReadingIn, MustRead}
use Rattle.kb_disk.specs.declared.cannot_read.CannotRead.{CannotRead}
use Rattle.kb_disk.specs.declared.cannot_read.DirFile.{DirFile}
use Rattle.kb_disk.specs.declared.cannot_read.DirFile.TheVariants.{Package, Handlers}
use Rattle.kb_stream.specs.declared.reading.ReadFault.{ReadFault}

-- what was read, with the bytes in place of a view of them
pub had_read : {B : Type 0} (held : Held) (view : B → List ℕ) (got : B) → HasRead held view (Ok got)
    → HasRead {B = List ℕ} held (λ bytes. bytes) (Ok (view got))
had_read unknown view got has = has
had_read (refuses kind) view got has = has
had_read (holds bytes) view got has = has

pub had_if_there : {B : Type 0} (held : Held) (view : B → List ℕ) (got : Option B) → GivesIfThere held view got
    → GivesIfThere {B = List ℕ} held (λ bytes. bytes) (option_map view got)
had_if_there held view None has = has
had_if_there held view (Some got) has = had_read held view got has

-- a manifest at its path could not be read
pub manifest_fails : {B : Type 0} (held : Held) (view : B → List ℕ) (dir : Bor (List ℕ)) (failed : Failure ReadFault)
    → HasRead held view (Err failed) → FailsAt Package held dir (failure_in dir Package failed)
manifest_fails unknown view dir failed has =
    record { must_read = tt; failed = failed; reading = has; failure_is = refl }
manifest_fails (refuses kind) view dir failed has =
    record { must_read = tt; failed = failed; reading = has; failure_is = refl }
manifest_fails (holds bytes) view dir failed has =
    record { must_read = tt; failed = failed; reading = has; failure_is = refl }

-- handlers at their path exist and could not be read
pub handlers_fail : {B : Type 0} (held : Held) (view : B → List ℕ) (dir : Bor (List ℕ)) (failed : Failure ReadFault)
    → HasIfThere {B = B} held view (Err failed) → FailsAt Handlers held dir (failure_in dir Handlers failed)
handlers_fail held view dir failed has =
    record { must_read = has.0; failed = failed; reading = has.1; failure_is = refl }

-- a file of a directory could not be read
unread_as : (file : DirFile) (held : Held) (dir : Bor (List ℕ)) (failed : Failure ReadFault) → MustRead file held
    → HasRead {B = List ℕ} held (λ bytes. bytes) (Err failed)
    → FailsReadingIn file held dir (failure_in dir file failed)
unread_as file held dir NoMemory must has = tt
unread_as file held dir (Fault fault) must has = (refl, refl, must, (fault, has))

pub unread_in : (file : DirFile) (held : Held) (dir : Bor (List ℕ)) (failure : Failure CannotRead)
    → FailsAt file held dir failure → FailsReadingIn file held dir failure
unread_in file held dir failure fails =
    subst (FailsReadingIn file held dir) (sym fails.failure_is)
    (unread_as file held dir fails.failed fails.must_read fails.reading)

-- memory may be refused behind what was read
pub refused_behind : {B C : Type 0} (held : Held) (view : B → List ℕ) (other : C → List ℕ) (got : B)
    → HasRead held view (Ok got) → HasRead {B = C} held other (Err NoMemory)
refused_behind unknown view other got has = tt
refused_behind (refuses kind) view other got has = absurd has
refused_behind (holds bytes) view other got has = tt
