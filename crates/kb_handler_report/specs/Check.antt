-- What a check of the handlers in directories returns, by what the files in them hold.
use Rattle.std.specs.Prelude.{◌≡◌, ◌≤◌, ◌↔◌, ◌⊎◌, ℕ, Bool, List, None, Result, Ok, Err, IsTrue, length, map}
use Rattle.std.specs.Borrow.{Bor}
use Rattle.kb_disk.specs.Files.{Held}
use Rattle.kb_files.specs.Identifiers.{identifier_fault}
use Rattle.kb_handler_report.specs.Extension.{names_of}
use Rattle.kb_handler_report.specs.Files.{HasExtensions}
use Rattle.kb_handler_report.specs.Judgement.{AllOfExtensions}
use Rattle.kb_handler_report.specs.Stop.{IsOfWriting}
use Rattle.kb_handler_report.specs.Stopping.{StopsReading}
use Rattle.kb_handler_report.specs.declared.extension.ExtensionCode.{ExtensionCode}
use Rattle.kb_handler_report.specs.declared.stop.Stop.{Stop}
use Rattle.kb_handler_report.specs.declared.stop.Stop.TheVariants.{NotWritten}

-- these are the extensions of exactly these directories, at most 100, without a fault of their identifiers
pub record AreRead (held : List ℕ → Held) (dirs : List (Bor (List ℕ))) (read : List ExtensionCode)
    : Type 0 where
  pub few : length dirs ≤ 100
  pub extensions : HasExtensions held dirs read
  pub names : identifier_fault (map names_of read) ≡ None

-- the extensions were read, and the answer is yes exactly if all their handlers are accepted
pub record HasChecked (held : List ℕ → Held) (dirs : List (Bor (List ℕ))) (all : Bool) : Type 0 where
  pub read : List ExtensionCode
  pub are_read : AreRead held dirs read
  pub accepted : IsTrue all ↔ AllOfExtensions read

-- the extensions were read, and the report on them was not written, or memory was refused
pub record StopsWriting (held : List ℕ → Held) (dirs : List (Bor (List ℕ))) (stop : Stop) : Type 0 where
  pub read : List ExtensionCode
  pub are_read : AreRead held dirs read
  pub of_writing : IsOfWriting stop

-- why a check stopped
abbrev pub Stops : (List ℕ → Held) → List (Bor (List ℕ)) → Stop → Type 0
Stops held dirs stop = StopsReading held dirs stop ⊎ StopsWriting held dirs stop

-- ---- for private functions

-- the end of a check whose report was not written
abbrev pub unwritten : Result Bool Stop → Result Bool Stop
unwritten (Ok all) = Err NotWritten
unwritten (Err stop) = Err stop
