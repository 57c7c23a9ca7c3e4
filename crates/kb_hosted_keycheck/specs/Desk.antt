-- What a desk does: it keeps files, and runs `keycheck` over them.
use Rattle.std.specs.Prelude.{◌≡◌, ◌≤◌, ℕ, List, [], Option, Some, None, nat_eq, if◌then◌else◌}
use Rattle.std.specs.FinMap.{FinMap, empty, get}
use Rattle.std.specs.Ordering.{nat_cmp}
use Rattle.std.specs.Cmp.Lexicographic.{slice_cmp}
use Rattle.std.specs.declared.io.ErrorKind.TheVariants.{NotFound}
use Rattle.kb_disk.specs.Files.{Held, refuses, holds}
use Rattle.kb_keycheck.specs.Ends.{RunsLine}
use Rattle.kb_hosted_keycheck.specs.Values.{DeskData}

-- a file of these bytes, or none
abbrev pub held_of : Option (List ℕ) → Held
held_of None = refuses NotFound
held_of (Some bytes) = holds bytes

-- what there is at a path among files in memory
abbrev pub held_in : FinMap (slice_cmp nat_cmp) (List ℕ) → List ℕ → Held
held_in files path = held_of (get files path)

abbrev pub new_desk : DeskData
new_desk = record { files = empty; words = []; output = []; errors = []; status = 0 }

-- the words are gone, and the status is that of `keycheck` for them over the files
pub record Runs (old new : DeskData) : Type 0 where
  pub files : new.files ≡ old.files
  pub words : new.words ≡ []
  pub runs : RunsLine (held_in old.files) old.words new.status
  pub table : new.status ≤ 4

-- what a run wrote to a stream
abbrev pub written : ℕ → DeskData → List ℕ
written stream desk = if nat_eq stream 0 then desk.output else (if nat_eq stream 1 then desk.errors else [])
