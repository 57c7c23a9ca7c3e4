-- Lines that a writer gets. Its bytes are known (`Some`) for a writer over memory, and unknown (`None`) for a
-- file or a pipe.
use Rattle.std.specs.Prelude.{◌≡◌, ◌≤◌, ◌++◌, ◌∷◌, [], ℕ, List, Option, Some}
use Rattle.std.specs.Io.KnownBytes.{Appends}
use Rattle.serde_json.specs.Data.{Data, depth}
use Rattle.serde_json.specs.Read.{max_depth, read}

-- the writer got a line, and this is so of the line
pub record WritesLine (Is : List ℕ → Type 0) (old new : Option (List ℕ)) : Type 0 where
  pub line : List ℕ
  pub is : Is line
  pub got : Appends old new (line ++ 10 ∷ [])

-- a line is the JSON of a value, unless that nests deeper than what is read
unfoldable pub IsJson : Data → List ℕ → Type 0
IsJson d line = depth d ≤ max_depth → read line ≡ Some d
