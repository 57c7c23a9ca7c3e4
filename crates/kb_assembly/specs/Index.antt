-- Where names are in a list.
use Rattle.std.specs.Prelude.{◌≡◌, ℕ, List, Option}
use Rattle.std.specs.HashMap.{get_by_text}
use Rattle.kb_assembly.specs.declared.index.Index.{Index}
use Rattle.kb_assembly.specs.Places.{place_in}

-- the place that an index has for a name
unfoldable pub number_in : Index → List ℕ → Option ℕ
number_in index name = get_by_text index.numbers name

-- an index of names has the place of the first of each name
abbrev pub IsIndex : Index → List (List ℕ) → Type 0
IsIndex index names = (name : List ℕ) → number_in index name ≡ place_in 0 names name
