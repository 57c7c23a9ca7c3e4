-- Places of values in a text.
use Rattle.std.specs.Prelude.{◌≡◌, ℕ, List, [], ◌∷◌, ◌&&◌, false, length, nat_le, slice_index, slice_range}
use Rattle.std.specs.Prelude.{if◌then◌else◌, Option, Some, option_and_then}
use Rattle.serde_json.specs.Data.{Data}
use Rattle.serde_json.specs.Find.{get, at}
use Rattle.serde_json.specs.Read.{read}
use Rattle.kb_base.specs.Blank.{is_blank}
use Rattle.kb_places.specs.declared.path.Step.{Step}
use Rattle.kb_places.specs.declared.path.Step.TheVariants.{Member, Item}
use Rattle.kb_places.specs.declared.span.Span.{Span}

-- the bytes of a part of a text, none where the text has no such part
unfoldable pub part_of : List ℕ → Span → List ℕ
part_of text span =
    if nat_le span.begin span.end && nat_le span.end (length text) then slice_range text span.begin span.end
    else []

-- the value behind a step, if there is one: the member of a name, or the item at a place
abbrev pub behind : Step → Data → Option Data
behind (Member name) d = get name.now d
behind (Item place) d = at place d

-- the value at a path, if there is one
abbrev pub at_path : List Step → Data → Option Data
at_path [] d = Some d
at_path (step ∷ path) d = option_and_then (at_path path) (behind step d)

-- a step as plain data: the member of a name, or the item at a place
pub data StepData : Type 0 where
  member : List ℕ → StepData
  item : ℕ → StepData

abbrev pub step_data : Step → StepData
step_data (Member name) = member name.now
step_data (Item place) = item place

-- the value at a path is what is read from this part of a text, which begins with the value's own first byte
pub record StandsAt (text : List ℕ) (value : Data) (path : List Step) (span : Span) : Type 0 where
  pub held : Data
  pub found : at_path path value ≡ Some held
  pub is_read : read (part_of text span) ≡ Some held
  pub begins : is_blank (slice_index text span.begin) ≡ false
