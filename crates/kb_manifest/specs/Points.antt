-- What the contribution points of a manifest hold, entry by entry.
use Rattle.std.specs.Prelude.{List, [], ◌∷◌, Option, Some, None, codes}
use Rattle.serde_json.specs.Data.{Data, Members, null, boolean, number, string, array, object}
use Rattle.serde_json.specs.Find.{get, get_member, as_object}
use Rattle.serde_json.specs.View.{items_view}
use Rattle.kb_manifest.specs.declared.points.Points.{Points}
use Rattle.kb_jsonc.specs.Parts.{◌>>=◌, optional, listed}

pub record Held : Type 0 where
  pub commands : List Data
  pub keybindings : List Data
  pub palette : List Data

abbrev pub no_points : Held
no_points = record { commands = []; keybindings = []; palette = [] }

-- the entries of a point: the elements of a list; an object alone is read as a list of one
abbrev pub entries_of : Data → Option (List Data)
entries_of null = None
entries_of (boolean b) = None
entries_of (number n) = None
entries_of (string s) = None
entries_of (array ds) = Some (listed ds)
entries_of (object ms) = Some (object ms ∷ [])

-- the entries of a point, none where its member is absent
unfoldable pub point_of : Option Data → Option (List Data)
point_of point = optional [] entries_of point

-- the palette's menu in the menus of a manifest
unfoldable pub palette_of : Data → Option (List Data)
palette_of menus = do
  members ← as_object menus
  point_of (get (codes "commandPalette") menus)

-- the palette's menu, none where the menus are absent
unfoldable pub menu_of : Option Data → Option (List Data)
menu_of menus = optional [] palette_of menus

-- what the contributions of a manifest hold, by their members
abbrev pub points_by : Members → Option Held
points_by ms = do
  commands ← point_of (get_member (codes "commands") ms)
  keybindings ← point_of (get_member (codes "keybindings") ms)
  palette ← menu_of (get_member (codes "menus") ms)
  Some (record { commands = commands; keybindings = keybindings; palette = palette })

-- what the contributions of a manifest hold
unfoldable pub points_in : Data → Option Held
points_in d = as_object d >>= points_by

-- the same, nothing where they are absent
unfoldable pub contributions_of : Option Data → Option Held
contributions_of d = optional no_points points_in d

-- the same of points that were taken out of a manifest
abbrev pub seen_points : Points → Held
seen_points points = record {
  commands = listed (items_view points.commands.items);
  keybindings = listed (items_view points.keybindings.items);
  palette = listed (items_view points.palette.items);
}
