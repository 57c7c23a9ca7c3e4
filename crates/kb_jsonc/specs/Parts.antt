-- The parts of a JSON value, and reading that gives something or nothing.
use Rattle.std.specs.Prelude.{ℕ, List, [], ◌∷◌, map, Option, Some, None, option_map, option_and_then}
use Rattle.std.specs.Prelude.{Bool, ◌&&◌, is_none, is_some, bytes_eq, if◌then◌else◌}
use Rattle.serde_json.specs.Data.{Data, Items, no_items, item, Members, no_members, member}
use Rattle.serde_json.specs.Find.{get, as_array, as_object, as_str}

infixl 10 ◌>>=◌
abbrev pub ◌>>=◌ : {A B : Type 0} → Option A → (A → Option B) → Option B
o >>= f = option_and_then f o

-- what is read of each, if something is read of every one
abbrev pub each : {A B : Type 0} → (A → Option B) → List A → Option (List B)
each read [] = Some []
each read (x ∷ xs) = read x >>= λ y. option_map (λ ys. y ∷ ys) (each read xs)

-- what is read of a member, or the default where it is absent
abbrev pub optional : {A : Type 0} → A → (Data → Option A) → Option Data → Option A
optional default read None = Some default
optional default read (Some d) = read d

-- items as a list
abbrev pub listed : Items → List Data
listed no_items = []
listed (item d ds) = d ∷ listed ds

-- the elements of the list that a value is
abbrev pub elements_of : Data → Option (List Data)
elements_of d = option_map listed (as_array d)

-- the texts that the elements of a list are
abbrev pub texts_of : Data → Option (List (List ℕ))
texts_of d = elements_of d >>= each as_str

abbrev pub if_filled : List ℕ → Option (List ℕ)
if_filled [] = None
if_filled (b ∷ bs) = Some (b ∷ bs)

-- the text that a value is, if it isn't empty
abbrev pub word_of : Data → Option (List ℕ)
word_of d = as_str d >>= if_filled

-- the names and the values of members, in order
abbrev pub pairs_of : Members → List (List ℕ × Data)
pairs_of no_members = []
pairs_of (member name d ms) = (name, d) ∷ pairs_of ms

abbrev pub names_of : Members → List (List ℕ)
names_of ms = map (λ m. m.0) (pairs_of ms)

-- the members without the one of a name; an object has each name once
abbrev pub without_member : List ℕ → Members → Members
without_member name no_members = no_members
without_member name (member other d ms) =
    if bytes_eq name other then ms else member other d (without_member name ms)

-- an object without a member; what is no object lacks none
abbrev pub lacks : List ℕ → Data → Bool
lacks name d = is_some (as_object d) && is_none (get name d)
