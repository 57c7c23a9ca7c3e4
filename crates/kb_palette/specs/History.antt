-- The history of choices.
use Rattle.std.specs.Prelude.{◌≡◌, ◌≤◌, ℕ, List, [], ◌∷◌, if◌then◌else◌, length, map, not, take}
use Rattle.std.specs.Prelude.{String, string_bytes}
use Rattle.std.specs.List.{filter}
use Rattle.std.specs.Str.{bytes_eq}
use Rattle.lru.specs.LruCache.{LruCache}

-- the texts without the first one that equals `text`
abbrev pub without : List ℕ → List (List ℕ) → List (List ℕ)
without text [] = []
without text (t ∷ ts) = if bytes_eq text t then ts else t ∷ without text ts

-- the history after a choice: the choice comes first, and at most 50 are kept
abbrev pub noted : List ℕ → List (List ℕ) → List (List ℕ)
noted text ts = take 50 (text ∷ without text ts)

-- the history after these choices, of which the last one stands first
abbrev pub history_of : List (List ℕ) → List (List ℕ)
history_of [] = []
history_of (text ∷ past) = noted text (history_of past)

-- the texts that don't equal `text`
abbrev pub others : List ℕ → List (List ℕ) → List (List ℕ)
others text = filter (λ t. not (bytes_eq text t))

-- each choice once, where it stands first
abbrev pub distinct : List (List ℕ) → List (List ℕ)
distinct [] = []
distinct (text ∷ past) = text ∷ others text (distinct past)

-- ---- for the history's model

-- the keys of a table, in its order
abbrev pub texts_of : {Z X : Type 0} → List (String Z × X) → List (List ℕ)
texts_of = map (λ e. string_bytes e.0)

-- the table has room for 50 entries, and holds no more
abbrev pub IsKept : {Z X : Type 0} → LruCache (String Z) X → Type 0
IsKept cache = (cache.cap ≡ 50) × (length cache.entries ≤ 50)
