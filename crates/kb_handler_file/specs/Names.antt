-- Duplicate names.
use Rattle.std.specs.Prelude.{ℕ, List, [], ◌∷◌, Bool, false, ◌||◌, bytes_eq}
use Rattle.std.specs.List.{list_any}
use denote.Ref.{Bor}

-- two of the names are the same
abbrev pub repeats : List (List ℕ) → Bool
repeats [] = false
repeats (name ∷ names) = list_any (λ other. bytes_eq other name) names || repeats names

-- a borrowed name
abbrev pub Name : Type 0
Name = Bor (List ℕ)

-- the name is one of those in the list
abbrev pub is_seen : List Name → List ℕ → Bool
is_seen names name = list_any (λ k. bytes_eq name k.now) names

-- one of the remaining names was seen before, or two of them are the same
abbrev pub repeats_behind : List Name → List (List ℕ) → Bool
repeats_behind above names = list_any (is_seen above) names || repeats names
