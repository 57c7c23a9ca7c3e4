-- The hash of a text: a number below 1024.
use Rattle.std.specs.Prelude.{ℕ, ◌+◌, ◌*◌, ◌%◌, List, [], ◌∷◌}

-- the hash of a text behind one with the hash `hash`
abbrev pub hash_from : ℕ → List ℕ → ℕ
hash_from hash [] = hash
hash_from hash (byte ∷ more) = hash_from ((hash * 31 + byte) % 1024) more

unfoldable pub hash_of : List ℕ → ℕ
hash_of = hash_from 0
