-- The bytes of a message.
use Rattle.std.specs.Prelude.{ℕ, List, [], ◌∷◌, ◌++◌, length, codes, decimal}

abbrev pub frame : List ℕ → List ℕ
frame body = (codes "Content-Length: " ++ decimal (length body) ++ 13 ∷ 10 ∷ 13 ∷ 10 ∷ []) ++ body
