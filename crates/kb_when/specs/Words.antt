-- Reserved words.
use Rattle.std.specs.Prelude.{ℕ, List, Bool, ◌||◌, if◌then◌else◌, codes}
use Rattle.std.specs.Str.{bytes_eq}
use Rattle.kb_when.specs.Clause.{Clause, key, equals, not_of}

abbrev pub the_true : List ℕ
the_true = codes "true"

abbrev pub the_false : List ℕ
the_false = codes "false"

abbrev pub the_in : List ℕ
the_in = codes "in"

abbrev pub the_not : List ℕ
the_not = codes "not"

abbrev pub is_truth : List ℕ → Bool
is_truth w = bytes_eq the_true w || bytes_eq the_false w

-- whether a word is reserved and so cannot be a key
abbrev pub is_reserved : List ℕ → Bool
is_reserved w = is_truth w || (bytes_eq the_in w || bytes_eq the_not w)

-- `k == v`, for an unquoted value v
abbrev pub is_equal : List ℕ → List ℕ → Clause
is_equal k v = if bytes_eq the_true v then key k
    else (if bytes_eq the_false v then not_of (key k) else equals k v)

-- `k != v`, for an unquoted value v
abbrev pub is_unequal : List ℕ → List ℕ → Clause
is_unequal k v = if bytes_eq the_true v then not_of (key k)
    else (if bytes_eq the_false v then key k else not_of (equals k v))
