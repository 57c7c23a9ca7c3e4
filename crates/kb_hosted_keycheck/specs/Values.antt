-- Files by their paths, the words of a command line, and what a run wrote.
use Rattle.std.specs.Prelude.{ℕ, List}
use Rattle.std.specs.Ordering.{nat_cmp}
use Rattle.std.specs.Cmp.Lexicographic.{slice_cmp}
use Rattle.std.specs.FinMap.{FinMap}

pub record DeskData : Type 0 where
  pub files : FinMap (slice_cmp nat_cmp) (List ℕ)
  pub words : List (List ℕ)
  pub output : List ℕ
  pub errors : List ℕ
  pub status : ℕ
