-- Loops over handlers and extensions.
use Rattle.std.proofs.Common.{◌≡◌, ◌<◌, ◌↔◌, ℕ, ◌+◌, Bool, true, false, ◌&&◌, List, length, get_or, take, refl, sym, subst}
use Rattle.std.specs.Prelude.{All, IsTrue}
use Rattle.std.proofs.lemmas.Bool.{false≢true}
use Rattle.std.proofs.lemmas.List.Elements.{All-more}

both : (a b : Bool) → IsTrue a → IsTrue b → IsTrue (a && b)
both true b e f = f
both false b e f = absurd (false≢true e)

parts : (a b : Bool) → IsTrue (a && b) → IsTrue a × IsTrue b
parts true b e = (refl, e)
parts false b e = absurd (false≢true e)

module _ {X : Type 0} (P : X → Type 0) where
  -- if the first elements hold, and one more does
  pub one_more : (xs : List X) (i : ℕ) (x : X) (all one : Bool) → i < length xs → x ≡ get_or xs i x
      → (IsTrue all → All P (take i xs)) → IsTrue one ↔ P x → IsTrue (all && one) → All P (take (i + 1) xs)
  one_more xs i x all one lt at so tells e =
      let p = parts all one e in
      All-more P xs i x lt (so p.0) (subst P at (tells.0 p.1))

  -- if all hold, one more does
  pub all_hold : (xs : List X) (i : ℕ) (x : X) (all one : Bool) → i < length xs → x ≡ get_or xs i x
      → (All P xs → IsTrue all) → IsTrue one ↔ P x → All P xs → IsTrue (all && one)
  all_hold xs i x all one lt at so tells h =
      both all one (so h) (tells.1 (subst P (sym at) (h i x lt)))
