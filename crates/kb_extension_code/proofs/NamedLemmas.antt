-- An extension is at the place where its identifier finds it.
use Rattle.std.proofs.Common.{◌≡◌, ◌∙◌, sym, subst, ℕ, suc, ◌+◌, Bool, true, false, List, [], ◌∷◌, Some}
use Rattle.std.proofs.Common.{ap, arith}
use Rattle.std.specs.Prelude.{slice_get, if◌then◌else◌}
use Rattle.kb_files.specs.declared.extension_file.Extension.{Extension}
use Rattle.kb_extension_code.specs.Dependencies.{Placed, extension_named, has_id, named_from}

-- the place behind a number, and the extension there
record At (number : ℕ) (es : List Extension) (p : Placed) : Type 0 where
  behind : ℕ
  place_is : p.place ≡ number + behind
  there : slice_get es behind ≡ Some p.extension

named_at : (number : ℕ) (id : List ℕ) (es : List Extension) (p : Placed) → named_from number id es ≡ Some p
    → At number es p
named_at number id [] p is = absurd (cc)
named_at number id (e ∷ es) p is = by (has_id id e) is (named_at (number + 1) id es p)
  where
    by : (b : Bool) → (if b then Some (record { place = number; extension = e }) else named_from (number + 1) id es)
        ≡ Some p → (named_from (number + 1) id es ≡ Some p → At (number + 1) es p) → At number (e ∷ es) p
    by true is later =
        let here : Placed = record { place = number; extension = e } in
        let same : here ≡ p = cc in
        record {
          behind = 0;
          place_is = sym (ap (λ (p : Placed). p.place) same) ∙ omega arith;
          there = ap (λ (p : Placed). Some p.extension) same;
        }
    by false is later =
        let at = later is in
        let place = at.place_is in
        record { behind = suc at.behind; place_is = omega (arith, place); there = at.there }

pub named_there : (id : List ℕ) (es : List Extension) (p : Placed) → extension_named id es ≡ Some p
    → slice_get es p.place ≡ Some p.extension
named_there id es p is =
    let at = named_at 0 id es p is in
    let place = at.place_is in
    let same : at.behind ≡ p.place = omega (arith, place) in
    subst (λ k. slice_get es k ≡ Some p.extension) same at.there
