-- Extensions get their code in load order, so the next one has none yet.
use Rattle.std.proofs.Common.{◌≡◌, ◌∙◌, ℕ, ◌+◌, ◌<◌, Bool, true, false, cond, List, [], ◌∷◌, Some, None, find, ap}
use Rattle.std.proofs.Common.{sym, nat_eq, nat_lt, option_map, refl, arith, subst}
use Rattle.std.proofs.lemmas.Bool.Decides.{Decides-eqb}
use Rattle.std.specs.Prelude.{⊤}
use Rattle.kb_handler_table.specs.Codes.{CodesData}
use Rattle.kb_handler_table.specs.Live.{Group, group_of, live_group, with_codes}
use Rattle.kb_registry.specs.Live.{Live, with_code}

-- all groups are of extensions before this one
abbrev pub AreBelow : ℕ → List Group → Type 0
AreBelow number [] = ⊤
AreBelow number (g ∷ gs) = (g.extension < number) × AreBelow number gs

pub none_there : (number : ℕ) (gs : List Group) → AreBelow number gs → group_of number gs ≡ None
none_there number [] below = refl
none_there number (g ∷ gs) below = by (nat_eq g.extension number) refl (none_there number gs below.1)
  where
    by : (b : Bool) → nat_eq g.extension number ≡ b → group_of number gs ≡ None → group_of number (g ∷ gs) ≡ None
    by true is rest =
        let same : g.extension ≡ number = (Decides-eqb g.extension number).0 is in
        let lt = below.0 in absurd (omega (arith, same, lt))
    by false is rest =
        ap (λ b. option_map (λ (g : Group). g.codes)
        (cond b (Some g) (find (λ (g : Group). nat_eq g.extension number) gs))) is ∙ rest

further : (number : ℕ) (gs : List Group) → AreBelow number gs → AreBelow (number + 1) gs
further number [] below = tt
further number (g ∷ gs) below = let lt = below.0 in (omega (arith, lt), further number gs below.1)

pub below_more : (number : ℕ) (codes : CodesData) (gs : List Group) → AreBelow number gs →
    AreBelow (number + 1) (with_codes number codes gs)
below_more number codes [] below = (omega arith, tt)
below_more number codes (g ∷ gs) below = by (nat_lt number g.extension) (below_more number codes gs below.1)
  where
    by : (b : Bool) → AreBelow (number + 1) (with_codes number codes gs) →
        AreBelow (number + 1) (cond b (live_group number codes ∷ g ∷ gs)
        (g ∷ with_codes number codes gs))
    by true rest = (omega arith, further number (g ∷ gs) below)
    by false rest = let lt = below.0 in (omega (arith, lt), rest)

pub first_below : (gs : List Group) → gs ≡ [] → AreBelow 0 gs
first_below gs none = subst (AreBelow 0) (sym none) tt

pub below_next : (number : ℕ) (codes : CodesData) (old new : Live) → AreBelow number old.code →
    new ≡ with_code number codes old → AreBelow (number + 1) new.code
below_next number codes old new below is =
    subst (λ (live : Live). AreBelow (number + 1) live.code) (sym is) (below_more number codes old.code below)

pub ruleset numbering = (none_there, below_next, first_below)
