-- Dependencies are looked at in turn.
use Rattle.std.proofs.Common.{◌≡◌, ◌∙◌, ℕ, zero, suc, ◌+◌, ◌<◌, true, false, ◌||◌, List, [], ◌∷◌, sym, ap, drop}
use Rattle.std.proofs.Common.{length, get_or, arith}
use Rattle.kb_base.specs.ExtensionId.{same_id}
use Rattle.kb_verify.specs.Provider.{is_needed}

module _ (id : List ℕ) where
  one : (ds : List (List ℕ)) (i : ℕ) (d : List ℕ) → i < length ds → d ≡ get_or ds i d
      → is_needed id (drop i ds) ≡ same_id id d || is_needed id (drop (suc i) ds)
  one [] i d below at = absurd (omega (arith, below))
  one (x ∷ ds) zero d below at = ap (λ y. same_id id y || is_needed id ds) (sym at)
  one (x ∷ ds) (suc i) d below at = one ds i d (omega (arith, below)) at

  -- one of another name is passed
  pub passed : (ds : List (List ℕ)) (i : ℕ) (d : List ℕ) → i < length ds → d ≡ get_or ds i d
      → same_id id d ≡ false → is_needed id (drop (i + 1) ds) ≡ is_needed id (drop i ds)
  passed ds i d below at differs =
      let next : i + 1 ≡ suc i = omega arith in
      ap (λ n. is_needed id (drop n ds)) next
      ∙ sym (one ds i d below at ∙ ap (λ b. b || is_needed id (drop (suc i) ds)) differs)

  -- one of the name is met
  pub met : (ds : List (List ℕ)) (i : ℕ) (d : List ℕ) → i < length ds → d ≡ get_or ds i d
      → same_id id d ≡ true → is_needed id (drop i ds) ≡ true
  met ds i d below at same = one ds i d below at ∙ ap (λ b. b || is_needed id (drop (suc i) ds)) same
