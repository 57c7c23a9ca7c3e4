-- Rules that take the first keystrokes of others.
use Rattle.std.proofs.Common.{◌≡◌, ◌<◌, ◌≤◌, ◌+◌, ◌⊎◌, inl, inr, ℕ, zero, suc, List, length, Some, subst, sym, ap, refl, arith, ◌∙◌}
use Rattle.std.specs.Prelude.{All, slice_get}
use Rattle.std.proofs.lemmas.Option.{slice_get_within}
use Rattle.kb_resolve.specs.Enablements.{Enabling}
use Rattle.kb_rules.specs.declared.rule.Rule.{Rule}
use Rattle.kb_lints.specs.CutOff.{IsCutOff, IsLonger, IsTakenAt, IsTaking, TakesAll}
use Rattle.kb_lints.proofs.ListLemmas.{one_of, same_element}

below_or_at : (m n : ℕ) → m < n + 1 → (m < n) ⊎ (m ≡ n)
below_or_at zero zero lt = inr refl
below_or_at zero (suc n) lt = inl (omega arith)
below_or_at (suc m) zero lt = absurd (omega (arith, lt))
below_or_at (suc m) (suc n) lt = next (below_or_at m n (omega (arith, lt)))
  where
    next : (m < n) ⊎ (m ≡ n) → (suc m < suc n) ⊎ (suc m ≡ suc n)
    next (inl less) = inl (omega (arith, less))
    next (inr same) = inr (ap suc same)

-- the keystrokes are taken from the longer ones of the first rules, as far as a place
abbrev pub TakesFirst : Enabling → List Rule → ℕ → Rule → ℕ → Type 0
TakesFirst enablement rules position rule count =
    (place : ℕ) (other : Rule) → slice_get rules place ≡ Some other → place < count
    → IsTakenAt enablement position rule place other

pub one_further : (enablement : Enabling) (rules : List Rule) (position : ℕ) (rule : Rule) (count : ℕ)
    (next : Rule) → TakesFirst enablement rules position rule count → slice_get rules count ≡ Some next
    → IsTakenAt enablement position rule count next → TakesFirst enablement rules position rule (count + 1)
one_further enablement rules position rule count next before at taken place other is lt =
    by (below_or_at place count lt)
  where
    by : (place < count) ⊎ (place ≡ count) → IsTakenAt enablement position rule place other
    by (inl less) = before place other is less
    by (inr same) =
        let there : next ≡ other = same_element (slice_get rules count) next other at
        (ap (slice_get rules) (sym same) ∙ is) in
        subst (λ p. IsTakenAt enablement position rule p other) (sym same)
        (subst (IsTakenAt enablement position rule count) there taken)

pub all_taken : (enablement : Enabling) (rules : List Rule) (position : ℕ) (rule : Rule) (count : ℕ)
    → TakesFirst enablement rules position rule count → length rules ≤ count
    → TakesAll enablement rules position rule
all_taken enablement rules position rule count first whole place other is =
    let within = slice_get_within rules place other is in
    first place other is (omega (arith, within, whole))

pub cut_off_by : (enablement : Enabling) (rules : List Rule) (positions : List ℕ) (position by place : ℕ)
    (rule lower : Rule) → All (IsTaking enablement rules) positions → slice_get positions place ≡ Some by
    → slice_get rules position ≡ Some rule → slice_get rules by ≡ Some lower → 0 < length lower.chord
    → IsLonger lower.chord rule → IsCutOff enablement rules position by
cut_off_by enablement rules positions position by place rule lower all noted at lower_at some longer =
    let taking = one_of (IsTaking enablement rules) positions place by all noted in
    let same = same_element (slice_get rules by) taking.lower lower taking.at lower_at in
    record {
      rule = rule;
      lower = lower;
      at = at;
      lower_at = lower_at;
      some_keys = some;
      longer = longer;
      takes_all = subst (TakesAll enablement rules by) same taking.takes_all;
    }
