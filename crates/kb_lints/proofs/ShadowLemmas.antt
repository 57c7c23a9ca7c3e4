-- Shadowed rules are never chosen.
use Rattle.std.proofs.Common.{◌≡◌, ◌<◌, ℕ, List, ◌∷◌, ◌++◌, length, true, Bool, Some, sym, ap, subst, ◌∙◌, arith, refl}
use Rattle.std.specs.Prelude.{slice_get, false, ◌&&◌, All}
use Rattle.kb_context.specs.Scopes.{Keys}
use Rattle.kb_keys.specs.declared.keystroke.Keystroke.{Keystroke}
use Rattle.kb_resolve.specs.Enablements.{Enabling}
use Rattle.kb_resolve.specs.Resolver.{Matches, IsLastMatch, may_start}
use Rattle.kb_rules.specs.declared.rule.Rule.{Rule}
use Rattle.kb_when.specs.Marks.{when_holds}
use Rattle.kb_lints.specs.Condition.{Covers}
use Rattle.kb_lints.specs.Shadow.{IsShadowed, IsChosenAt, ShadowedNeverStart}
use Rattle.kb_lints.proofs.ListLemmas.{at_seam, past_seam, one_of, same_element}

pub both_hold : (a b : Bool) → a ≡ true → b ≡ true → (a && b) ≡ true
both_hold a b p q = ap (λ (x : Bool). x && b) p ∙ q

pub each_holds : (a b : Bool) → (a && b) ≡ true → (a ≡ true) × (b ≡ true)
each_holds true b h = (refl, h)
each_holds false b h = absurd (cc)

module _ (enablement : Enabling) (rules : List Rule) (pressed : List Keystroke) (keys : Keys) where
  -- a rule that may start wherever a matching one may, with these keystrokes, matches too
  pub covers_match : (rule lower : Rule) → Covers enablement lower rule → Matches pressed keys enablement rule
      → (rest : List Keystroke) → lower.chord ≡ pressed ++ rest → Matches pressed keys enablement lower
  covers_match rule lower covers m rest begins =
      let may = both_hold (when_holds keys rule.when) (when_holds keys (enablement rule.command)) m.2 m.3 in
      let holds = each_holds (when_holds keys lower.when) (when_holds keys (enablement lower.command))
      (covers keys may) in
      (rest, begins, holds.0, holds.1)

  -- a rule below the chosen one doesn't match
  pub below_fails : (position by : ℕ) (lower : Rule)
      (chosen : IsChosenAt enablement rules position pressed keys) → slice_get rules by ≡ Some lower → position < by
      → ¬ Matches pressed keys enablement lower
  below_fails position by lower chosen is lt =
      let last = chosen.last in
      let found = past_seam last.above chosen.rule last.below by lower
      (ap (λ rs. slice_get rs by) (sym last.whole) ∙ is) (omega (arith, lt, chosen.is_there)) in
      one_of (λ other. ¬ Matches pressed keys enablement other) last.below found.0 lower last.rest_fails found.1

  -- the chosen rule is the one at its position
  pub chosen_is : (position : ℕ) (rule : Rule) (chosen : IsChosenAt enablement rules position pressed keys)
      → slice_get rules position ≡ Some rule → chosen.rule ≡ rule
  chosen_is position rule chosen is =
      let last = chosen.last in
      same_element (slice_get rules position) chosen.rule rule
      (ap (slice_get rules) (sym chosen.is_there) ∙ ap (λ rs. slice_get rs (length last.above)) last.whole
      ∙ at_seam last.above chosen.rule last.below) is

pub shadowed_never_start : ShadowedNeverStart
shadowed_never_start enablement rules position by s pressed keys chosen =
    let is = chosen_is enablement rules pressed keys position s.rule chosen s.at in
    let m = subst (Matches pressed keys enablement) is chosen.last.matching in
    below_fails enablement rules pressed keys position by s.lower chosen s.lower_at s.is_lower
    (covers_match enablement rules pressed keys s.rule s.lower s.covers m m.0 (s.same_keys ∙ m.1))
