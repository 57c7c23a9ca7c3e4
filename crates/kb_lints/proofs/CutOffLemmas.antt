-- Rules that are cut off are never found.
use Rattle.std.proofs.Common.{◌≡◌, ◌<◌, ◌≤◌, ℕ, suc, List, [], ◌∷◌, ◌++◌, length, Some, sym, ap, subst, ◌∙◌, arith, refl}
use Rattle.std.specs.Prelude.{slice_get}
use Rattle.std.proofs.lemmas.List.{length-append, append-nil}
use Rattle.kb_context.specs.Scopes.{Keys}
use Rattle.kb_keys.specs.declared.keystroke.Keystroke.{Keystroke}
use Rattle.kb_resolve.specs.Enablements.{Enabling}
use Rattle.kb_resolve.specs.Resolved.{more}
use Rattle.kb_resolve.specs.Resolver.{Matches, IsLastMatch, IsGreatest}
use Rattle.kb_rules.specs.declared.rule.Rule.{Rule}
use Rattle.kb_lints.specs.CutOff.{IsLonger, TakesAll, IsCutOff, Wait, CutOffNeverStart}
use Rattle.kb_lints.specs.Shadow.{IsChosenAt}
use Rattle.kb_lints.proofs.ListLemmas.{at_seam}
use Rattle.kb_lints.proofs.ShadowLemmas.{covers_match, below_fails, chosen_is}

-- no context makes the keystrokes of a rule that takes all open or keep a chord
never_more : (enablement : Enabling) (rules : List Rule) (by : ℕ) (lower : Rule)
    → slice_get rules by ≡ Some lower → TakesAll enablement rules by lower → (keys : Keys)
    → ¬ IsGreatest lower.chord keys enablement rules more
never_more enablement rules by lower is takes keys greatest =
    let rule = greatest.0 in
    let last = greatest.1 in
    let longer : IsLonger lower.chord rule =
    record { rest = last.matching.0; whole = last.matching.1; more = greatest.2 } in
    let there = ap (λ rs. slice_get rs (length last.above)) last.whole ∙ at_seam last.above rule last.below in
    let taken = takes (length last.above) rule there longer in
    let chosen : IsChosenAt enablement rules (length last.above) lower.chord keys =
    record { rule = rule; last = last; is_there = refl } in
    below_fails enablement rules lower.chord keys (length last.above) by lower chosen is taken.0
    (covers_match enablement rules lower.chord keys rule lower taken.1 last.matching [] (sym (append-nil lower.chord)))

-- what is shorter than a list with one more element begins that list
shorter_begins : (xs rest ys : List Keystroke) (y : Keystroke) → xs ++ rest ≡ ys ++ y ∷ []
    → length xs < length (ys ++ y ∷ []) → (after : List Keystroke) × (ys ≡ xs ++ after)
shorter_begins [] rest ys y e lt = (ys, refl)
shorter_begins (x ∷ xs) rest [] y e lt = absurd (omega (arith, lt))
shorter_begins (x ∷ xs) rest (z ∷ ys) y e lt =
    let same : x ≡ z = cc in
    let others : xs ++ rest ≡ ys ++ y ∷ [] = cc in
    let inner = shorter_begins xs rest ys y others (omega (arith, lt)) in
    (inner.0, ap (λ k. k ∷ ys) (sym same) ∙ ap (λ ks. x ∷ ks) inner.1)

pub cut_off_never_start : CutOffNeverStart
cut_off_never_start enablement rules position by c pressed key keys waits chosen exact =
    let is = chosen_is enablement rules (pressed ++ key ∷ []) keys position c.rule chosen c.at in
    let same : c.rule.chord ≡ pressed ++ key ∷ [] = ap (λ r. r.chord) (sym is) ∙ exact in
    let less : length c.lower.chord < length (pressed ++ key ∷ []) =
    subst (λ ks. length c.lower.chord < length ks) same c.longer.more in
    let begins = shorter_begins c.lower.chord c.longer.rest pressed key (sym c.longer.whole ∙ same) less in
    let opened = waits c.lower.chord begins.0 begins.1 c.some_keys in
    never_more enablement rules by c.lower c.lower_at c.takes_all opened.0 opened.1
