-- The chosen rule is the last one that matches, and a search from the bottom finds it.
use Rattle.std.proofs.Common.{◌≡◌, ◌≤◌, List, [], ◌∷◌, ◌++◌, length, drop, map, Bool, true, false, nat_lt}
use Rattle.std.proofs.Common.{Option, None, Some, if◌then◌else◌, refl, ap, ◌∙◌, arith, length-append}
use Rattle.std.proofs.Common.{append-nil, ℕ, Result, Ok, Err, slice_get}
use Rattle.std.proofs.Math.ListN.{get_or-append}
use Rattle.std.specs.List.{Any}
use Rattle.std.specs.Prelude.{All, MatchOption, ◌&&◌, IfErr}
use Rattle.std.specs.Option.{option_or}
use Rattle.std.proofs.lemmas.List.{nil_from_length, map-append}
use Rattle.std.proofs.lemmas.List.Elements.{All-cons, All-nil}
use Rattle.std.proofs.lemmas.List.Quantifiers.{Any-push}
use Rattle.std.proofs.lemmas.Option.{slice_get_within, get_or_from_slice_get}
use Rattle.std.proofs.lemmas.Bool.Decides.{nat_tests}
use Rattle.std.proofs.lemmas.Slice.Eq.{starts_is}
use Rattle.kb_context.specs.Scopes.{Keys}
use Rattle.kb_keys.specs.Chord.{begins_with}
use Rattle.kb_keys.specs.declared.keystroke.Keystroke.{Keystroke}
use Rattle.kb_keys.proofs.KeystrokeLemmas.{same_stroke-Decides}
use Rattle.kb_rules.specs.declared.rule.Rule.{Rule}
use Rattle.kb_resolve.specs.Enablements.{Enabling}
use Rattle.kb_resolve.specs.Resolved.{found, more}
use Rattle.kb_when.specs.Marks.{when_holds}
use Rattle.kb_resolve.specs.Resolver.{may_start, matches, last_where, chosen, resolution_by}
use Rattle.kb_resolve.specs.Resolver.{resolved, Matches, IsLastMatch, IsGreatest}

both : (a b : Bool) → (a && b) ≡ true → (a ≡ true) × (b ≡ true)
both true b h = (refl, h)
both false b h = absurd (cc)

not_both : (a b : Bool) → (a && b) ≡ false → a ≡ true → b ≡ true → ⊥
not_both true b h p q = cc
not_both false b h p q = cc

-- the test decides the relation
matching : (pressed : List Keystroke) (keys : Keys) (enablement : Enabling) (rule : Rule)
    → matches keys enablement pressed rule ≡ true → Matches pressed keys enablement rule
matching pressed keys enablement rule h =
    let front = starts_is same_stroke-Decides rule.chord pressed (begins_with rule.chord pressed) refl in
    let tests = both (begins_with rule.chord pressed) (may_start keys enablement rule) h in
    let clauses = both (when_holds keys rule.when) (when_holds keys (enablement rule.command)) tests.1 in
    (drop (length pressed) rule.chord, front.0 tests.0, clauses.0, clauses.1)

failing : (pressed : List Keystroke) (keys : Keys) (enablement : Enabling) (rule : Rule)
    → matches keys enablement pressed rule ≡ false → ¬ Matches pressed keys enablement rule
failing pressed keys enablement rule h = λ m.
    let front = starts_is same_stroke-Decides rule.chord pressed (begins_with rule.chord pressed) refl in
    not_both (begins_with rule.chord pressed) (may_start keys enablement rule) h (front.1 m.0 m.1)
    (ap (λ (a : Bool). a && when_holds keys (enablement rule.command)) m.2 ∙ m.3)

abbrev IsUnmatched : List Keystroke → Keys → Enabling → List Rule → Type 0
IsUnmatched pressed keys enablement rules = All (λ rule. ¬ Matches pressed keys enablement rule) rules

last_step : (pressed : List Keystroke) (keys : Keys) (enablement : Enabling) (rule : Rule)
    (below : List Rule) (later : Option Rule) (b : Bool)
    → MatchOption later (IsUnmatched pressed keys enablement below)
    (IsLastMatch pressed keys enablement below)
    → matches keys enablement pressed rule ≡ b
    → MatchOption (option_or later (if b then Some rule else None))
    (IsUnmatched pressed keys enablement (rule ∷ below))
    (IsLastMatch pressed keys enablement (rule ∷ below))
last_step pressed keys enablement rule below (Some last) b h e =
    record {
      above =
          rule ∷ h.above;
      below =
          h.below;
      whole =
          ap (λ (l : List Rule). rule ∷ l) h.whole;
      matching = h.matching;
      rest_fails = h.rest_fails;
    }
last_step pressed keys enablement rule below None true h e =
    record {
      above =
          [];
      below = below;
      whole = refl;
      matching = matching pressed keys enablement rule e;
      rest_fails = h;
    }
last_step pressed keys enablement rule below None false h e =
    All-cons (λ (r : Rule). ¬ Matches pressed keys enablement r) rule below
    (failing pressed keys enablement rule e) h

pub chosen_is_last : (pressed : List Keystroke) (keys : Keys) (enablement : Enabling) (rules : List Rule)
    → MatchOption (chosen pressed keys enablement rules) (IsUnmatched pressed keys enablement rules)
    (IsLastMatch pressed keys enablement rules)
chosen_is_last pressed keys enablement [] = All-nil (λ (r : Rule). ¬ Matches pressed keys enablement r)
chosen_is_last pressed keys enablement (rule ∷ below) =
    last_step pressed keys enablement rule below (chosen pressed keys enablement below)
    (matches keys enablement pressed rule) (chosen_is_last pressed keys enablement below) refl

-- a rule that isn't longer has exactly the pressed keystrokes
whole_chord : (pressed rest chord : List Keystroke) → chord ≡ pressed ++ rest
    → length chord ≤ length pressed → chord ≡ pressed
whole_chord pressed rest chord e h =
    let none : length rest ≡ 0 = omega (arith, length-append pressed rest, ap length e) in
    e ∙ ap (λ (l : List Keystroke). pressed ++ l) (nil_from_length rest none) ∙ append-nil pressed

greatest_by : (pressed : List Keystroke) (keys : Keys) (enablement : Enabling) (rules : List Rule)
    (rule : Rule) (b : Bool) → IsLastMatch pressed keys enablement rules rule
    → nat_lt (length pressed) (length rule.chord) ≡ b
    → IsGreatest pressed keys enablement rules (if b then more else found rule)
greatest_by pressed keys enablement rules rule true h e = (rule, h, grind (arith, nat_tests))
greatest_by pressed keys enablement rules rule false h e =
    (h, whole_chord pressed h.matching.0 rule.chord h.matching.1 (grind (arith, nat_tests)))

greatest_of : (pressed : List Keystroke) (keys : Keys) (enablement : Enabling) (rules : List Rule)
    (choice : Option Rule) → MatchOption choice (IsUnmatched pressed keys enablement rules)
    (IsLastMatch pressed keys enablement rules)
    → IsGreatest pressed keys enablement rules (resolution_by pressed choice)
greatest_of pressed keys enablement rules None h = h
greatest_of pressed keys enablement rules (Some rule) h =
    greatest_by pressed keys enablement rules rule (nat_lt (length pressed) (length rule.chord)) h refl

pub resolved_is_greatest : (pressed : List Keystroke) (keys : Keys) (enablement : Enabling)
    (rules : List Rule) → IsGreatest pressed keys enablement rules (resolved pressed keys enablement rules)
resolved_is_greatest pressed keys enablement rules =
    greatest_of pressed keys enablement rules (chosen pressed keys enablement rules)
    (chosen_is_last pressed keys enablement rules)

behind : (rule : Rule) (later other : Option Rule) (b : Bool)
    → option_or (if b then Some rule else later) other ≡ (if b then Some rule else option_or later other)
behind rule later other true = refl
behind rule later other false = refl

last_where-push : {X : Type 0} (p : Rule → Bool) (value : X → Rule) (above : List X) (lowest : X)
    → last_where p (map value (above ++ lowest ∷ []))
    ≡ (if p (value lowest) then Some (value lowest) else last_where p (map value above))
last_where-push p value [] lowest = refl
last_where-push p value (x ∷ above) lowest =
    let other : Option Rule = if p (value x) then Some (value x) else None in
    ap (λ (later : Option Rule). option_or later other) (last_where-push p value above lowest)
    ∙ behind (value lowest) (last_where p (map value above)) other (p (value lowest))

-- a search from the bottom ends at the lowest rule if it passes the test, and else continues above it
pub lowest_passes : {X : Type 0} (p : Rule → Bool) (value : X → Rule) (items above : List X) (lowest : X)
    → items ≡ above ++ lowest ∷ [] → p (value lowest) ≡ true
    → last_where p (map value items) ≡ Some (value lowest)
lowest_passes {X} p value items above lowest e h =
    ap (λ (l : List X). last_where p (map value l)) e ∙ last_where-push p value above lowest
    ∙ ap (λ (b : Bool). if b then Some (value lowest) else last_where p (map value above)) h

pub lowest_fails : {X : Type 0} (p : Rule → Bool) (value : X → Rule) (items above : List X) (lowest : X)
    → items ≡ above ++ lowest ∷ [] → p (value lowest) ≡ false
    → last_where p (map value items) ≡ last_where p (map value above)
lowest_fails {X} p value items above lowest e h =
    ap (λ (l : List X). last_where p (map value l)) e ∙ last_where-push p value above lowest
    ∙ ap (λ (b : Bool). if b then Some (value lowest) else last_where p (map value above)) h

-- a fact that holds anyway, where there is an error
pub any_err : {A E : Type 0} (r : Result A E) (X : Type 0) → X → IfErr r (λ _. X)
any_err (Ok a) X x = tt {0}
any_err (Err e) X x = x

-- a rule at a position is one of the rules
pub one_at : (P : Rule → Type 0) (rules : List Rule) (position : ℕ) (rule : Rule)
    → slice_get rules position ≡ Some rule → P rule → Any P rules
one_at P rules position rule e p =
    (position, rule, slice_get_within rules position rule e, get_or_from_slice_get rules position rule rule e, p)

pub one_before : (P : Rule → Type 0) (above below : List Rule) → Any P above → Any P (above ++ below)
one_before P above below h =
    (h.0, h.1, omega (arith, length-append above below, h.2), get_or-append above below h.1 h.0 h.2 ∙ h.3, h.4)

-- a rule above the lowest one is one of the rules, and so is the lowest one
pub one_above : {X : Type 0} (P : Rule → Type 0) (value : X → Rule) (items above : List X) (lowest : X)
    → items ≡ above ++ lowest ∷ [] → Any P (map value above) → Any P (map value items)
one_above P value items above lowest e h =
    rw (e, map-append value above (lowest ∷ [])) (one_before P (map value above) (value lowest ∷ []) h)

pub lowest_is_one : {X : Type 0} (P : Rule → Type 0) (value : X → Rule) (items above : List X) (lowest : X)
    → items ≡ above ++ lowest ∷ [] → P (value lowest) → Any P (map value items)
lowest_is_one P value items above lowest e h =
    rw (e, map-append value above (lowest ∷ [])) (Any-push P (map value above) (value lowest) h)
