-- What a press passes over.
use Rattle.std.proofs.Common.{◌≡◌, Bool, true, false, List, [], ◌∷◌, ◌++◌, Option, None, Some, refl, sym, ap, ◌∙◌}
use Rattle.std.proofs.Common.{map, subst}
use Rattle.std.specs.Prelude.{◌&&◌, is_none, option_map, filter, reverse, if◌then◌else◌}
use Rattle.std.proofs.lemmas.List.{reverse-append, map-append}
use Rattle.kb_context.specs.Scopes.{Keys}
use Rattle.kb_explain.specs.Cause.{Fails, IsCauseOf, cause_data}
use Rattle.kb_explain.specs.Press.{before_first, passed_over, IsFirstObstacle}
use Rattle.kb_explain.specs.declared.cause.Cause.{Cause}
use Rattle.kb_explain.specs.declared.press.Passed.{Passed}
use Rattle.kb_explain.specs.declared.press.Obstacle.TheVariants.{Clause, Enablement}
use Rattle.kb_keys.specs.Chord.{begins_with}
use Rattle.kb_keys.specs.declared.keystroke.Keystroke.{Keystroke}
use Rattle.kb_resolve.specs.Enablements.{Enabling}
use Rattle.kb_resolve.specs.Resolver.{may_start}
use Rattle.kb_rules.specs.declared.rule.Rule.{Rule}
use Rattle.kb_when.specs.Marks.{MarkedClause, when_holds}

-- ---- one more rule from the bottom

module _ {X : Type 0} (f : X → Rule) (pressed : List Keystroke) (keys : Keys) (en : Enabling) where
  abbrev pub begins : Rule → Bool
  begins rule = begins_with rule.chord pressed

  abbrev pub over : List X → List Rule
  over xs = passed_over pressed keys en (map f xs)

  from_bottom : (above : List X) (lowest : X)
      → over (above ++ lowest ∷ [])
      ≡ before_first (may_start keys en) (filter begins (f lowest ∷ reverse (map f above)))
  from_bottom above lowest =
      ap (λ (rules : List Rule). before_first (may_start keys en) (filter begins (reverse rules)))
      (map-append f above (lowest ∷ []))
      ∙ ap (λ (rules : List Rule). before_first (may_start keys en) (filter begins rules))
      (reverse-append (map f above) (f lowest ∷ []))

  step_by : (b c : Bool) (rule : Rule) (rules : List Rule) → may_start keys en rule ≡ c
      → before_first (may_start keys en) (if b then rule ∷ filter begins rules else filter begins rules)
      ≡ (if b then if c then [] else rule ∷ before_first (may_start keys en) (filter begins rules)
      else before_first (may_start keys en) (filter begins rules))
  step_by true c rule rules h =
      ap (λ (x : Bool). if x then [] else rule ∷ before_first (may_start keys en) (filter begins rules)) h
  step_by false c rule rules h = refl

  step : (b c : Bool) (rule : Rule) (rules : List Rule) → begins rule ≡ b → may_start keys en rule ≡ c
      → before_first (may_start keys en) (filter begins (rule ∷ rules))
      ≡ (if b then if c then [] else rule ∷ before_first (may_start keys en) (filter begins rules)
      else before_first (may_start keys en) (filter begins rules))
  step b c rule rules e h =
      ap (λ (x : Bool).
      before_first (may_start keys en) (if x then rule ∷ filter begins rules else filter begins rules)) e
      ∙ step_by b c rule rules h

  module _ (rest above : List X) (lowest : X) (e : rest ≡ above ++ lowest ∷ []) where
    -- one whose keystrokes don't begin so is left out
    pub left_out : begins (f lowest) ≡ false → over rest ≡ over above
    left_out h = ap over e ∙ from_bottom above lowest ∙ step false _ (f lowest) (reverse (map f above)) h refl

    -- one that may not start is passed over
    pub passed_one : begins (f lowest) ≡ true → may_start keys en (f lowest) ≡ false
        → over rest ≡ f lowest ∷ over above
    passed_one h k = ap over e ∙ from_bottom above lowest ∙ step true false (f lowest) (reverse (map f above)) h k

    -- none is passed over above one that may start
    pub passed_none : begins (f lowest) ≡ true → may_start keys en (f lowest) ≡ true → over rest ≡ []
    passed_none h k = ap over e ∙ from_bottom above lowest ∙ step true true (f lowest) (reverse (map f above)) h k

-- ---- what is in the way of one rule

module _ (keys : Keys) (en : Enabling) (rule : Rule) (found : Option Cause) (when : Option MarkedClause)
    (w : when ≡ rule.when) (h : is_none found ≡ when_holds keys when) where
  pub clause_is_obstacle : (c : Cause) → found ≡ Some c → IsCauseOf keys when (option_map cause_data found)
      → Fails keys when (option_map cause_data found) → IsFirstObstacle keys en rule (Some (Clause c))
  clause_is_obstacle c e a f =
      let fails : when_holds keys rule.when ≡ false =
      ap (when_holds keys) (sym w) ∙ sym h ∙ ap is_none e in
      let cause : IsCauseOf keys rule.when (Some (cause_data c)) =
      subst (λ (o : Option MarkedClause). IsCauseOf keys o (Some (cause_data c))) w
      (subst (λ (o : Option Cause). IsCauseOf keys when (option_map cause_data o)) e a) in
      let shown : Fails keys rule.when (Some (cause_data c)) =
      subst (λ (o : Option MarkedClause). Fails keys o (Some (cause_data c))) w
      (subst (λ (o : Option Cause). Fails keys when (option_map cause_data o)) e f) in (
        ap (λ (b : Bool). b && when_holds keys (en rule.command)) fails,
        (cause, fails, shown),
      )

  pub clause_holds : found ≡ None → when_holds keys rule.when ≡ true
  clause_holds e = ap (when_holds keys) (sym w) ∙ sym h ∙ ap is_none e

module _ (keys : Keys) (en : Enabling) (rule : Rule) (holds : when_holds keys rule.when ≡ true)
    (found : Option Cause) (enablement : Option MarkedClause) (w : enablement ≡ en rule.command)
    (h : is_none found ≡ when_holds keys enablement) where
  pub enablement_is_obstacle : (c : Cause) → found ≡ Some c → IsCauseOf keys enablement (option_map cause_data found)
      → Fails keys enablement (option_map cause_data found) → IsFirstObstacle keys en rule (Some (Enablement c))
  enablement_is_obstacle c e a f =
      let fails : when_holds keys (en rule.command) ≡ false =
      ap (when_holds keys) (sym w) ∙ sym h ∙ ap is_none e in
      let cause : IsCauseOf keys (en rule.command) (Some (cause_data c)) =
      subst (λ (o : Option MarkedClause). IsCauseOf keys o (Some (cause_data c))) w
      (subst (λ (o : Option Cause). IsCauseOf keys enablement (option_map cause_data o)) e a) in
      let shown : Fails keys (en rule.command) (Some (cause_data c)) =
      subst (λ (o : Option MarkedClause). Fails keys o (Some (cause_data c))) w
      (subst (λ (o : Option Cause). Fails keys enablement (option_map cause_data o)) e f) in (
        (λ i. holds i && fails i),
        (holds, cause, fails, shown),
      )

  pub no_obstacle : found ≡ None → may_start keys en rule ≡ true
  no_obstacle e = λ i. holds i && (ap (when_holds keys) (sym w) ∙ sym h ∙ ap is_none e) i

-- ---- one more that is passed over

pub one_more : (made : List Passed) (p : Passed) (rules : List Rule) (r : Rule) → p.rule.now ≡ r
    → map (λ (one : Passed). one.rule.now) (made ++ p ∷ []) ++ rules
    ≡ map (λ (one : Passed). one.rule.now) made ++ r ∷ rules
one_more [] p rules r e = ap (λ (x : Rule). x ∷ rules) e
one_more (x ∷ xs) p rules r e = ap (λ (l : List Rule). x.rule.now ∷ l) (one_more xs p rules r e)

pub ruleset obstacles = (clause_is_obstacle, clause_holds, enablement_is_obstacle, no_obstacle)
