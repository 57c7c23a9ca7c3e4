-- What is said of keystrokes that are pressed in turn.
use Rattle.std.proofs.Common.{◌≡◌, ◌≤◌, ◌-◌, ◌==◌, ◌++◌, ℕ, Bool, List, [], ◌∷◌, drop, get_or, length, take, arith, subst}
use Rattle.std.specs.Prelude.{Option}
use Rattle.std.proofs.lemmas.List.{take_all}
use Rattle.kb_bindings.specs.Sources.{enablement, rules_of}
use Rattle.kb_context.specs.Scopes.{ScopesData, context}
use Rattle.kb_explain_report.specs.PressSaid.{SaysPress}
use Rattle.kb_explain_report.specs.declared.rule_said.Named.{Named}
use Rattle.kb_resolve.specs.ChordState.{step}
use Rattle.kb_resolve.specs.Pressed.{Step}
use Rattle.kb_keycheck.specs.Pressing.{SaysStroke, SaysStrokes, SaysWhy, pressed, step_in}
use Rattle.kb_keys.specs.declared.keystroke.Keystroke.{Keystroke}
use Rattle.kb_report.specs.declared.output.Form.{Form}
use Rattle.kb_session.specs.State.{State}

-- the first keystroke and then the others, as a slice pattern has them
pub said_front : (f : Form) (strokes : List Keystroke) (stroke : Keystroke) (last : Bool) (s t : State)
    (a b c : Option (List ℕ)) → stroke ≡ get_or strokes 0 stroke → 1 ≤ length strokes
    → last ≡ (length (take (length strokes - 1) (drop 1 strokes)) == 0)
    → SaysStroke f last stroke s a b → t ≡ (pressed stroke s).state
    → SaysStrokes f (take (length strokes - 1) (drop 1 strokes)) t b c → SaysStrokes f strokes s a c
said_front f [] stroke last s t a b c is some ends one after rest = absurd (omega (arith, some))
said_front f (first ∷ more) stroke last s t a b c is some ends one after rest =
    let all : take (length (first ∷ more) - 1) more ≡ more = take_all (length (first ∷ more) - 1) more (omega arith) in
    let ends' : last ≡ (length more == 0) = subst (λ (l : List Keystroke). last ≡ (length l == 0)) all ends in (
      b,
      subst (λ (l : Bool). SaysStroke f l first s a b) ends'
          (subst (λ (k : Keystroke). SaysStroke f last k s a b) is one),
      subst (λ (l : List Keystroke). SaysStrokes f l (pressed first s).state b c) all
          (subst (λ (u : State). SaysStrokes f (take (length (first ∷ more) - 1) more) u b c)
          (subst (λ (k : Keystroke). t ≡ (pressed k s).state) is after) rest),
    )

-- what is said of the step over what a session lends is said of its state
pub said_why : (f : Form) (last : Bool) (named : Named) (s : State) (stroke : Keystroke)
    (strokes : List Keystroke) (scopes : ScopesData) (old new : Option (List ℕ))
    → named.bindings.now ≡ s.sources → scopes ≡ s.core.scopes → strokes ≡ s.pressed ++ stroke ∷ []
    → SaysPress f named strokes last (step s.pressed stroke (context scopes) (enablement named.bindings.now)
    (rules_of named.bindings.now)) old new
    → SaysWhy f last stroke s old new
said_why f last named s stroke strokes scopes old new bound sees is says = record {
  named = named;
  bound = bound;
  says = subst (λ (ss : List Keystroke). SaysPress f named ss last (step_in s stroke) old new) is
      (subst (λ (d : Step). SaysPress f named strokes last d old new)
      (λ i. step s.pressed stroke (context (sees i)) (enablement (bound i)) (rules_of (bound i))) says);
}
