-- Rules in lines of a script.
use Rattle.std.proofs.Common.{◌≡◌, ◌∙◌, ◌++◌, ◌∷◌, [], List, ℕ, Bool, true, false, ap, sym, subst, length, map}
use Rattle.std.proofs.lemmas.List.{length-map}
use Rattle.kb_keys.specs.declared.keystroke.Keystroke.{Keystroke}
use Rattle.kb_rules.specs.RuleList.{AreRightlyMarked, Listed}
use Rattle.kb_rules.specs.Unread.{IsRightlyMarked}
use Rattle.kb_rules.specs.declared.rule.Rule.{Rule}
use Rattle.kb_session.specs.Session.{Does}
use Rattle.kb_session.specs.State.{State, happens, left_lines, out_of, rule_typed, typed_rule, types_rule, with_typed}
use Rattle.kb_stream.specs.Fold.{after, Traced}
use Rattle.kb_trace.specs.Lines as line
use Rattle.kb_trace.specs.declared.event.Answer.{Answer}
use Rattle.kb_trace.specs.declared.event.Answer.TheVariants as answer
use Rattle.kb_trace.specs.declared.event.Event.TheVariants as event

module _ (number : ℕ) (key : Keystroke) (command text : List ℕ) (old new : Traced State) where
  -- a session that takes no such lines leaves the line unread
  pub line_unread : (a : Answer) → old.state.takes_rules ≡ false → Does (happens (event.Unread number)) old a new
      → Does (types_rule number key command text) old a new
  line_unread a none does = (
    ap (λ b. (rule_typed b number key command text old.state).answer) none ∙ does.0,
    does.1 ∙ ap (λ b. after (out_of (rule_typed b number key command text old.state)) old) (sym none),
  )

  -- a session that takes them adds the rule
  pub rule_added : old.state.takes_rules ≡ true → new ≡ record old {
    state = record (with_typed key command text old.state) { pressed = [] };
    trace = old.trace ++ (left_lines old.state.pressed ++ line.rule_line key ∷ []);
  } → Does (types_rule number key command text) old answer.Did new
  rule_added takes is = (
    ap (λ b. (rule_typed b number key command text old.state).answer) takes,
    is ∙ ap (λ b. after (out_of (rule_typed b number key command text old.state)) old) (sym takes),
  )

-- as many are shared as there are rules
pub as_many : {A B : Type 0} (f : A → B) (xs : List A) (ys : List B) → map f xs ≡ ys → length xs ≡ length ys
as_many f xs ys e = sym (length-map xs f) ∙ ap length e

-- the marks stay right, since the rule of a line has no pattern
pub typed_right : (key : Keystroke) (command text : List ℕ) (place : ℕ) (rule : Rule) (user list renewed : Listed)
    → rule ≡ typed_rule key command text place
    → (IsRightlyMarked rule.when → AreRightlyMarked user → AreRightlyMarked list) → renewed ≡ list
    → AreRightlyMarked user → AreRightlyMarked renewed
typed_right key command text place rule user list renewed is keeps same all =
    subst AreRightlyMarked (sym same) (keeps (subst (λ (r : Rule). IsRightlyMarked r.when) (sym is) tt) all)

pub ruleset typing = (line_unread, rule_added)
