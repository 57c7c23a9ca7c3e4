-- What is said of keystrokes that are pressed in turn.
use Rattle.std.specs.Prelude.{◌≡◌, ◌++◌, ℕ, Bool, List, [], ◌∷◌, Option, length, ◌==◌}
use Rattle.std.specs.Io.KnownBytes.{Keeps}
use Rattle.kb_bindings.specs.Sources.{enablement, rules_of}
use Rattle.kb_context.specs.Scopes.{context}
use Rattle.kb_explain_report.specs.PressSaid.{SaysPress}
use Rattle.kb_explain_report.specs.Said.{SaysTrace}
use Rattle.kb_explain_report.specs.declared.rule_said.Named.{Named}
use Rattle.kb_keys.specs.declared.keystroke.Keystroke.{Keystroke}
use Rattle.kb_report.specs.declared.output.Form.{Form}
use Rattle.kb_resolve.specs.ChordState.{step}
use Rattle.kb_resolve.specs.Pressed.{Step}
use Rattle.kb_session.specs.State.{State, happens, next}
use Rattle.kb_stream.specs.Fold.{Out}
use Rattle.kb_trace.specs.declared.event.Event.TheVariants as event

-- what a press does in a state of a session
abbrev pub step_in : State → Keystroke → Step
step_in s stroke = step s.pressed stroke (context s.core.scopes) (enablement s.sources) (rules_of s.sources)

-- what a press does is said, and why; if it only waits, that is said of the last keystroke alone
pub record SaysWhy (f : Form) (is_last : Bool) (stroke : Keystroke) (s : State) (old new : Option (List ℕ))
    : Type 0 where
  pub named : Named
  pub bound : named.bindings.now ≡ s.sources
  pub says : SaysPress f named (s.pressed ++ stroke ∷ []) is_last (step_in s stroke) old new

-- the press itself
abbrev pub pressed : Keystroke → State → Out State
pressed stroke = next (happens (event.Key stroke))

-- what a press does is said, and then its lines of the trace
abbrev pub SaysStroke : Form → Bool → Keystroke → State → Option (List ℕ) → Option (List ℕ) → Type 0
SaysStroke f is_last stroke s old new = (between : Option (List ℕ))
    × SaysWhy f is_last stroke s old between
    × SaysTrace f (pressed stroke s).lines between new

-- the same of keystrokes in turn, each in the state that those before it leave
abbrev pub SaysStrokes : Form → List Keystroke → State → Option (List ℕ) → Option (List ℕ) → Type 0
SaysStrokes f [] s old new = Keeps old new
SaysStrokes f (stroke ∷ more) s old new = (between : Option (List ℕ))
    × SaysStroke f (length more == 0) stroke s old between
    × SaysStrokes f more (pressed stroke s).state between new
