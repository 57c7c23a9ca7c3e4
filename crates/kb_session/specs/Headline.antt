-- The headline: what holds of a session with verified handlers after all lists of inputs.
use Rattle.std.specs.Prelude.{◌≡◌, ℕ, true, false, List, ◌∷◌, ◌++◌, [], Some}
use Rattle.kb_code.specs.Commands.{Callee, declared_by}
use Rattle.kb_context.specs.Scopes.{context}
use Rattle.kb_core.specs.Signature.{fits}
use Rattle.kb_core.specs.declared.arg.Arg.{Arg}
use Rattle.kb_core.specs.Core.{Core}
use Rattle.kb_bindings.specs.Sources.{enablement, rules_of}
use Rattle.kb_keys.specs.declared.keystroke.Keystroke.{Keystroke}
use Rattle.kb_registry.specs.Live.{table_of}
use Rattle.kb_resolve.specs.ChordState.{kept_by, step_by}
use Rattle.kb_resolve.specs.Resolved.{Resolution}
use Rattle.kb_resolve.specs.Resolver.{IsGreatest}
use Rattle.kb_session.specs.Press.{press_started}
use Rattle.kb_session.specs.State.{begun, happens, IsSafe, next, State, step_on, Told}
use Rattle.kb_soundness.specs.Sound.{IsDone}
use Rattle.kb_stream.specs.Fold.{fold}
use Rattle.kb_trace.specs.Lines as line
use Rattle.kb_trace.specs.declared.event.Event.TheVariants as event
use Rattle.kb_vm.specs.Meaning.{Answer, start_of}

-- what a search finds for a key press: the last rule whose keystrokes begin with all pressed ones and whose
-- clause and enablement hold, or that there is none
abbrev pub IsFound : State → Keystroke → Resolution → Type 0
IsFound s key finding =
    IsGreatest (s.pressed ++ key ∷ []) (context s.core.scopes) (enablement s.sources) (rules_of s.sources)
    finding

-- a key press starts exactly the command of the found rule, or opens or keeps a chord where that rule has
-- more keystrokes, or leaves a chord or is unbound where there is no such rule
pub record Presses (s : State) (key : Keystroke) : Type 0 where
  pub finding : Resolution
  pub greatest : IsFound s key finding
  pub does : step_on (happens (event.Key key)) s
      ≡ begun (press_started (line.key_text s.pressed key) (step_by s.pressed finding) s.live s.core)
      (kept_by (s.pressed ++ key ∷ []) finding) s

-- no start of a live command with fitting arguments gets stuck: no operand is missing, no command is unknown,
-- no argument is wrong, and no budget is spent
abbrev pub NoneIsStuck : State → Type 0
NoneIsStuck s = (name : List ℕ) (callee : Callee) (args : List Arg) (core : Core) (a : Answer)
    → table_of s.live name ≡ Some callee → fits (declared_by callee).params args ≡ true
    → start_of (table_of s.live) name args core ≡ Some a → IsDone a

-- the session isn't stopped, each key press does what the found rule says, and no handler gets stuck
pub record GoesRight (s : State) : Type 0 where
  pub running : s.stopped ≡ false
  pub presses : (key : Keystroke) → Presses s key
  pub never_stuck : NoneIsStuck s

-- so it goes after all lists of inputs, in which memory alone can be refused
abbrev pub Headline : State → Type 0
Headline s = (told : List Told) → GoesRight (fold next told s).state

-- the headline holds of each running session whose handlers are verified, as those of a load are
abbrev pub HeadlineHolds : Type 0
HeadlineHolds = (s : State) → s.stopped ≡ false → IsSafe s → Headline s
