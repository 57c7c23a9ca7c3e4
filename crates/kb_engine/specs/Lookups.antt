-- What a host looks up before a key is pressed.
use Rattle.std.specs.Prelude.{◌≡◌, ◌∷◌, ◌++◌, [], ℕ, true, false, if◌then◌else◌, flat_map, List}
use Rattle.std.specs.Prelude.{Option, None, Some, Result, Ok, Err}
use Rattle.std.specs.Str.{is_utf8}
use Rattle.kb_bindings.specs.Sources.{enablement, rules_of}
use Rattle.kb_context.specs.Scopes.{context}
use Rattle.kb_engine.specs.Taken.{TakesFound}
use Rattle.kb_engine.specs.Values.{EngineData, RunningData}
use Rattle.kb_engine.specs.declared.outcome.Outcome.{Outcome}
use Rattle.kb_engine.specs.declared.outcome.Outcome.TheVariants as outcome
use Rattle.kb_keys.specs.Chord.{chord_spelling}
use Rattle.kb_keys.specs.Keystroke.{keystroke_of, spelling}
use Rattle.kb_keys.specs.declared.key_fault.KeyFault.{KeyFault}
use Rattle.kb_keys.specs.declared.keystroke.Keystroke.{Keystroke}
use Rattle.kb_lookup.specs.GoingOn.{continuations}
use Rattle.kb_lookup.specs.Starting.{keys_of}
use Rattle.kb_rules.specs.declared.rule.Rule.{Rule}
use Rattle.kb_session.specs.Inspect.{found_by}
use Rattle.kb_session.specs.State.{State}

-- the keystrokes that start a command now, with a line feed behind each
abbrev pub keys_lines : List Rule → List ℕ
keys_lines rules = flat_map (λ rule. chord_spelling rule.chord ++ 10 ∷ []) rules

abbrev pub keys_text : List ℕ → State → List ℕ
keys_text command s =
    keys_lines (keys_of (context s.core.scopes) (enablement s.sources) (rules_of s.sources) command)

-- the keystrokes that go on from the open chord, with a line feed behind each
abbrev pub next_lines : List Keystroke → List ℕ
next_lines keys = flat_map (λ key. spelling key ++ 10 ∷ []) keys

abbrev pub continuations_text : State → List ℕ
continuations_text s = next_lines
    (continuations (context s.core.scopes) (enablement s.sources) (rules_of s.sources) s.pressed)

-- the keystroke of a host's bytes
abbrev pub read_stroke : Result Keystroke KeyFault → Option Keystroke
read_stroke (Ok key) = Some key
read_stroke (Err fault) = None

abbrev pub stroke_told : List ℕ → Option Keystroke
stroke_told key = if is_utf8 key then read_stroke (keystroke_of key) else None

-- a look at the session changes it never; it needs one that isn't stopped, and refused memory notes nothing
abbrev pub Looks : (State → EngineData → Type 0) → EngineData → Option RunningData → Outcome → EngineData
    → Type 0
Looks P old None outcome.OutOfOrder new = new ≡ old
Looks P old None o new = ⊥
Looks P old (Some r) outcome.Done new = (r.session.state.stopped ≡ false) × P r.session.state new
Looks P old (Some r) outcome.Stopped new = (r.session.state.stopped ≡ true) × (new ≡ old)
Looks P old (Some r) outcome.NoMemory new = (r.session.state.stopped ≡ false) × (new ≡ old)
Looks P old (Some r) o new = ⊥

-- a look at what a press of a key would take is noted as an event is
pub record NotesTaken (old : EngineData) (key : Keystroke) (s : State) (new : EngineData) : Type 0 where
  pub takes : TakesFound s (chord_spelling (s.pressed ++ key ∷ [])) (found_by key s) new.taken
  pub rest_stays : new ≡ record old { taken = new.taken }

abbrev pub LooksUp : Option Keystroke → EngineData → Outcome → EngineData → Type 0
LooksUp None old o new = (o ≡ outcome.NoKey) × (new ≡ old)
LooksUp (Some key) old o new = Looks (NotesTaken old key) old old.running o new

-- keystrokes are noted as a text
abbrev pub Lists : (State → List ℕ) → EngineData → Outcome → EngineData → Type 0
Lists text old o new = Looks (λ s new. new ≡ record old { shown = text s }) old old.running o new

-- those of a command, if its bytes are a text
abbrev pub text_told : List ℕ → Option (List ℕ)
text_told bytes = if is_utf8 bytes then Some bytes else None

abbrev pub ListsKeys : Option (List ℕ) → EngineData → Outcome → EngineData → Type 0
ListsKeys None old o new = (o ≡ outcome.NoText) × (new ≡ old)
ListsKeys (Some command) old o new = Lists (keys_text command) old o new
