-- What an event takes: the rule of a key press, or the entry of a choice.
use Rattle.std.specs.Prelude.{◌≡◌, ⊤, ◌++◌, ℕ, false, List, [], ◌∷◌, Option, Some, None}
use Rattle.kb_bindings.specs.Sources.{rules_of, source_of}
use Rattle.kb_engine.specs.declared.outcome.Outcome.{Outcome}
use Rattle.kb_engine.specs.declared.outcome.Outcome.TheVariants as outcome
use Rattle.kb_engine.specs.declared.taken.Taken.{Taken}
use Rattle.kb_engine.specs.declared.taken.TakenKind.{TakenKind}
use Rattle.kb_engine.specs.declared.taken.TakenKind.TheVariants as kind
use Rattle.kb_keys.specs.Chord.{chord_spelling}
use Rattle.kb_keys.specs.declared.keystroke.Keystroke.{Keystroke}
use Rattle.kb_palette.specs.declared.listing.Entry.{Entry}
use Rattle.kb_resolve.specs.Resolved.{Resolution, found, found_in, more, nothing}
use Rattle.kb_resolve.specs.declared.found.Found.{Found}
use Rattle.kb_resolve.specs.declared.found.Found.TheVariants as place
use Rattle.kb_rules.specs.declared.rule.Rule.{Rule}
use Rattle.kb_session.specs.Inspect.{found_by}
use Rattle.kb_session.specs.Palette.{entry_at}
use Rattle.kb_session.specs.State.{State, happens}
use Rattle.kb_script.specs.Script.{line_said}
use Rattle.kb_script.specs.Shelf.{Said, tells}
use Rattle.kb_trace.specs.declared.event.Event.{Event}
use Rattle.kb_trace.specs.declared.event.Event.TheVariants as event
use Rattle.serde_json.specs.Data.{Data}
use Rattle.serde_json.specs.Written.{compact_text, has_float}

-- nothing but these keystrokes
abbrev pub bare : TakenKind → List ℕ → Taken
bare is chord =
    record { kind = is; chord = chord; command = []; arguments = []; source = []; place = 0 }

-- the text of arguments, empty without them; a rule's have whole numbers only
abbrev pub AreArguments : Option Data → List ℕ → Type 0
AreArguments None text = text ≡ []
AreArguments (Some given) text = has_float given ≡ false → text ≡ compact_text given

-- the rule that a press takes
pub record TakesRule (s : State) (chord : List ℕ) (rule : Rule) (t : Taken) : Type 0 where
  pub kind_is : t.kind ≡ kind.Started
  pub chord_is : t.chord ≡ chord
  pub command_is : t.command ≡ rule.command
  pub arguments_are : AreArguments rule.args t.arguments
  pub source_is : t.source ≡ source_of s.sources rule.origin
  pub place_is : t.place ≡ rule.place

-- what a press takes, by what it finds
abbrev pub TakesFound : State → List ℕ → Resolution → Taken → Type 0
TakesFound s chord (found rule) t = TakesRule s chord rule t
TakesFound s chord more t = t ≡ bare kind.Chord chord
TakesFound s chord nothing t = t ≡ bare kind.Nothing chord

-- a choice takes the command of the entry, without arguments
abbrev pub chosen : Option Entry → Taken
chosen None = bare kind.Nothing []
chosen (Some e) = record (bare kind.Started []) { command = e.command }

-- nothing
abbrev pub no_taken : Taken
no_taken = bare kind.Nothing []

-- what an event takes without its rule: the keystrokes of a press, and the command of a choice
abbrev pub prepared : Event → State → Taken
prepared (event.Key key) s = bare kind.Nothing (chord_spelling (s.pressed ++ key ∷ []))
prepared (event.Choose number) s = chosen (entry_at number s.listed)
prepared e s = no_taken

-- what is taken in all, by what was found
abbrev pub CompletesAs : State → Option Resolution → Taken → Taken → Type 0
CompletesAs s (Some (found rule)) before t = TakesRule s before.chord rule t
CompletesAs s (Some more) before t = t ≡ bare kind.Chord before.chord
CompletesAs s (Some nothing) before t = t ≡ before
CompletesAs s None before t = t ≡ before

abbrev pub Completes : State → Found → Taken → Taken → Type 0
Completes s f before t = CompletesAs s (found_in (rules_of s.sources) f) before t

-- a rule was found
abbrev pub IsRule : Found → Type 0
IsRule (place.At position) = ⊤
IsRule place.More = ⊥
IsRule place.Nothing = ⊥

-- what an event takes; an event that starts no command takes nothing
abbrev pub Takes : Event → State → Taken → Type 0
Takes (event.Key key) s t = TakesFound s (chord_spelling (s.pressed ++ key ∷ [])) (found_by key s) t
Takes (event.Choose number) s t = t ≡ chosen (entry_at number s.listed)
Takes e s t = t ≡ no_taken

-- what a line takes: what its event takes, if it says one
abbrev pub TakesSaid : Option Said → State → Taken → Type 0
TakesSaid (Some (tells (happens e))) s t = Takes e s t
TakesSaid said s t = t ≡ no_taken

-- the same without its rule
abbrev pub prepared_line : Option Said → State → Taken
prepared_line (Some (tells (happens e))) s = prepared e s
prepared_line said s = no_taken

-- what the line of this number takes
abbrev pub TakesLine : ℕ → List ℕ → State → Taken → Type 0
TakesLine number line s t = TakesSaid (line_said number line) s t

-- what was taken behind an outcome: nothing, if nothing was done
abbrev pub taken_if : Outcome → Taken → Taken
taken_if outcome.Stopped t = no_taken
taken_if outcome.NoMemory t = no_taken
taken_if o t = t

-- the same as a relation
abbrev pub TakesBy : (Taken → Type 0) → Outcome → Taken → Type 0
TakesBy P outcome.Stopped t = t ≡ no_taken
TakesBy P outcome.NoMemory t = t ≡ no_taken
TakesBy P o t = P t
