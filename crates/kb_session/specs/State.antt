-- The model of a session: its state, and for each input the next state, the trace lines and the answer.
use Rattle.std.specs.Prelude.{◌≡◌, ℕ, ◌+◌, Bool, true, false, List, [], ◌∷◌, ◌++◌, Option}
use Rattle.std.specs.Prelude.{Some, None, not, option_map, if◌then◌else◌, length}
use Rattle.std.specs.Prelude.{Result, Ok, Err, IfOk, ⊤}
use Rattle.std.specs.Option.{option_map_or}
use Rattle.kb_base.specs.declared.fault.FaultKind.TheVariants as kind
use Rattle.kb_base.specs.Refusal.{refused_for}
use Rattle.kb_context.specs.ScopeFault.{kind_of}
use Rattle.kb_context.specs.Scopes.{ScopesData, context, place_of, set_fault, with_value, without_value}
use Rattle.kb_context.specs.Scopes.{with_focus}
use Rattle.kb_context.specs.declared.fault.ScopeFault.{ScopeFault}
use Rattle.kb_context.specs.declared.fault.ScopeFault.TheVariants.{UnknownScope}
use Rattle.kb_base.specs.declared.refusal.Refusal.{Refusal}
use Rattle.kb_code.specs.Handler.{HandlerData}
use Rattle.kb_handler_table.specs.Live.{caller_of}
use Rattle.kb_core.specs.Core.{new_core, with_scopes}
use Rattle.kb_core.specs.Native.{name_of}
use Rattle.kb_core.specs.declared.native.Native.{Native}
use Rattle.kb_core.specs.Core.{Core}
use Rattle.kb_files.specs.RuleFile.{rules_in}
use Rattle.kb_keys.specs.declared.keystroke.Keystroke.{Keystroke}
use Rattle.kb_registry.specs.Fault as registry
use Rattle.kb_extension_code.specs.Dependencies.{Placed, extension_named}
use Rattle.kb_extension_code.specs.Settled.{IsSettled}
use Rattle.kb_extension_code.specs.Switching.{disable_refusal, enable_refusal}
use Rattle.kb_extension_code.specs.Updating.{updated_code}
use Rattle.kb_files.specs.declared.extension_file.Extension.{Extension}
use Rattle.kb_handler_table.specs.Codes.{CodesData}
use Rattle.kb_registry.specs.Live.{Live, registration_fault, registered, holder, disposed}
use Rattle.kb_registry.specs.Live.{with_exchanged, with_switched}
use Rattle.kb_registry.specs.declared.fault.RegistryFault.{RegistryFault}
use Rattle.kb_rules.specs.RuleList.{AreRightlyMarked, Listed, with_rule}
use Rattle.kb_rules.specs.declared.rule.Rule.{Rule}
use Rattle.serde_json.specs.Data.{string}
use Rattle.kb_base.specs.declared.note.Origin.TheVariants.{User}
use Rattle.kb_base.specs.declared.note.EntryPattern.{EntryPattern}
use Rattle.kb_bindings.specs.Sources.{Sources, with_enabled, with_user_rules, pressed, still_pressed}
use Rattle.kb_palette.specs.History.{noted}
use Rattle.kb_palette.specs.Listing.{palette_list}
use Rattle.kb_palette.specs.declared.listing.Entry.{Entry}
use Rattle.kb_palette_commands.specs.Palette.{palette_commands}
use Rattle.kb_session.specs.Palette.{choice_started, entry_at, palette_lines}
use Rattle.kb_session.specs.Press.{press_started}
use Rattle.kb_execute.specs.Start.{Started, stops}
use Rattle.kb_bindings.specs.Unread.{unread_of}
use Rattle.kb_stream.specs.Fold.{Out}
use Rattle.kb_trace.specs.Lines as line
use Rattle.kb_trace.specs.declared.event.Event.{Event}
use Rattle.kb_trace.specs.declared.event.Event.TheVariants as event

-- the unread patterns have one list for the load and one for each successful reload; `history` has the last
-- choices, and `listed` the entries of the last palette, until one of them is chosen; `takes_rules` says
-- whether lines of a script add rules
pub record State : Type 0 where
  pub core : Core
  pub sources : Sources
  pub live : Live
  pub pressed : List Keystroke
  pub stopped : Bool
  pub unread : List (List EntryPattern)
  pub history : List (List ℕ)
  pub listed : Option (List Entry)
  pub takes_rules : Bool

-- an input of a session: an event; the bytes of the user's rules for a reload, with the marks of their
-- unread patterns; a native whose closure is registered; a ticket to dispose of; or a rule in the script's
-- line of this number, by its key, its command and its text
pub data Told : Type 0 where
  happens : Event → Told
  reload : List ℕ → List EntryPattern → Told
  register : Native → Told
  dispose : ℕ → Told
  types_rule : ℕ → Keystroke → List ℕ → List ℕ → Told

-- the answer to an input: done; the ticket of a registered closure; the closure of a disposed ticket; a
-- refusal; or halted, if the session was already stopped
pub data Answered : Type 0 where
  did : Answered
  ticket : ℕ → Answered
  gave : Native → Answered
  refused : Refusal → Answered
  halted : Answered

pub record Stepped : Type 0 where
  pub state : State
  pub lines : List (List ℕ)
  pub answer : Answered

abbrev pub stepped : State → List (List ℕ) → Answered → Stepped
stepped s lines answer = record { state = s; lines = lines; answer = answer }

-- the state and the lines, without the answer
abbrev pub out_of : Stepped → Out State
out_of p = record { state = p.state; lines = p.lines }

-- a refusal changes nothing and has a trace line
abbrev pub refuse : Refusal → State → Stepped
refuse r s = stepped s (line.refused_line r ∷ []) (refused r)

-- the core with other scopes and the same text
abbrev pub in_scopes : ScopesData → State → State
in_scopes scopes s = record s { core = with_scopes s.core scopes }

-- the line of a chord that ends, if one is open
abbrev pub left_lines : List Keystroke → List (List ℕ)
left_lines [] = []
left_lines (key ∷ keys) = line.left_line (key ∷ keys) ∷ []

-- an open chord ends, and then a line follows
abbrev pub leave : List ℕ → State → Stepped
leave last s = stepped (record s { pressed = [] }) (left_lines s.pressed ++ last ∷ []) did

-- a key press has an effect, and leaves some keystrokes in the chord
abbrev pub begun : Started → List Keystroke → State → Stepped
begun p pressed s =
    stepped (record s { core = p.core; pressed = pressed; stopped = stops p.finish }) p.lines did

-- a key press, with the context keys that the focus sees at that moment
abbrev pub press : Keystroke → State → Stepped
press key s =
    let does = pressed s.pressed key s.core.scopes s.sources in
    begun (press_started (line.key_text s.pressed key) does s.live s.core)
    (still_pressed s.pressed key s.core.scopes s.sources) s

-- the fault of an event that the scopes refuse, if they do
abbrev pub unless_known : Option ℕ → Option ScopeFault
unless_known None = Some UnknownScope
unless_known (Some place) = None

abbrev pub fault_of : Event → State → Option ScopeFault
fault_of (event.Focus name) s = unless_known (place_of name s.core.scopes.scopes)
fault_of (event.SetKey name key value) s = set_fault s.core.scopes name key
fault_of (event.UnsetKey name key) s = unless_known (place_of name s.core.scopes.scopes)
fault_of _ s = None

-- the refusal of an event of an extension: there is no such extension (92), or another reason
abbrev pub extension_refusal : (Extension → Option Refusal) → Option Placed → Option Refusal
extension_refusal why None = Some (refused_for kind.UnknownExtension)
extension_refusal why (Some p) = why p.extension

-- the extension that an identifier names
abbrev pub named_in : List ℕ → State → Option Placed
named_in id s = extension_named id s.sources.extensions

abbrev pub enabling_refusal : List ℕ → State → Option Refusal
enabling_refusal id s =
    extension_refusal (λ e. enable_refusal e s.sources.extensions s.live) (named_in id s)

abbrev pub disabling_refusal : List ℕ → State → Option Refusal
disabling_refusal id s = extension_refusal (λ e. disable_refusal e s.sources.extensions) (named_in id s)

abbrev pub refusal_of : Event → State → Option Refusal
refusal_of (event.Enable id) s = enabling_refusal id s
refusal_of (event.Disable id) s = disabling_refusal id s
refusal_of e s = option_map (λ fault. refused_for (kind_of fault)) (fault_of e s)

-- the state with other live commands
abbrev pub with_live : Live → State → State
with_live live s = record s { live = live }

-- how its manifest spells the identifier of an extension
abbrev pub spelled : Option Placed → List ℕ
spelled p = option_map_or (λ p. p.extension.manifest.id) p []

-- whether an extension isn't yet enabled, or not yet disabled
abbrev pub is_new : Bool → Extension → Bool
is_new true e = not e.enabled
is_new false e = e.enabled

-- the place and the number of the extension that is to be enabled or disabled, if it isn't already
abbrev pub switch_target : Bool → Option Placed → Option (ℕ × ℕ)
switch_target enabled None = None
switch_target enabled (Some p) =
    if is_new enabled p.extension then Some (p.place, p.extension.number) else None

-- the state with the extension of this place and number enabled or disabled: its rules and enablements count
-- or don't, and its handlers are live or aren't
abbrev pub switched_to : Bool → Option (ℕ × ℕ) → State → State
switched_to enabled None s = s
switched_to enabled (Some target) s = record s {
  sources = with_enabled target.0 enabled s.sources;
  live = with_switched target.1 enabled s.live;
}

abbrev pub switched : Bool → Option Placed → State → State
switched enabled p s = switched_to enabled (switch_target enabled p) s

-- the line of an extension that is enabled or disabled
abbrev pub switch_line : Bool → List ℕ → List ℕ
switch_line true id = line.enabled_line id
switch_line false id = line.disabled_line id

-- enabling and disabling end a chord
abbrev pub switching : Bool → List ℕ → State → Stepped
switching enabled id s =
    leave (switch_line enabled (spelled (named_in id s))) (switched enabled (named_in id s) s)

-- the code that an update gives an extension, or why it is refused
abbrev pub code_updated : Option Placed → List ℕ → State → Result CodesData Refusal
code_updated None bytes s = Err (refused_for kind.UnknownExtension)
code_updated (Some p) bytes s = updated_code p.extension s.sources.extensions s.live bytes

-- the state with other code of an extension, live or not
abbrev pub with_code_of : Option Placed → CodesData → State → State
with_code_of None codes s = s
with_code_of (Some p) codes s = with_live (with_exchanged p.extension.number codes s.live) s

-- an update; an open chord stays
abbrev pub updated : Result CodesData Refusal → Option Placed → State → Stepped
updated (Ok codes) p s = stepped (with_code_of p codes s) (line.updated_line (spelled p) ∷ []) did
updated (Err r) p s = refuse r s

-- the entries of the palette for a query: the commands in force that it finds
abbrev pub entries_for : List ℕ → State → List Entry
entries_for query s =
    palette_list (context s.core.scopes) query (palette_commands s.sources.extensions) s.history

-- the palette lists entries; an open chord stays
abbrev pub listing : List Entry → State → Stepped
listing entries s = stepped (record s { listed = Some entries }) (palette_lines entries) did

-- the state after a choice: the command is in the history, and the list is closed
abbrev pub with_choice : List ℕ → State → State
with_choice command s = record s { history = noted command s.history; listed = None }

-- a choice starts the command of an entry without arguments, enabled or not; an open chord stays
abbrev pub choosing : Option Entry → ℕ → State → Stepped
choosing (Some e) number s =
    begun (choice_started number e.command s.live s.core) s.pressed (with_choice e.command s)
choosing None number s = refuse (refused_for kind.NoEntry) s

-- the effect of an event without a refusal: a change of the focus ends a chord, and changes of keys don't; a
-- choice and an update may be refused yet, and a registration without a closure of the host is
abbrev pub taken : Event → State → Stepped
taken (event.Key key) s = press key s
taken (event.Focus name) s = leave (line.focus_line name) (in_scopes (with_focus s.core.scopes name) s)
taken (event.SetKey name key value) s =
    stepped (in_scopes (with_value s.core.scopes name key value) s) (line.set_line name key ∷ []) did
taken (event.UnsetKey name key) s =
    stepped (in_scopes (without_value s.core.scopes name key) s) (line.unset_line name key ∷ []) did
taken (event.Palette query) s = listing (entries_for query s) s
taken (event.Choose number) s = choosing (entry_at number s.listed) number s
taken (event.Enable id) s = switching true id s
taken (event.Disable id) s = switching false id s
taken (event.Update id bytes) s = updated (code_updated (named_in id s) bytes s) (named_in id s) s
taken event.NoClosure s = refuse (refused_for kind.NoClosure) s
taken (event.Unread number) s = stepped s (line.unread_line number ∷ []) did

abbrev pub taken_unless : Option Refusal → Event → State → Stepped
taken_unless None e s = taken e s
taken_unless (Some r) e s = refuse r s

-- the state with other rules of the user; their unread patterns are a new list after the earlier ones
abbrev pub with_user : Listed → State → State
with_user user s = record s {
  sources = with_user_rules user s.sources;
  unread = s.unread ++ user.unread ∷ [];
}

-- a successful reload ends the chord; a refused file changes nothing
abbrev pub reloaded : Result Listed Refusal → State → Stepped
reloaded (Ok user) s = leave line.reloaded_line (with_user user s)
reloaded (Err r) s = refuse r s

-- the rule of a line: it has no clause, and the text is its argument; its place is the number of the user's
-- rules above it
abbrev pub typed_rule : Keystroke → List ℕ → List ℕ → ℕ → Rule
typed_rule key command text place = record {
  chord = key ∷ [];
  command = command;
  when = None;
  args = Some (string text);
  origin = User;
  place = place;
}

-- the state with that rule at the bottom of the user's
abbrev pub with_typed : Keystroke → List ℕ → List ℕ → State → State
with_typed key command text s =
    let rule = typed_rule key command text (length s.sources.user.rules) in
    record s { sources = with_user_rules (with_rule rule s.sources.user) s.sources }

-- a rule of a line is added, and ends the chord, if the session takes such lines; else the line is unread
abbrev pub rule_typed : Bool → ℕ → Keystroke → List ℕ → List ℕ → State → Stepped
rule_typed true number key command text s = leave (line.rule_line key) (with_typed key command text s)
rule_typed false number key command text s = stepped s (line.unread_line number ∷ []) did

-- a closure for a native is registered, unless that is refused; an open chord stays
abbrev pub registering : Option RegistryFault → Native → State → Stepped
registering None native s =
    stepped (with_live (registered native s.live) s)
    (line.registered_line (name_of native) (s.live.made + 1) ∷ []) (ticket (s.live.made + 1))
registering (Some fault) native s = refuse (refused_for (registry.kind_of fault)) s

-- the closure of a ticket is removed, unless a live handler calls its native; an open chord stays
abbrev pub disposing_unless : Option HandlerData → Native → ℕ → State → Stepped
disposing_unless None native number s =
    stepped (with_live (disposed number s.live) s) (line.disposed_line (name_of native) number ∷ [])
    (gave native)
disposing_unless (Some caller) native number s =
    refuse (record { kind = kind.InUse; detail = Some caller.command }) s

-- the same for a ticket, if a closure has it
abbrev pub disposing : Option Native → ℕ → State → Stepped
disposing (Some native) number s = disposing_unless (caller_of native s.live.code) native number s
disposing None number s = refuse (refused_for kind.StaleTicket) s

-- the step of a running session
abbrev pub step_on : Told → State → Stepped
step_on (happens e) s = taken_unless (refusal_of e s) e s
step_on (reload bytes marks) s = reloaded (rules_in marks User bytes) s
step_on (register native) s = registering (registration_fault native s.live) native s
step_on (dispose number) s = disposing (holder number s.live) number s
step_on (types_rule number key command text) s = rule_typed s.takes_rules number key command text s

abbrev pub step_unless : Bool → Told → State → Stepped
step_unless true told s = stepped s [] halted
step_unless false told s = step_on told s

-- the step of a session; a stopped session stays unchanged, so a fold of steps ends at the first stop
abbrev pub step : Told → State → Stepped
step told s = step_unless s.stopped told s

abbrev pub next : Told → State → Out State
next told s = out_of (step told s)

-- the patterns of the rules that a reload brings are marked as `regex` does or doesn't read them
abbrev pub IsRightlyTold : Told → Type 0
IsRightlyTold (happens e) = ⊤
IsRightlyTold (reload bytes marks) = IfOk (rules_in marks User bytes) AreRightlyMarked
IsRightlyTold (register native) = ⊤
IsRightlyTold (dispose number) = ⊤
IsRightlyTold (types_rule number key command text) = ⊤

-- the state of a new session
abbrev pub loaded_state : ScopesData → Sources → Live → State
loaded_state scopes sources live = record {
  core = new_core scopes;
  sources = sources;
  live = live;
  pressed = [];
  stopped = false;
  unread = unread_of sources ∷ [];
  history = [];
  listed = None;
  takes_rules = false;
}

-- all handlers of a session are verified, and it is settled: no live handler traps
abbrev pub IsSafe : State → Type 0
IsSafe s = IsSettled s.sources.extensions s.live

-- no input stops a running session that is safe, and it stays safe
abbrev pub RunsOn : Type 0
RunsOn = (told : Told) (s : State) → s.stopped ≡ false → IsSafe s
    → ((step told s).state.stopped ≡ false) × IsSafe (step told s).state
