-- The definitions, evaluated on examples by computation. No code of the engine runs here.
use Rattle.std.proofs.Common.{◌≡◌, ℕ, List, [], ◌∷◌, ◌++◌, refl}
use Rattle.std.specs.Prelude.{codes, Result, Ok, Err}
use Rattle.std.specs.Fmt.{digits}
use Rattle.std.specs.Str.{is_utf8, chars}
use lib.Utf8.{encode}
use Rattle.serde_json.proofs.OnLiterals.{serde_json_on_literals}
use Rattle.kb_base.specs.Text.{without_last, only_last, without_first, only_first}
use Rattle.kb_jsonc.specs.Pieces.{first_piece}
use Rattle.kb_jsonc.specs.Text.{plain_text}
use Rattle.kb_jsonc.specs.Reader.{plain_value, value_of}
use Rattle.kb_keys.specs.KeyName.{names, key_named}
use Rattle.kb_keys.specs.Keystroke.{keystroke_of, split_of, spelling}
use Rattle.kb_rules.specs.Entry.{when_of, keystrokes_of, condition_of, args_of}
use Rattle.kb_rules.specs.Entry.{binding_of, terms_of, element_of}
use Rattle.kb_rules.specs.RuleList.{Listed, no_elements}
use Rattle.kb_base.specs.declared.note.Origin.TheVariants.{User}
use Rattle.kb_base.specs.Fault.{fault_name}
use Rattle.kb_base.specs.declared.refusal.Refusal.{Refusal}
use Rattle.kb_core.specs.Native.{natives}
use Rattle.kb_registry.specs.Live.{Live, fresh, all_registered}
use Rattle.kb_registry.specs.declared.fault.RegistryFault.{RegistryFault}
use Rattle.kb_script.specs.Script.{said_of}
use Rattle.kb_script.specs.Shelf.{move, stand}
use Rattle.kb_bindings.specs.Sources.{Sources}
use Rattle.kb_execute.specs.Start.{start_of}
use Rattle.kb_session.specs.State.{loaded_state}
use Rattle.kb_stream.specs.FoldWriting.{text_of}
use Rattle.kb_files.specs.Layout.{window_scopes}
use Rattle.kb_files.specs.RuleFile.{rules_in}

-- lines, each with its line feed
abbrev pub lines : List (List ℕ) → List ℕ
lines [] = []
lines (line ∷ more) = line ++ (10 ∷ lines more)

-- the user's rules alone
abbrev sources_of : Listed → Sources
sources_of listed = record { defaults = no_elements; extensions = []; user = listed }

-- the registrations, where none was refused
abbrev live_in : Result Live RegistryFault → Live
live_in (Ok live) = live
live_in (Err fault) = fresh 0

-- a closure for each native, as a load registers them
abbrev all_live : Live
all_live = live_in (all_registered natives (fresh 1000000))

abbrev written_by : Result Listed Refusal → List ℕ → List ℕ
written_by (Ok listed) script =
    text_of move (said_of script) (stand (loaded_state window_scopes.seen (sources_of listed) all_live) natives)
written_by (Err fault) script = []

-- what a script writes, in a session with the user's rules, of which no pattern is unread, and with a
-- closure for each native, beside a shelf with one more for each
abbrev pub written : List ℕ → List (List ℕ) → List ℕ
written user script = written_by (rules_in [] User user) (lines script)

a_key_without_rules : written [] (codes "key Shift+CTRL-A" ∷ []) ≡ lines (codes "key ctrl+shift+a: unbound" ∷ [])
unfolding start_of rules_in value_of plain_text plain_value first_piece is_utf8 chars encode names key_named keystroke_of split_of spelling
a_key_without_rules = refl

a_rule_starts_its_command : written (codes "[{\"key\":\"a\",\"command\":\"type\",\"args\":\"hi\"}]") (codes "key a" ∷ codes "key b" ∷ [])
    ≡ lines (codes "key a: start type" ∷ codes "done \"hi\" \"\"" ∷ codes "key b: unbound" ∷ [])
unfolding start_of rules_in value_of plain_text plain_value first_piece is_utf8 chars encode names key_named keystroke_of split_of spelling when_of keystrokes_of condition_of args_of binding_of terms_of element_of serde_json_on_literals
a_rule_starts_its_command = refl

the_lowest_rule_goes_first : written (codes "[{\"key\":\"a\",\"command\":\"type\",\"args\":\"x\"},{\"key\":\"a\",\"command\":\"type\",\"args\":\"y\"}]") (codes "key a" ∷ [])
    ≡ lines (codes "key a: start type" ∷ codes "done \"y\" \"\"" ∷ [])
unfolding start_of rules_in value_of plain_text plain_value first_piece is_utf8 chars encode names key_named keystroke_of split_of spelling when_of keystrokes_of condition_of args_of binding_of terms_of element_of serde_json_on_literals digits
the_lowest_rule_goes_first = refl

a_chord_below_its_first_key : written (codes "[{\"key\":\"ctrl+k\",\"command\":\"x\"},{\"key\":\"ctrl+k ctrl+c\",\"command\":\"y\"}]") (codes "key ctrl+k" ∷ codes "key ctrl+c" ∷ codes "key ctrl+k" ∷ codes "key x" ∷ [])
    ≡ lines (codes "key ctrl+k: chord" ∷ codes "key ctrl+k ctrl+c: start y" ∷ codes "not found y" ∷ codes "key ctrl+k: chord" ∷ codes "key ctrl+k x: left" ∷ [])
unfolding start_of rules_in value_of plain_text plain_value first_piece is_utf8 chars encode names key_named keystroke_of split_of spelling when_of keystrokes_of condition_of args_of binding_of terms_of element_of serde_json_on_literals digits
a_chord_below_its_first_key = refl

a_rule_for_one_key_below_a_chord : written (codes "[{\"key\":\"ctrl+k ctrl+c\",\"command\":\"x\"},{\"key\":\"ctrl+k\",\"command\":\"y\"}]") (codes "key ctrl+k" ∷ [])
    ≡ lines (codes "key ctrl+k: start y" ∷ codes "not found y" ∷ [])
unfolding start_of rules_in value_of plain_text plain_value first_piece is_utf8 chars encode names key_named keystroke_of split_of spelling when_of keystrokes_of condition_of args_of binding_of terms_of element_of serde_json_on_literals digits
a_rule_for_one_key_below_a_chord = refl

the_empty_command_starts_nothing : written (codes "[{\"key\":\"tab\",\"command\":\"type\"},{\"key\":\"tab\",\"command\":\"\"}]") (codes "key tab" ∷ [])
    ≡ lines (codes "key tab: no action" ∷ [])
unfolding start_of rules_in value_of plain_text plain_value first_piece is_utf8 chars encode names key_named keystroke_of split_of spelling when_of keystrokes_of condition_of args_of binding_of terms_of element_of serde_json_on_literals digits
the_empty_command_starts_nothing = refl

arguments_by_kind : written (codes "[{\"key\":\"t\",\"command\":\"type\",\"args\":{\"text\":5}},{\"key\":\"u\",\"command\":\"type\"},{\"key\":\"v\",\"command\":\"type\",\"args\":[]}]") (codes "key t" ∷ codes "key u" ∷ codes "key v" ∷ [])
    ≡ lines (codes "key t: start type" ∷ codes "bad arguments type" ∷ codes "key u: start type" ∷ codes "done \"\" \"\"" ∷ codes "key v: start type" ∷ codes "bad arguments type" ∷ [])
unfolding start_of rules_in value_of plain_text plain_value first_piece is_utf8 chars encode names key_named keystroke_of split_of spelling when_of keystrokes_of condition_of args_of binding_of terms_of element_of serde_json_on_literals digits
arguments_by_kind = refl

reloads : written (codes "[{\"key\":\"ctrl+k ctrl+c\",\"command\":\"x\"}]") (codes "key ctrl+k" ∷ codes "reload [,]" ∷ codes "reload {}" ∷ codes "reload [] // none" ∷ codes "key ctrl+k" ∷ codes "what" ∷ [])
    ≡ lines (codes "key ctrl+k: chord" ∷ codes "refused 4 Syntax" ∷ codes "refused 41 WrongShape" ∷ codes "left ctrl+k" ∷ codes "reloaded" ∷ codes "key ctrl+k: unbound" ∷ codes "unread line 6" ∷ [])
unfolding start_of fault_name rules_in value_of plain_text plain_value first_piece is_utf8 chars encode names key_named keystroke_of split_of spelling when_of keystrokes_of condition_of args_of binding_of terms_of element_of serde_json_on_literals digits
reloads = refl

-- é is the two bytes 195 and 169, and is written with an escape in the file
characters_are_scalar_values : written (codes "[{\"key\":\"a\",\"command\":\"type\",\"args\":\"a\\u00e9\"},{\"key\":\"b\",\"command\":\"cursorLeft\"},{\"key\":\"c\",\"command\":\"deleteRight\"}]") (codes "key a" ∷ codes "key b" ∷ codes "key c" ∷ [])
    ≡ lines (codes "key a: start type" ∷ (codes "done \"a" ++ (195 ∷ 169 ∷ codes "\" \"\"")) ∷ codes "key b: start cursorLeft" ∷ (codes "done \"a\" \"" ++ (195 ∷ 169 ∷ codes "\"")) ∷ codes "key c: start deleteRight" ∷ codes "done \"a\" \"\"" ∷ [])
unfolding start_of rules_in value_of plain_text plain_value first_piece is_utf8 chars encode names key_named keystroke_of split_of spelling when_of keystrokes_of condition_of args_of binding_of terms_of element_of serde_json_on_literals digits without_last only_last without_first only_first
characters_are_scalar_values = refl

the_focus_leaves_a_chord : written (codes "[{\"key\":\"a b\",\"command\":\"x\"}]") (codes "key a" ∷ codes "focus nowhere" ∷ codes "focus window" ∷ codes "key b" ∷ [])
    ≡ lines (codes "key a: chord" ∷ codes "refused 20 UnknownScope" ∷ codes "left a" ∷ codes "focus window" ∷ codes "key b: unbound" ∷ [])
unfolding start_of fault_name rules_in value_of plain_text plain_value first_piece is_utf8 chars encode names key_named keystroke_of split_of spelling when_of keystrokes_of condition_of args_of binding_of terms_of element_of serde_json_on_literals digits
the_focus_leaves_a_chord = refl

a_ticket_is_given_once : written (codes "[{\"key\":\"t\",\"command\":\"type\",\"args\":\"x\"}]") (codes "dispose 1" ∷ codes "dispose 1" ∷ codes "key t" ∷ codes "register type" ∷ codes "dispose 1" ∷ codes "key t" ∷ codes "register type" ∷ codes "register nope" ∷ [])
    ≡ lines (codes "disposed type 1" ∷ codes "refused 72 StaleTicket" ∷ codes "key t: start type" ∷ codes "not found type" ∷ codes "registered type 10" ∷ codes "refused 72 StaleTicket" ∷ codes "key t: start type" ∷ codes "done \"x\" \"\"" ∷ codes "refused 70 AlreadyExists" ∷ codes "unread line 8" ∷ [])
unfolding start_of fault_name rules_in value_of plain_text plain_value first_piece is_utf8 chars encode names key_named keystroke_of split_of spelling when_of keystrokes_of condition_of args_of binding_of terms_of element_of serde_json_on_literals digits
a_ticket_is_given_once = refl

commands_run_in_order : written (codes "[{\"key\":\"r\",\"command\":\"runCommands\",\"args\":{\"commands\":[{\"command\":\"type\",\"args\":\"a\"},\"no.such\",\"buffer.clear\"]}},{\"key\":\"s\",\"command\":\"runCommands\",\"args\":{\"commands\":[\"runCommands\"]}}]") (codes "key r" ∷ codes "key s" ∷ [])
    ≡ lines (codes "key r: start runCommands" ∷ codes "run type" ∷ codes "done \"a\" \"\"" ∷ codes "run no.such" ∷ codes "not found no.such" ∷ codes "key s: start runCommands" ∷ codes "bad arguments runCommands" ∷ [])
unfolding start_of fault_name rules_in value_of plain_text plain_value first_piece is_utf8 chars encode names key_named keystroke_of split_of spelling when_of keystrokes_of condition_of args_of binding_of terms_of element_of serde_json_on_literals digits
commands_run_in_order = refl
