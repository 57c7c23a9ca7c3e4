-- The lines of a trace, as bytes.
use Rattle.std.specs.Prelude.{ℕ, List, [], ◌∷◌, ◌++◌, Option, Some, None, codes, decimal}
use Rattle.std.specs.Prelude.{Bool, nat_le, not, ◌==◌, ◌&&◌}
use Rattle.serde_json.specs.Data.{string}
use Rattle.serde_json.specs.Written.{compact_text}
use Rattle.kb_keys.specs.declared.keystroke.Keystroke.{Keystroke}
use Rattle.kb_keys.specs.Chord.{chord_spelling}
use Rattle.kb_keys.specs.Keystroke.{spelling}
use Rattle.kb_core.specs.declared.buffer.Buffer.{Buffer}
use Rattle.kb_base.specs.Fault.{fault_words}
use Rattle.kb_base.specs.declared.fault.FaultKind.{FaultKind}
use Rattle.kb_base.specs.declared.refusal.Refusal.{Refusal}

-- key ctrl+k ctrl+c
abbrev pub key_text : List Keystroke → Keystroke → List ℕ
key_text pressed key = codes "key " ++ chord_spelling (pressed ++ key ∷ [])

-- the text of the press, then ": start type"
abbrev pub start_line : List ℕ → List ℕ → List ℕ
start_line text command = text ++ (codes ": start " ++ command)

-- left ctrl+k
abbrev pub left_line : List Keystroke → List ℕ
left_line pressed = codes "left " ++ chord_spelling pressed

-- focus editor
abbrev pub focus_line : List ℕ → List ℕ
focus_line scope = codes "focus " ++ scope

-- set editor dirty
abbrev pub set_line : List ℕ → List ℕ → List ℕ
set_line scope key = codes "set " ++ (scope ++ (codes " " ++ key))

-- unset editor dirty
abbrev pub unset_line : List ℕ → List ℕ → List ℕ
unset_line scope key = codes "unset " ++ (scope ++ (codes " " ++ key))

abbrev pub reloaded_line : List ℕ
reloaded_line = codes "reloaded"

-- rule ctrl+s
abbrev pub rule_line : Keystroke → List ℕ
rule_line key = codes "rule " ++ spelling key

-- palette 2
abbrev pub palette_line : ℕ → List ℕ
palette_line count = codes "palette " ++ decimal count

-- 1. Hello: Hello World [x.hello]
abbrev pub entry_line : ℕ → List ℕ → List ℕ → List ℕ
entry_line number label command =
    decimal number ++ (codes ". " ++ (label ++ (codes " [" ++ (command ++ codes "]"))))

-- choose 1
abbrev pub choose_text : ℕ → List ℕ
choose_text number = codes "choose " ++ decimal number

-- enabled publisher.name
abbrev pub enabled_line : List ℕ → List ℕ
enabled_line id = codes "enabled " ++ id

-- disabled publisher.name
abbrev pub disabled_line : List ℕ → List ℕ
disabled_line id = codes "disabled " ++ id

-- updated publisher.name
abbrev pub updated_line : List ℕ → List ℕ
updated_line id = codes "updated " ++ id

-- registered type 10
abbrev pub registered_line : List ℕ → ℕ → List ℕ
registered_line command ticket = codes "registered " ++ (command ++ (codes " " ++ decimal ticket))

-- disposed type 10
abbrev pub disposed_line : List ℕ → ℕ → List ℕ
disposed_line command ticket = codes "disposed " ++ (command ++ (codes " " ++ decimal ticket))

-- run type
abbrev pub run_line : List ℕ → List ℕ
run_line command = codes "run " ++ command

-- refused 4 Syntax, and refused 73 InUse x.hi
abbrev pub refused_words : FaultKind → Option (List ℕ) → List ℕ
refused_words fault None = codes "refused " ++ fault_words fault
refused_words fault (Some detail) = codes "refused " ++ (fault_words fault ++ (codes " " ++ detail))

abbrev pub refused_line : Refusal → List ℕ
refused_line refusal = refused_words refusal.kind refusal.detail

-- not found type
abbrev pub not_found_line : List ℕ → List ℕ
not_found_line command = codes "not found " ++ command

-- bad arguments type
abbrev pub bad_arguments_line : List ℕ → List ℕ
bad_arguments_line command = codes "bad arguments " ++ command

-- unread line 7
abbrev pub unread_line : ℕ → List ℕ
unread_line number = codes "unread line " ++ decimal number

-- trap 83 OutOfBudget x.hi 2
abbrev pub trap_line : FaultKind → List ℕ → ℕ → List ℕ
trap_line fault command place =
    codes "trap " ++ (fault_words fault ++ (codes " " ++ (command ++ (codes " " ++ decimal place))))

-- a text as a JSON string
abbrev pub json_string : List ℕ → List ℕ
json_string text = compact_text (string text)

-- JSON has this byte as it is: it is no control character, quote or backslash
abbrev pub has_itself : ℕ → Bool
has_itself byte = nat_le 32 byte && not (byte == 34) && not (byte == 92)

-- done "before" "after"
abbrev pub done_line : Buffer → List ℕ
done_line buffer = codes "done " ++ (json_string buffer.before ++ (codes " " ++ json_string buffer.after))
