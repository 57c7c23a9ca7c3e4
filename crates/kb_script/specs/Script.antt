-- The meaning of a script's bytes. They have no marks of unread patterns: a reload has none here.
use Rattle.std.specs.Prelude.{ℕ, ◌+◌, ◌-◌, ◌^◌, Bool, false, not, ◌&&◌, List, [], ◌∷◌, ◌++◌, codes, ◌==◌}
use Rattle.std.specs.Prelude.{Option, Some, None, option_map, option_to_list, Result, Ok, Err}
use Rattle.std.specs.Prelude.{nat_eq, nat_lt, length, take, slice_get, if◌then◌else◌}
use Rattle.std.specs.List.{slice_split, before_first, after_first, position_or_len, list_any, list_all}
use Rattle.std.specs.Char.{is_ascii_digit}
use Rattle.std.specs.Str.{bytes_eq, is_utf8}
use Rattle.std.specs.Str.Parse.{digits_value}
use Rattle.kb_base.specs.Blank.{is_blank}
use Rattle.kb_context.specs.declared.value.ContextValue.{ContextValue}
use Rattle.kb_core.specs.Native.{named}
use Rattle.kb_files.specs.Context.{context_in}
use Rattle.kb_keys.specs.declared.key_fault.KeyFault.{KeyFault}
use Rattle.kb_keys.specs.declared.keystroke.Keystroke.{Keystroke}
use Rattle.kb_keys.specs.Keystroke.{keystroke_of}
use Rattle.kb_trace.specs.declared.event.Event.{Event}
use Rattle.kb_trace.specs.declared.event.Event.TheVariants as event
use Rattle.kb_script.specs.Shelf.{Said, tells, takes}
use Rattle.kb_session.specs.State.{Told, happens, reload, dispose, types_rule}

abbrev pub is_space : ℕ → Bool
is_space b = b == 32

abbrev pub is_line_feed : ℕ → Bool
is_line_feed b = b == 10

abbrev pub is_return : Option ℕ → Bool
is_return None = false
is_return (Some b) = b == 13

-- a line without a carriage return at its end
abbrev pub without_return : List ℕ → List ℕ
without_return line =
    if is_return (slice_get line (length line - 1)) then take (length line - 1) line else line

-- all lines but the last lose a carriage return at the end, since no line feed follows the last
abbrev pub without_returns : List (List ℕ) → List (List ℕ)
without_returns [] = []
without_returns (last ∷ []) = last ∷ []
without_returns (line ∷ next ∷ lines) = without_return line ∷ without_returns (next ∷ lines)

-- the lines of a script; the bytes after the last line feed are a line
abbrev pub lines_of : List ℕ → List (List ℕ)
lines_of bytes = without_returns (slice_split is_line_feed bytes)

-- the lines after a line feed, if there is one
abbrev pub lines_behind : Option (List ℕ) → List (List ℕ)
lines_behind None = []
lines_behind (Some rest) = lines_of rest

-- the parts before and after the first space, if there is one
abbrev pub split_word : List ℕ → Option (List ℕ × List ℕ)
split_word text =
    if nat_lt (position_or_len is_space text) (length text)
    then Some (before_first is_space text, after_first is_space text) else None

-- a word isn't empty and has no spaces
abbrev pub is_word : List ℕ → Bool
is_word text = not (nat_eq (length text) 0) && not (list_any is_space text)

-- key KEY
abbrev pub pressed_event : Result Keystroke KeyFault → Option Event
pressed_event (Err fault) = None
pressed_event (Ok key) = Some (event.Key key)

abbrev pub key_event : List ℕ → Option Event
key_event key = pressed_event (keystroke_of key)

-- focus SCOPE
abbrev pub focus_event : List ℕ → Option Event
focus_event name = if is_word name then Some (event.Focus name) else None

-- unset SCOPE KEY
abbrev pub unset_event : Option (List ℕ × List ℕ) → Option Event
unset_event None = None
unset_event (Some parts) =
    if is_word parts.0 && is_word parts.1 then Some (event.UnsetKey parts.0 parts.1) else None

-- the value that was read, if there is one
abbrev pub value_in : {F : Type 0} → Result ContextValue F → Option ContextValue
value_in (Ok value) = Some value
value_in (Err fault) = None

-- set SCOPE KEY JSON, where the JSON text isn't blank and is a context value
abbrev pub assignment : List ℕ → List ℕ → List ℕ → Option Event
assignment name key json =
    if is_word name && (is_word key && not (list_all is_blank json))
    then option_map (event.SetKey name key) (value_in (context_in json)) else None

abbrev pub keyed_event : List ℕ → Option (List ℕ × List ℕ) → Option Event
keyed_event name None = None
keyed_event name (Some parts) = assignment name parts.0 parts.1

abbrev pub set_event : Option (List ℕ × List ℕ) → Option Event
set_event None = None
set_event (Some parts) = keyed_event parts.0 (split_word parts.1)

-- enable EXTENSION
abbrev pub enable_event : List ℕ → Option Event
enable_event id = if is_word id then Some (event.Enable id) else None

-- disable EXTENSION
abbrev pub disable_event : List ℕ → Option Event
disable_event id = if is_word id then Some (event.Disable id) else None

-- a number below 2 ^ 64 of at least one decimal digit and nothing else
abbrev pub number_of : List ℕ → Option ℕ
number_of digits =
    if list_all is_ascii_digit digits
    && (not (nat_eq (length digits) 0) && nat_lt (digits_value 10 digits) (2 ^ 64))
    then Some (digits_value 10 digits) else None

-- choose N, where N is below 2 ^ 32
abbrev pub choice_of : Option ℕ → Option Event
choice_of None = None
choice_of (Some number) = if nat_lt number (2 ^ 32) then Some (event.Choose number) else None

abbrev pub choice : List ℕ → Option Event
choice digits = choice_of (number_of digits)

-- another event than a press, by the first word of its line and the text after the first space; a query is
-- all of that text
abbrev pub event_told : List ℕ → List ℕ → Option Event
event_told word rest =
    if bytes_eq word (codes "focus") then focus_event rest
    else (if bytes_eq word (codes "set") then set_event (split_word rest)
    else (if bytes_eq word (codes "unset") then unset_event (split_word rest)
    else (if bytes_eq word (codes "enable") then enable_event rest
    else (if bytes_eq word (codes "disable") then disable_event rest
    else (if bytes_eq word (codes "palette") then Some (event.Palette rest)
    else (if bytes_eq word (codes "choose") then choice rest else None))))))

-- register NATIVE, by one of the nine identifiers
abbrev pub registration : List ℕ → Option Said
registration name = option_map takes (named name)

-- dispose N
abbrev pub disposal : List ℕ → Option Said
disposal digits = option_map (λ number. tells (dispose number)) (number_of digits)

-- update EXTENSION JSON
abbrev pub update_of : List ℕ → List ℕ → Option Said
update_of id json = if is_word id then Some (tells (happens (event.Update id json))) else None

-- without a second word the JSON text is empty
abbrev pub update : List ℕ → Option (List ℕ × List ℕ) → Option Said
update rest None = update_of rest []
update rest (Some parts) = update_of parts.0 parts.1

-- rule KEY COMMAND [TEXT], where the command is a word, and the text is all behind the space after it
abbrev pub rule_with : ℕ → Keystroke → List ℕ → List ℕ → Option Said
rule_with number key command text =
    if is_word command then Some (tells (types_rule number key command text)) else None

-- without that space the text is empty
abbrev pub rule_behind : ℕ → Keystroke → List ℕ → Option (List ℕ × List ℕ) → Option Said
rule_behind number key rest None = rule_with number key rest []
rule_behind number key rest (Some parts) = rule_with number key parts.0 parts.1

abbrev pub keyed_rule : ℕ → Result Keystroke KeyFault → List ℕ → Option Said
keyed_rule number (Err fault) rest = None
keyed_rule number (Ok key) rest = rule_behind number key rest (split_word rest)

abbrev pub rule_said : ℕ → Option (List ℕ × List ℕ) → Option Said
rule_said number None = None
rule_said number (Some parts) = keyed_rule number (keystroke_of parts.0) parts.1

abbrev pub event_said : Option Event → Option Said
event_said event = option_map (λ e. tells (happens e)) event

-- a line of one word: `reload` alone has the empty text, and `palette` alone the empty query
abbrev pub lone_said : List ℕ → Option Said
lone_said word =
    if bytes_eq word (codes "reload") then Some (tells (reload [] []))
    else (if bytes_eq word (codes "palette") then Some (tells (happens (event.Palette []))) else None)

-- a line that isn't a press, by its number, its first word and the text after the first space
abbrev pub other_said : ℕ → List ℕ → List ℕ → Option Said
other_said number word rest =
    if bytes_eq word (codes "reload") then Some (tells (reload rest []))
    else (if bytes_eq word (codes "register") then registration rest
    else (if bytes_eq word (codes "dispose") then disposal rest
    else (if bytes_eq word (codes "update") then update rest (split_word rest)
    else (if bytes_eq word (codes "rule") then rule_said number (split_word rest)
    else event_said (event_told word rest)))))

-- a line, by its number, its first word and the text after the first space
abbrev pub word_said : ℕ → List ℕ → List ℕ → Option Said
word_said number word rest =
    if bytes_eq word (codes "key") then event_said (key_event rest) else other_said number word rest

abbrev pub words_said : ℕ → List ℕ → Option (List ℕ × List ℕ) → Option Said
words_said number text None = lone_said text
words_said number text (Some parts) = word_said number parts.0 parts.1

-- the meaning of a line that parses
abbrev pub text_said : ℕ → List ℕ → Option Said
text_said number line = if is_utf8 line then words_said number line (split_word line) else None

abbrev pub or_unread : ℕ → Option Said → Said
or_unread number None = tells (happens (event.Unread number))
or_unread number (Some said) = said

-- an empty line and one that begins with # have no meaning
abbrev pub line_said : ℕ → List ℕ → Option Said
line_said number [] = None
line_said number (b ∷ bs) = if b == 35 then None else Some (or_unread number (text_said number (b ∷ bs)))

-- the meaning of lines, numbered from `number`
abbrev pub said_from : ℕ → List (List ℕ) → List Said
said_from number [] = []
said_from number (line ∷ lines) = option_to_list (line_said number line) ++ said_from (number + 1) lines

-- the meaning of a script
abbrev pub said_of : List ℕ → List Said
said_of bytes = said_from 1 (lines_of bytes)

-- an input without the marks of a reload's patterns
abbrev pub bare_told : Told → Told
bare_told (reload bytes marks) = reload bytes []
bare_told told = told

-- the meaning of a line without marks
abbrev pub bare : Said → Said
bare (tells told) = tells (bare_told told)
bare (takes native) = takes native
