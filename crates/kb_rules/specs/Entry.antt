-- The rule or the removal that an element of a list of rules is, or its first fault.
use Rattle.std.specs.Prelude.{ℕ, ◌==◌, List, [], ◌∷◌, Option, None, Some, Result, Ok, Err, if◌then◌else◌}
use Rattle.std.specs.Prelude.{codes, option_map, bytes_eq}
use Rattle.std.specs.Option.{option_or}
use Rattle.std.specs.List.{list_all}
use Rattle.kb_base.specs.Blank.{is_blank}
use Rattle.kb_base.specs.Reading.{◌>>=◌, or_fault, or_default, unless}
use Rattle.kb_base.specs.declared.fault.FaultKind.{FaultKind}
use Rattle.kb_base.specs.declared.fault.FaultKind.TheVariants as kind
use Rattle.kb_base.specs.declared.failure.Failure.{Failure}
use Rattle.kb_base.specs.declared.failure.Failure.TheVariants.{NoMemory, Fault}
use Rattle.kb_jsonc.specs.FileFault as file
use Rattle.kb_jsonc.specs.Member as json
use Rattle.kb_keys.specs.KeyFault as key
use Rattle.kb_keys.specs.declared.keystroke.Keystroke.{Keystroke}
use Rattle.kb_keys.specs.declared.platform.Platform.{Platform}
use Rattle.kb_keys.specs.Chord.{chord_of}
use Rattle.kb_keys.specs.Platform.{platform_name}
use Rattle.kb_when.specs.WhenFault as when
use Rattle.kb_when.specs.declared.fault.WhenFault.{WhenFault}
use Rattle.kb_when.specs.Clause.{Clause}
use Rattle.kb_when.specs.ClauseText.{clause_in}
use Rattle.kb_when.specs.Marks.{MarkedClause}
use Rattle.kb_when.specs.Unread.{marked_by}
use Rattle.serde_json.specs.Data.{Data, Members}
use Rattle.serde_json.specs.Find.{get_member, as_object}
use Rattle.serde_json.specs.View.{view}
use Rattle.serde_json.specs.declared.value.Value.{Value}
use Rattle.kb_rules.specs.declared.entry.Binding.{Binding}
use Rattle.kb_rules.specs.declared.entry.Binding.TheVariants as binding
use Rattle.kb_rules.specs.declared.entry.Entry.{Entry}
use Rattle.kb_rules.specs.declared.entry.Entry.TheVariants as entry
use Rattle.kb_rules.specs.declared.entry.Member.{Member}
use Rattle.kb_rules.specs.declared.entry.Member.TheVariants as member
use Rattle.kb_rules.specs.declared.entry.Parts.{Parts}
use Rattle.kb_base.specs.declared.note.Origin.{Origin}
use Rattle.kb_rules.specs.Whole.{is_whole}

-- the same reading, with the kind of its fault
abbrev pub by_kind : {F X : Type 0} → (F → FaultKind) → Result X F → Result X FaultKind
by_kind kind_of (Ok x) = Ok x
by_kind kind_of (Err fault) = Err (kind_of fault)

-- the same of a failure
abbrev pub failure_by_kind : Failure WhenFault → Failure FaultKind
failure_by_kind NoMemory = NoMemory
failure_by_kind (Fault fault) = Fault (when.kind_of fault)

-- ---- the members, each of which may be absent: 40 where one has to be there, 41 where it has another shape

-- the text that a value is
abbrev pub text_of : Data → Result (List ℕ) FaultKind
text_of d = by_kind file.kind_of (json.text_of d)

-- the text of a member that must be there
abbrev pub required_text : Option Data → Result (List ℕ) FaultKind
required_text member = by_kind file.kind_of (json.required_text member)

-- the command that a removal names: the text after the `-`
abbrev pub removed_command : List ℕ → Option (List ℕ)
removed_command [] = None
removed_command (byte ∷ bytes) = if byte == 45 then Some bytes else None

-- the keystrokes of a text
abbrev pub chord_in : List ℕ → Result (List Keystroke) FaultKind
chord_in text = by_kind key.kind_of (chord_of text)

unfoldable pub keystrokes_of : Option Data → Result (List Keystroke) FaultKind
keystrokes_of member = required_text member >>= chord_in

-- those of a removal, which may have none
unfoldable pub removed_keystrokes_of : Option Data → Result (Option (List Keystroke)) FaultKind
removed_keystrokes_of member =
    or_default None (λ d. text_of d >>= λ text. chord_in text >>= λ keys. Ok (Some keys)) member

-- a text that is empty, or white space alone, is no clause
unfoldable pub when_of : List ℕ → Result (Option Clause) FaultKind
when_of text =
    if list_all is_blank text then Ok None
    else by_kind when.kind_of (clause_in text) >>= λ clause. Ok (Some clause)

-- the condition, if there is one
unfoldable pub condition_of : Option Data → Result (Option Clause) FaultKind
condition_of member = or_default None (λ d. text_of d >>= when_of) member

-- the arguments, if there are any: each number is whole within i64
unfoldable pub args_of : Option Data → Result (Option Data) FaultKind
args_of member = or_default None (λ args. unless kind.WrongShape (is_whole args) (Some args)) member

-- ---- the whole element

-- the members that a rule is read from, each if it is there
pub record Found : Type 0 where
  pub command : Option Data
  pub key : Option Data
  pub when : Option Data
  pub args : Option Data

-- the member that names the keystrokes: where a platform is given its own, if that is there, and else `key`
abbrev pub key_member : Option Platform → Members → Option Data
key_member None members = get_member (codes "key") members
key_member (Some platform) members =
    option_or (get_member (platform_name platform) members) (get_member (codes "key") members)

abbrev pub found_in : Option Platform → Members → Found
found_in platform members = record {
  command = get_member (codes "command") members;
  key = key_member platform members;
  when = get_member (codes "when") members;
  args = get_member (codes "args") members;
}

-- the same of those that were taken out of an object
abbrev pub found_of : Parts → Found
found_of parts = record {
  command = option_map view parts.command;
  key = option_or (option_map view parts.own_key) (option_map view parts.key);
  when = option_map view parts.when;
  args = option_map view parts.args;
}

-- the member of an element that has this name
abbrev pub own_key_named : Option Platform → List ℕ → Member
own_key_named None name = member.Other
own_key_named (Some platform) name =
    if bytes_eq name (platform_name platform) then member.OwnKey else member.Other

abbrev pub member_named : Option Platform → List ℕ → Member
member_named platform name =
    if bytes_eq name (codes "command") then member.Command else
    (if bytes_eq name (codes "key") then member.Key else
    (if bytes_eq name (codes "when") then member.When else
    (if bytes_eq name (codes "args") then member.Args else own_key_named platform name)))

-- the members with the value of one, unless it has one already
abbrev pub with_member : Member → Value → Parts → Parts
with_member member.Command value p = record {
  command = option_or p.command (Some value);
  key = p.key;
  own_key = p.own_key;
  when = p.when;
  args = p.args;
}
with_member member.Key value p = record {
  command = p.command;
  key = option_or p.key (Some value);
  own_key = p.own_key;
  when = p.when;
  args = p.args;
}
with_member member.OwnKey value p = record {
  command = p.command;
  key = p.key;
  own_key = option_or p.own_key (Some value);
  when = p.when;
  args = p.args;
}
with_member member.When value p = record {
  command = p.command;
  key = p.key;
  own_key = p.own_key;
  when = option_or p.when (Some value);
  args = p.args;
}
with_member member.Args value p = record {
  command = p.command;
  key = p.key;
  own_key = p.own_key;
  when = p.when;
  args = option_or p.args (Some value);
}
with_member member.Other value p = p

-- the command and its keystrokes, in this order
abbrev pub bound_to : List ℕ → Option (List ℕ) → Option Data → Result Binding FaultKind
bound_to command None key = keystrokes_of key >>= λ keys. Ok (binding.Starts command keys)
bound_to command (Some removed) key =
    removed_keystrokes_of key >>= λ keys. Ok (binding.Removes removed keys)

unfoldable pub binding_of : Option Data → Option Data → Result Binding FaultKind
binding_of command key = required_text command >>= λ text. bound_to text (removed_command text) key

-- the condition and the arguments, in this order
unfoldable pub terms_of : Option Data → Option Data → Result (Option Clause × Option Data) FaultKind
terms_of when args = do
  condition ← condition_of when
  arguments ← args_of args
  Ok (condition, arguments)

-- the rule or the removal of these, at a place
abbrev pub made : Origin → ℕ → Binding → Option MarkedClause → Option Data → Entry
made origin place (binding.Starts command keys) condition arguments = entry.Starts (record {
  chord = keys;
  command = command;
  when = condition;
  args = arguments;
  origin = origin;
  place = place;
})
made origin place (binding.Removes command keys) condition arguments = entry.Removes (record {
  command = command;
  chord = keys;
  when = condition;
  origin = origin;
  place = place;
})

-- the same of what was read of the condition and the arguments, with all patterns read
abbrev pub completed : Origin → ℕ → Binding → Result (Option Clause × Option Data) FaultKind
    → Result Entry FaultKind
completed origin place bound terms =
    terms >>= λ terms. Ok (made origin place bound (option_map (marked_by []) terms.0) terms.1)

-- the same of the members; the faults come in this order
unfoldable pub element_of : Origin → ℕ → Found → Result Entry FaultKind
element_of origin place found =
    binding_of found.command found.key
    >>= λ bound. completed origin place bound (terms_of found.when found.args)

-- what the element at a place is, with all patterns read, or its first fault
abbrev pub entry_of : Origin → Option Platform → ℕ → Data → Result Entry FaultKind
entry_of origin platform place d =
    or_fault kind.WrongShape (as_object d) >>= λ members. element_of origin place (found_in platform members)
