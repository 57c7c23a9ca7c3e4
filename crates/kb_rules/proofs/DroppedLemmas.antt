-- No fault of an element is the warning of an unread pattern, so that each element is kept once or has one
-- warning of its fault.
use Rattle.std.proofs.Common.{◌≡◌, ℕ, ◌+◌, suc, List, [], ◌∷◌, Bool, true, false, not, length}
use Rattle.std.proofs.Common.{filter, cond}
use Rattle.std.proofs.Common.{Option, Some, None, Result, Ok, Err, refl, arith}
use Rattle.std.specs.List.{list_all, cons_option}
use Rattle.serde_json.specs.Data.{Data}
use Rattle.serde_json.specs.Find.{as_object}
use Rattle.kb_base.specs.Blank.{is_blank}
use Rattle.kb_base.specs.Fault.{is_unread_pattern}
use Rattle.kb_base.specs.Reading.{◌>>=◌, or_fault, seen}
use Rattle.kb_base.specs.declared.fault.FaultKind.{FaultKind}
use Rattle.kb_base.specs.declared.fault.FaultKind.TheVariants as kind
use Rattle.kb_jsonc.specs.FileFault as file
use Rattle.kb_jsonc.specs.Member as json
use Rattle.kb_jsonc.specs.declared.file_fault.FileFault.{FileFault}
use Rattle.kb_jsonc.specs.declared.file_fault.FileFault.TheVariants.{MissingMember, WrongShape}
use Rattle.kb_keys.specs.KeyFault as key
use Rattle.kb_keys.specs.declared.key_fault.KeyFault.{KeyFault}
use Rattle.kb_keys.specs.declared.key_fault.KeyFault.TheVariants.{UnknownKey, TooManySteps, EmptyKey}
use Rattle.kb_keys.specs.declared.keystroke.Keystroke.{Keystroke}
use Rattle.kb_keys.specs.declared.platform.Platform.{Platform}
use Rattle.kb_keys.specs.Chord.{chord_of}
use Rattle.kb_when.specs.WhenFault as when
use Rattle.kb_when.specs.declared.fault.WhenFault.{WhenFault}
use Rattle.kb_when.specs.declared.fault.WhenFault.TheVariants.{BadToken, Unexpected, TooDeep, BadNumber}
use Rattle.kb_when.specs.Clause.{Clause}
use Rattle.kb_when.specs.ClauseText.{clause_in}
use Rattle.kb_base.specs.declared.note.UnreadPattern.{UnreadPattern}
use Rattle.kb_rules.specs.declared.entry.Entry.{Entry}
use Rattle.kb_rules.specs.declared.entry.Entry.TheVariants.{Starts, Removes}
use Rattle.kb_base.specs.declared.note.Origin.{Origin}
use Rattle.kb_base.specs.declared.note.EntryPattern.{EntryPattern}
use Rattle.kb_base.specs.declared.note.Part.TheVariants.{Keybindings}
use Rattle.kb_base.specs.declared.note.Warning.{Warning}
use Rattle.kb_when.specs.Placed.{marks_at}
use Rattle.kb_rules.specs.Entry.{by_kind, text_of, required_text, removed_command, chord_in, keystrokes_of}
use Rattle.kb_rules.specs.Entry.{removed_keystrokes_of, when_of, condition_of, args_of, bound_to, binding_of}
use Rattle.kb_rules.specs.Entry.{terms_of, element_of, entry_of, Found}
use Rattle.kb_rules.specs.RuleList.{warning_at, warning_of_unread, collected, read_of}
use Rattle.kb_rules.specs.RuleList.{Listed, dropped_in, is_dropped}
use Rattle.kb_rules.specs.Unread.{marked_entry, unread_in}
use Rattle.kb_rules.specs.Whole.{is_whole}

-- a fault, if there is one, is another one
abbrev IsOther : {X : Type 0} → Result X FaultKind → Type 0
IsOther (Ok x) = Unit {0}
IsOther (Err fault) = is_unread_pattern fault ≡ false

bind : {X Y : Type 0} (read : Result X FaultKind) (f : X → Result Y FaultKind) → IsOther read → ((x : X) → IsOther (f x))
    → IsOther (read >>= f)
bind (Ok x) f h k = k x
bind (Err fault) f h k = h

-- another fault, where there is nothing
or_other : {X : Type 0} (fault : FaultKind) (o : Option X) → is_unread_pattern fault ≡ false
    → IsOther (or_fault fault o)
or_other fault None h = h
or_other fault (Some x) h = tt

key_other : (read : Result (List Keystroke) KeyFault) → IsOther (by_kind key.kind_of read)
key_other (Ok x) = tt
key_other (Err UnknownKey) = refl
key_other (Err TooManySteps) = refl
key_other (Err EmptyKey) = refl

when_other : (read : Result Clause WhenFault) → IsOther (by_kind when.kind_of read)
when_other (Ok x) = tt
when_other (Err BadToken) = refl
when_other (Err Unexpected) = refl
when_other (Err TooDeep) = refl
when_other (Err BadNumber) = refl

file_other : {X : Type 0} (read : Result X FileFault) → IsOther (by_kind file.kind_of read)
file_other (Ok x) = tt
file_other (Err MissingMember) = refl
file_other (Err WrongShape) = refl

text_other : (d : Data) → IsOther (text_of d)
text_other d = file_other (json.text_of d)

required_other : (member : Option Data) → IsOther (required_text member)
required_other member = file_other (json.required_text member)

keystrokes_other : (member : Option Data) → IsOther (keystrokes_of member)
unfolding keystrokes_of
keystrokes_other member =
    bind (required_text member) chord_in (required_other member) (λ text. key_other (chord_of text))

removed_keystrokes_other : (member : Option Data) → IsOther (removed_keystrokes_of member)
unfolding removed_keystrokes_of
removed_keystrokes_other None = tt
removed_keystrokes_other (Some d) =
    bind (text_of d) (λ text. chord_in text >>= λ keys. Ok (Some keys)) (text_other d)
    (λ text. bind (chord_in text) (λ keys. Ok (Some keys)) (key_other (chord_of text)) (λ keys. tt))

bound_other : (command : List ℕ) (removed : Option (List ℕ)) (key : Option Data)
    → IsOther (bound_to command removed key)
bound_other command None key = bind (keystrokes_of key) _ (keystrokes_other key) (λ keys. tt)
bound_other command (Some removed) key =
    bind (removed_keystrokes_of key) _ (removed_keystrokes_other key) (λ keys. tt)

binding_other : (command key : Option Data) → IsOther (binding_of command key)
unfolding binding_of
binding_other command key =
    bind (required_text command) (λ text. bound_to text (removed_command text) key) (required_other command)
    (λ text. bound_other text (removed_command text) key)

if_other : {X : Type 0} (b : Bool) (one other : Result X FaultKind) → IsOther one → IsOther other
    → IsOther (cond b one other)
if_other true one other h k = h
if_other false one other h k = k

clause_other : (text : List ℕ) → IsOther (when_of text)
unfolding when_of
clause_other text =
    if_other (list_all is_blank text) (Ok None)
    (by_kind when.kind_of (clause_in text) >>= λ clause. Ok (Some clause)) tt
    (bind (by_kind when.kind_of (clause_in text)) (λ clause. Ok (Some clause))
    (when_other (clause_in text))
    (λ clause. tt))

condition_other : (member : Option Data) → IsOther (condition_of member)
unfolding condition_of
condition_other None = tt
condition_other (Some d) = bind (text_of d) when_of (text_other d) clause_other

args_other : (member : Option Data) → IsOther (args_of member)
unfolding args_of
args_other None = tt
args_other (Some args) = if_other (is_whole args) (Ok (Some args)) (Err kind.WrongShape) tt refl

terms_other : (when args : Option Data) → IsOther (terms_of when args)
unfolding terms_of
terms_other when args =
    bind (condition_of when) _ (condition_other when)
    (λ condition. bind (args_of args) _ (args_other args) (λ arguments. tt))

element_other : (origin : Origin) (place : ℕ) (found : Found) → IsOther (element_of origin place found)
unfolding element_of
element_other origin place found =
    bind (binding_of found.command found.key) _ (binding_other found.command found.key)
    (λ bound. bind (terms_of found.when found.args) _ (terms_other found.when found.args) (λ terms. tt))

entry_other : (origin : Origin) (platform : Option Platform) (place : ℕ) (d : Data)
    → IsOther (entry_of origin platform place d)
entry_other origin platform place d =
    bind (or_fault kind.WrongShape (as_object d)) _ (or_other kind.WrongShape (as_object d) refl)
    (λ members. element_other origin place _)

marked_other : (unread : List UnreadPattern) (read : Result Entry FaultKind) → IsOther read
    → IsOther (seen (marked_entry unread) read)
marked_other unread (Ok entry) h = tt
marked_other unread (Err fault) h = h

-- ---- each element counts once

-- how many elements the list has, kept and dropped
abbrev pub count : Listed → ℕ
count list = length list.rules + length list.removals + length (dropped_in list)

unread_passed : (origin : Origin) (place : ℕ) (unread : List UnreadPattern) (warnings : List Warning)
    → filter is_dropped (cons_option (warning_of_unread origin place unread) warnings)
    ≡ filter is_dropped warnings
unread_passed origin place [] warnings = refl
unread_passed origin place (u ∷ us) warnings = refl

fault_counted : (origin : Origin) (place : ℕ) (fault : FaultKind) (warnings : List Warning)
    → is_unread_pattern fault ≡ false
    → length (filter is_dropped (warning_at origin place fault ∷ warnings))
    ≡ suc (length (filter is_dropped warnings))
fault_counted origin place fault warnings h = rw h refl

counted_step : (origin : Origin) (place rest : ℕ) (read : Result Entry FaultKind) (more : List (ℕ × Result Entry FaultKind))
    → IsOther read → count (collected origin more) ≡ rest
    → count (collected origin ((place, read) ∷ more)) ≡ suc rest
counted_step origin place rest (Ok (Starts rule)) more o h =
    let list = collected origin more in
    let same = unread_passed origin place (unread_in (Starts rule)) list.warnings in
    rw same (omega (arith, h))
counted_step origin place rest (Ok (Removes removal)) more o h =
    let list = collected origin more in
    let same = unread_passed origin place (unread_in (Removes removal)) list.warnings in
    rw same (omega (arith, h))
counted_step origin place rest (Err fault) more o h =
    let list = collected origin more in
    rw (fault_counted origin place fault list.warnings o) (omega (arith, h))

pub counted : (unread : List EntryPattern) (origin : Origin) (platform : Option Platform) (start : ℕ)
    (elements : List Data)
    → count (collected origin (read_of unread origin platform start elements)) ≡ length elements
counted unread origin platform start [] = refl
counted unread origin platform start (d ∷ ds) =
    counted_step origin start (length ds)
    (seen (marked_entry (marks_at origin Keybindings unread start)) (entry_of origin platform start d))
    (read_of unread origin platform (start + 1) ds)
    (marked_other (marks_at origin Keybindings unread start) (entry_of origin platform start d)
    (entry_other origin platform start d))
    (counted unread origin platform (start + 1) ds)
