-- The meaning of a script has no marks.
use Rattle.std.proofs.Common.{◌≡◌, ℕ, ◌+◌, Bool, true, false, List, [], ◌∷◌, ◌++◌, map, refl, ap, ◌∙◌, cond}
use Rattle.std.specs.Prelude.{Option, Some, None, option_map, option_to_list, ◌==◌, codes, Result, Ok, Err}
use Rattle.std.specs.Str.{bytes_eq, is_utf8}
use Rattle.std.proofs.lemmas.List.{map-append}
use Rattle.kb_base.specs.declared.note.EntryPattern.{EntryPattern}
use Rattle.kb_core.specs.declared.native.Native.{Native}
use Rattle.kb_core.specs.Native.{named}
use Rattle.kb_keys.specs.declared.key_fault.KeyFault.{KeyFault}
use Rattle.kb_keys.specs.declared.keystroke.Keystroke.{Keystroke}
use Rattle.kb_keys.specs.Keystroke.{keystroke_of}
use Rattle.kb_script.specs.Script.{bare, bare_told, word_said, words_said, text_said, or_unread, line_said}
use Rattle.kb_script.specs.Script.{said_from, split_word, event_told, event_said, key_event, registration}
use Rattle.kb_script.specs.Script.{disposal, is_word, keyed_rule, number_of, other_said, rule_behind, rule_said}
use Rattle.kb_script.specs.Script.{rule_with, update, update_of}
use Rattle.kb_script.specs.ScriptRun.{marked, marked_told}
use Rattle.kb_script.specs.Shelf.{Said, tells, takes}
use Rattle.kb_session.specs.State.{Told, happens, reload, register, dispose, types_rule}
use Rattle.kb_trace.specs.declared.event.Event.{Event}
use Rattle.kb_trace.specs.declared.event.Event.TheVariants as event

-- the meaning of a line has no marks, if there is one
abbrev IsBare : Option Said → Type 0
IsBare said = option_map bare said ≡ said

either_bare : (b : Bool) (x y : Option Said) → IsBare x → IsBare y → IsBare (cond b x y)
either_bare true x y p q = p
either_bare false x y p q = q

event_bare : (e : Option Event) → IsBare (event_said e)
event_bare None = refl
event_bare (Some e) = refl

registration_bare : (native : Option Native) → IsBare (option_map takes native)
registration_bare None = refl
registration_bare (Some native) = refl

disposal_bare : (number : Option ℕ) → IsBare (option_map (λ n. tells (dispose n)) number)
disposal_bare None = refl
disposal_bare (Some number) = refl

update_of_bare : (id json : List ℕ) → IsBare (update_of id json)
update_of_bare id json =
    either_bare (is_word id) (Some (tells (happens (event.Update id json)))) None refl refl

update_bare : (rest : List ℕ) (parts : Option (List ℕ × List ℕ)) → IsBare (update rest parts)
update_bare rest None = update_of_bare rest []
update_bare rest (Some parts) = update_of_bare parts.0 parts.1

rule_with_bare : (number : ℕ) (key : Keystroke) (command text : List ℕ)
    → IsBare (rule_with number key command text)
rule_with_bare number key command text =
    either_bare (is_word command) (Some (tells (types_rule number key command text))) None refl refl

rule_behind_bare : (number : ℕ) (key : Keystroke) (rest : List ℕ) (parts : Option (List ℕ × List ℕ))
    → IsBare (rule_behind number key rest parts)
rule_behind_bare number key rest None = rule_with_bare number key rest []
rule_behind_bare number key rest (Some parts) = rule_with_bare number key parts.0 parts.1

keyed_bare : (number : ℕ) (key : Result Keystroke KeyFault) (rest : List ℕ) → IsBare (keyed_rule number key rest)
keyed_bare number (Err fault) rest = refl
keyed_bare number (Ok key) rest = rule_behind_bare number key rest (split_word rest)

rule_bare : (number : ℕ) (parts : Option (List ℕ × List ℕ)) → IsBare (rule_said number parts)
rule_bare number None = refl
rule_bare number (Some parts) = keyed_bare number (keystroke_of parts.0) parts.1

other_bare : (number : ℕ) (word rest : List ℕ) → IsBare (other_said number word rest)
other_bare number word rest =
    let happening = event_said (event_told word rest) in
    let added = cond (bytes_eq word (codes "rule")) (rule_said number (split_word rest)) happening in
    let last = cond (bytes_eq word (codes "update")) (update rest (split_word rest)) added in
    let other = cond (bytes_eq word (codes "dispose")) (disposal rest) last in
    either_bare (bytes_eq word (codes "reload")) (Some (tells (reload rest [])))
    (cond (bytes_eq word (codes "register")) (registration rest) other) refl
    (either_bare (bytes_eq word (codes "register")) (registration rest) other (registration_bare (named rest))
    (either_bare (bytes_eq word (codes "dispose")) (disposal rest) last (disposal_bare (number_of rest))
    (either_bare (bytes_eq word (codes "update")) (update rest (split_word rest)) added
    (update_bare rest (split_word rest))
    (either_bare (bytes_eq word (codes "rule")) (rule_said number (split_word rest)) happening
    (rule_bare number (split_word rest)) (event_bare (event_told word rest))))))

word_bare : (number : ℕ) (word rest : List ℕ) → IsBare (word_said number word rest)
word_bare number word rest =
    either_bare (bytes_eq word (codes "key")) (event_said (key_event rest)) (other_said number word rest)
    (event_bare (key_event rest)) (other_bare number word rest)

words_bare : (number : ℕ) (text : List ℕ) (parts : Option (List ℕ × List ℕ))
    → IsBare (words_said number text parts)
words_bare number text None =
    let query = Some (tells (happens (event.Palette []))) in
    either_bare (bytes_eq text (codes "reload")) (Some (tells (reload [] [])))
    (cond (bytes_eq text (codes "palette")) query None) refl
    (either_bare (bytes_eq text (codes "palette")) query None refl refl)
words_bare number text (Some parts) = word_bare number parts.0 parts.1

text_bare : (number : ℕ) (line : List ℕ) → IsBare (text_said number line)
text_bare number line = either_bare (is_utf8 line) (words_said number line (split_word line)) None
    (words_bare number line (split_word line)) refl

or_unread_bare : (number : ℕ) (said : Option Said) → IsBare said
    → IsBare (Some (or_unread number said))
or_unread_bare number None p = refl
or_unread_bare number (Some said) p = p

line_bare : (number : ℕ) (line : List ℕ) → IsBare (line_said number line)
line_bare number [] = refl
line_bare number (b ∷ bs) =
    either_bare (b == 35) None (Some (or_unread number (text_said number (b ∷ bs)))) refl
    (or_unread_bare number (text_said number (b ∷ bs)) (text_bare number (b ∷ bs)))

listed_bare : (said : Option Said) → map bare (option_to_list said) ≡ option_to_list (option_map bare said)
listed_bare None = refl
listed_bare (Some said) = refl

-- the meaning of a line has no marks
pub bare_line : (number : ℕ) (line : List ℕ)
    → map bare (option_to_list (line_said number line)) ≡ option_to_list (line_said number line)
bare_line number line = listed_bare (line_said number line) ∙ ap option_to_list (line_bare number line)

-- nor has the meaning of lines
pub bare_from : (number : ℕ) (lines : List (List ℕ)) → map bare (said_from number lines) ≡ said_from number lines
bare_from number [] = refl
bare_from number (line ∷ lines) =
    let here = option_to_list (line_said number line) in
    map-append bare here (said_from (number + 1) lines)
    ∙ ap (λ (xs : List Said). xs ++ map bare (said_from (number + 1) lines)) (bare_line number line)
    ∙ ap (λ (xs : List Said). here ++ xs) (bare_from (number + 1) lines)

marked_told_bare : (marks : List EntryPattern) (told : Told) → bare_told (marked_told marks told) ≡ bare_told told
marked_told_bare marks (happens e) = refl
marked_told_bare marks (reload bytes none) = refl
marked_told_bare marks (register native) = refl
marked_told_bare marks (dispose number) = refl
marked_told_bare marks (types_rule number key command text) = refl

marked_bare : (marks : List EntryPattern) (said : Said) → bare (marked marks said) ≡ bare said
marked_bare marks (tells told) = ap tells (marked_told_bare marks told)
marked_bare marks (takes native) = refl

-- marks that are added are removed again
pub bare_marked : (marks : List EntryPattern) (said : Option Said)
    → map bare (option_to_list (option_map (marked marks) said)) ≡ map bare (option_to_list said)
bare_marked marks None = refl
bare_marked marks (Some said) = ap (λ (one : Said). one ∷ []) (marked_bare marks said)
