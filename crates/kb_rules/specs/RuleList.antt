-- What the elements of a list of rules give: each that can be read is a rule or a removal, and each other
-- has a warning of its first fault.
use Rattle.std.specs.Prelude.{◌≡◌, ℕ, ◌+◌, ◌==◌, Bool, List, [], ◌∷◌, ◌++◌, not, filter, Option, Some, None}
use Rattle.std.specs.Prelude.{Result, Ok, Err, option_to_list, alloc_error}
use Rattle.std.specs.declared.alloc.AllocError.{AllocError}
use Rattle.std.specs.List.{filter_map, flat_map, AllByRecursion}
use Rattle.serde_json.specs.Data.{Data}
use Rattle.kb_base.specs.Reading.{seen}
use Rattle.kb_base.specs.Fault.{is_unread_pattern}
use Rattle.kb_base.specs.declared.fault.FaultKind.{FaultKind}
use Rattle.kb_base.specs.declared.fault.FaultKind.TheVariants as kind
use Rattle.kb_base.specs.declared.failure.Failure.{Failure}
use Rattle.kb_base.specs.declared.failure.Failure.TheVariants.{NoMemory, Fault}
use Rattle.kb_base.specs.declared.note.Origin.{Origin}
use Rattle.kb_base.specs.declared.note.Part.TheVariants.{Keybindings}
use Rattle.kb_base.specs.declared.note.EntryPattern.{EntryPattern}
use Rattle.kb_base.specs.declared.note.Warning.{Warning}
use Rattle.kb_keys.specs.declared.platform.Platform.{Platform}
use Rattle.kb_when.specs.Placed.{marks_at, placed}
use Rattle.kb_base.specs.declared.note.UnreadPattern.{UnreadPattern}
use Rattle.kb_rules.specs.declared.entry.Entry.{Entry}
use Rattle.kb_rules.specs.declared.entry.Entry.TheVariants.{Starts, Removes}
use Rattle.kb_rules.specs.declared.removal.Removal.{Removal}
use Rattle.kb_rules.specs.declared.rule.Rule.{Rule}
use Rattle.kb_rules.specs.Entry.{entry_of}
use Rattle.kb_rules.specs.Unread.{marked_entry, unread_in, IsRightlyMarked}

-- the rules of a list, from the top down, its removals, the warnings and the unread patterns, each in the
-- order of the elements
pub record Listed : Type 0 where
  pub rules : List Rule
  pub removals : List Removal
  pub warnings : List Warning
  pub unread : List EntryPattern

abbrev pub no_elements : Listed
no_elements = record { rules = []; removals = []; warnings = []; unread = [] }

-- the rule that was read, if one was
abbrev pub rule_in : Result Entry FaultKind → Option Rule
rule_in (Ok (Starts rule)) = Some rule
rule_in (Ok (Removes removal)) = None
rule_in (Err kind) = None

-- the removal that was read, if one was
abbrev pub removal_in : Result Entry FaultKind → Option Removal
removal_in (Ok (Starts rule)) = None
removal_in (Ok (Removes removal)) = Some removal
removal_in (Err kind) = None

-- a warning about the element at a place
abbrev pub warning_at : Origin → ℕ → FaultKind → Warning
warning_at origin place kind =
    record { origin = origin; part = Keybindings; kind = kind; place = place }

-- the warning about a rule or a removal with these unread patterns
abbrev pub warning_of_unread : Origin → ℕ → List UnreadPattern → Option Warning
warning_of_unread origin place [] = None
warning_of_unread origin place (pattern ∷ unread) = Some (warning_at origin place kind.UnreadPattern)

-- the warning about the element at a place: it has an unread pattern, or it is dropped
abbrev pub warning_in : Origin → ℕ → Result Entry FaultKind → Option Warning
warning_in origin place (Ok entry) = warning_of_unread origin place (unread_in entry)
warning_in origin place (Err kind) = Some (warning_at origin place kind)

abbrev pub unread_at : Origin → ℕ → Result Entry FaultKind → List EntryPattern
unread_at origin place (Ok entry) = placed origin Keybindings place (unread_in entry)
unread_at origin place (Err kind) = []

-- the list of what was read, each with its place
abbrev pub collected : Origin → List (ℕ × Result Entry FaultKind) → Listed
collected origin read = record {
  rules = filter_map (λ r. rule_in r.1) read;
  removals = filter_map (λ r. removal_in r.1) read;
  warnings = filter_map (λ r. warning_in origin r.0 r.1) read;
  unread = flat_map (λ r. unread_at origin r.0 r.1) read;
}

-- what each of the elements is, with its place, counted from a number, and with its marks among these
abbrev pub read_of : List EntryPattern → Origin → Option Platform → ℕ → List Data
    → List (ℕ × Result Entry FaultKind)
read_of unread origin platform place [] = []
read_of unread origin platform place (d ∷ ds) =
    (place, seen (marked_entry (marks_at origin Keybindings unread place)) (entry_of origin platform place d))
    ∷ read_of unread origin platform (place + 1) ds

-- the list of the elements by these marks; keystrokes are those of a platform, if one is given
abbrev pub listed : List EntryPattern → Origin → Option Platform → List Data → Listed
listed unread origin platform elements = collected origin (read_of unread origin platform 0 elements)

-- the list with one more rule at the bottom
abbrev pub with_rule : Rule → Listed → Listed
with_rule rule list = record list { rules = list.rules ++ rule ∷ [] }

-- a warning is of an element that was dropped: not that of an unread pattern
abbrev pub is_dropped : Warning → Bool
is_dropped warning = not (is_unread_pattern warning.kind)

abbrev pub dropped_in : Listed → List Warning
dropped_in list = filter is_dropped list.warnings

-- all patterns of the list are marked as they are or aren't read
abbrev pub AreRightlyMarked : Listed → Type 0
AreRightlyMarked list =
    AllByRecursion (λ rule. IsRightlyMarked rule.when) list.rules
    × AllByRecursion (λ removal. IsRightlyMarked removal.when) list.removals

-- ---- one element after another

-- what was read, or its first fault, by how the reading ended; refused memory is neither
abbrev pub judged : Result Entry (Failure FaultKind) → Result (Result Entry FaultKind) AllocError
judged (Ok entry) = Ok (Ok entry)
judged (Err (Fault kind)) = Ok (Err kind)
judged (Err NoMemory) = Err alloc_error

-- the list with what the element at a place is
abbrev pub with_read : Origin → ℕ → Result Entry FaultKind → Listed → Listed
with_read origin place read list = record {
  rules = list.rules ++ option_to_list (rule_in read);
  removals = list.removals ++ option_to_list (removal_in read);
  warnings = list.warnings ++ option_to_list (warning_in origin place read);
  unread = list.unread ++ unread_at origin place read;
}

abbrev pub with_warning : Warning → Listed → Listed
with_warning warning list = record list { warnings = list.warnings ++ warning ∷ [] }

-- the list with the unread patterns of a condition alone
abbrev pub with_unread : Origin → ℕ → List UnreadPattern → Listed → Listed
with_unread origin place unread list = record list {
  warnings = list.warnings ++ option_to_list (warning_of_unread origin place unread);
  unread = list.unread ++ placed origin Keybindings place unread;
}

-- what was read is what its own marks make of it
abbrev pub IsWhole : Result Entry FaultKind → Type 0
IsWhole (Ok entry) = marked_entry (unread_in entry) entry ≡ entry
IsWhole (Err kind) = Unit {0}

-- its patterns are marked as they are or aren't read
abbrev pub IsRight : Result Entry FaultKind → Type 0
IsRight (Ok (Starts rule)) = IsRightlyMarked rule.when
IsRight (Ok (Removes removal)) = IsRightlyMarked removal.when
IsRight (Err kind) = Unit {0}
