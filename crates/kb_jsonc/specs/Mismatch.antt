-- Where a value of a file isn't what was expected, and the answers of calls that say so.
use Rattle.std.specs.Prelude.{◌≡◌, ℕ, List, Option, option_map, Result, Ok, Err}
use Rattle.std.specs.Result.{result_err}
use Rattle.kb_base.specs.declared.failure.Failure.{Failure}
use Rattle.kb_base.specs.declared.failure.Failure.TheVariants.{NoMemory, Fault}
use Rattle.kb_base.specs.Reading.{or_fault}
use Rattle.kb_jsonc.specs.declared.file_fault.FileFault.{FileFault}
use Rattle.kb_jsonc.specs.declared.file_fault.FileFault.TheVariants.{MissingMember, WrongShape}
use Rattle.kb_jsonc.specs.declared.mismatch.Expected.{Expected}
use Rattle.kb_jsonc.specs.declared.mismatch.Expected.TheVariants as expected
use Rattle.kb_jsonc.specs.declared.mismatch.Mismatch.{Mismatch}
use Rattle.kb_jsonc.specs.declared.mismatch.Place.{Place}

-- a place as data: the steps in their order
pub record Path : Type 0 where
  pub list : List ℕ
  pub entry : Option ℕ
  pub member : List ℕ
  pub item : Option ℕ
  pub inner : Option (List ℕ)

abbrev pub path_of : Place → Path
path_of p = record {
  list = p.list.now;
  entry = p.entry;
  member = p.member.now;
  item = p.item;
  inner = option_map (λ name. name.now) p.inner;
}

-- an absent member is missing, and any other value has the wrong shape
abbrev pub fault_of : Expected → FileFault
fault_of expected.Present = MissingMember
fault_of expected.Object = WrongShape
fault_of expected.List = WrongShape
fault_of expected.Entries = WrongShape
fault_of expected.Text = WrongShape
fault_of expected.Word = WrongShape
fault_of expected.Whole = WrongShape
fault_of expected.Known = WrongShape
fault_of expected.New = WrongShape
fault_of expected.KeyValue = WrongShape

-- the fault of a part of which nothing is read
abbrev pub unread : {A : Type 0} → Option A → Option FileFault
unread part = result_err (or_fault WrongShape part)

-- the fault of a mismatch
abbrev pub fault_at : Mismatch Expected → FileFault
fault_at m = fault_of m.expected

module _ {M F : Type 0} (fault_for : M → F) where
  -- a result, with the fault for what was found wrong
  abbrev pub faulted : {A : Type 0} → Result A M → Result A F
  faulted (Ok x) = Ok x
  faulted (Err m) = Err (fault_for m)

  -- a call failed where the definition does, with the fault for what it found wrong, or was refused memory
  abbrev pub FailsFor : {Y : Type 0} → Failure M → Result Y F → Type 0
  FailsFor NoMemory meant = Unit {0}
  FailsFor (Fault m) meant = meant ≡ Err (fault_for m)

  -- a call answered what the definition says, its value seen through view, or failed so
  abbrev pub GivesOr : {X Y : Type 0} → (X → Y) → Result X (Failure M) → Result Y F → Type 0
  GivesOr view (Ok x) meant = meant ≡ Ok (view x)
  GivesOr view (Err failure) meant = FailsFor failure meant
