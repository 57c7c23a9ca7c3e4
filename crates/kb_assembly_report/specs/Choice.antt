-- Budgets and depths for the handlers of a text that leaves some out.
use Rattle.std.specs.Prelude.{◌≡◌, ◌≤◌, ◌+◌, ◌-◌, ℕ, Bool, true, ◌==◌, ◌&&◌, max, List, [], ◌∷◌}
use Rattle.std.specs.Prelude.{Option, Some, None, option_and_then, slice_get}
use Rattle.std.specs.FinMap as map
use Rattle.kb_assembly.specs.declared.draft.Draft.{Draft}
use Rattle.kb_code.specs.Code.{code_fault}
use Rattle.kb_code.specs.Handler.{HandlerData}
use Rattle.kb_code.specs.declared.version.Version.TheVariants.{Two}
use Rattle.kb_core.specs.Declaration.{AreWithinLimits, Declaration}
use Rattle.kb_core.specs.Native.{natives}
use Rattle.kb_verify.specs.Accepted.{IsAccepted, IsCallee}
use Rattle.kb_verify.specs.Callable.{Commands}
use Rattle.kb_verify.specs.Paths.{IsDearestCost}
use Rattle.kb_verify.specs.Provider.{callable_of}
use Rattle.kb_assembly_report.specs.declared.holding.Limits.{Limits}

-- what the handlers of an extension without dependencies may call
abbrev pub commands_of : List HandlerData → Commands
commands_of hs = callable_of natives [] [] hs

-- ---- a choice

-- a handler of a text, with what it declares
abbrev pub handler_with : Draft → Declaration → HandlerData
handler_with given d = record {
  command = given.command;
  signature = d;
  texts = given.texts;
  calls = given.calls;
  code = given.code;
}

abbrev pub handlers_with : List Draft → List Declaration → List HandlerData
handlers_with [] ds = []
handlers_with (given ∷ drafts) [] = []
handlers_with (given ∷ drafts) (d ∷ ds) = handler_with given d ∷ handlers_with drafts ds

-- a depth is larger than that of each callee
abbrev pub IsDeep : Commands → HandlerData → ℕ → Type 0
IsDeep commands h depth =
    (place index : ℕ) (d : Declaration) → IsCallee commands h place index d → d.depth + 1 ≤ depth

-- a number that a text gives is kept
abbrev pub Keeps : Option ℕ → ℕ → Type 0
Keeps None number = Unit {0}
Keeps (Some given) number = number ≡ given

-- a declaration has all that a text doesn't leave out
pub record Fills (given : Draft) (d : Declaration) : Type 0 where
  pub params : d.params ≡ given.params
  pub budget : Keeps given.budget d.budget
  pub depth : Keeps given.depth d.depth

-- A declaration will do for a handler: it is within the limits of a file. A handler whose budget was left out
-- is accepted, and one whose depth was left out has a larger one than each that it calls.
pub record Does (commands : Commands) (given : Draft) (d : Declaration) : Type 0 where
  pub fills : Fills given d
  pub limits : AreWithinLimits given.params d.budget d.depth
  pub some_depth : 1 ≤ d.depth
  pub coded : code_fault Two given.code ≡ None
  pub accepted : given.budget ≡ None → IsAccepted commands (handler_with given d)
  pub deep : given.depth ≡ None → IsDeep commands (handler_with given d) d.depth

abbrev pub EachDoes : Commands → List Draft → List Declaration → Type 0
EachDoes commands [] [] = Unit {0}
EachDoes commands [] (d ∷ ds) = ⊥
EachDoes commands (given ∷ drafts) [] = ⊥
EachDoes commands (given ∷ drafts) (d ∷ ds) = Does commands given d × EachDoes commands drafts ds

-- a choice of budgets and depths will do
abbrev pub IsChoice : List Draft → List Declaration → Type 0
IsChoice drafts ds = EachDoes (commands_of (handlers_with drafts ds)) drafts ds

abbrev pub NoChoice : List Draft → Type 0
NoChoice drafts = (ds : List Declaration) → IsChoice drafts ds → ⊥

-- ---- the smallest choice

-- the smallest depth, at least 1, that is larger than that of each callee
pub record IsLeastDepth (commands : Commands) (h : HandlerData) (depth : ℕ) : Type 0 where
  pub some : 1 ≤ depth
  pub deep : IsDeep commands h depth
  pub least : (other : ℕ) → 1 ≤ other → IsDeep commands h other → depth ≤ other

-- what was left out of a handler is as small as may be
pub record IsSettled (commands : Commands) (given : Draft) (h : HandlerData) : Type 0 where
  pub accepted : given.budget ≡ None → IsAccepted commands h
  pub dearest : given.budget ≡ None → IsDearestCost commands h h.signature.budget
  pub least : given.depth ≡ None → IsLeastDepth commands h h.signature.depth

-- a declaration has what a text gives, and is else as small as may be over these commands
pub record IsNext (commands : Commands) (given : Draft) (d : Declaration) : Type 0 where
  pub fills : Fills given d
  pub limits : AreWithinLimits given.params d.budget d.depth
  pub some_depth : 1 ≤ d.depth
  pub settled : IsSettled commands given (handler_with given d)

abbrev pub EachNext : Commands → List Draft → List Declaration → Type 0
EachNext commands [] [] = Unit {0}
EachNext commands [] (d ∷ ds) = ⊥
EachNext commands (given ∷ drafts) [] = ⊥
EachNext commands (given ∷ drafts) (d ∷ ds) = IsNext commands given d × EachNext commands drafts ds

-- the declarations that follow from others
abbrev pub AreNext : List Draft → List Declaration → List Declaration → Type 0
AreNext drafts ds es = EachNext (commands_of (handlers_with drafts ds)) drafts es

-- the budgets and depths that were left out are as small as may be
abbrev pub IsSmallest : List Draft → List Declaration → Type 0
IsSmallest drafts ds = AreNext drafts ds ds

-- ---- for private functions

-- a declaration is no larger than another one
pub record IsLess (d e : Declaration) : Type 0 where
  pub params : d.params ≡ e.params
  pub budget : d.budget ≤ e.budget
  pub depth : d.depth ≤ e.depth

abbrev pub IsLower : Option Declaration → Option Declaration → Type 0
IsLower None None = Unit {0}
IsLower None (Some e) = ⊥
IsLower (Some d) None = ⊥
IsLower (Some d) (Some e) = IsLess d e

-- commands that declare no more than others
abbrev pub IsBelow : Commands → Commands → Type 0
IsBelow commands others = (name : List ℕ) → IsLower (map.get commands name) (map.get others name)

abbrev pub AllLess : List Declaration → List Declaration → Type 0
AllLess [] [] = Unit {0}
AllLess [] (e ∷ es) = ⊥
AllLess (d ∷ ds) [] = ⊥
AllLess (d ∷ ds) (e ∷ es) = IsLess d e × AllLess ds es

-- no declaration will do, whatever the others declare that declare no less
abbrev pub NoneDoes : Commands → Draft → Type 0
NoneDoes commands given =
    (others : Commands) (e : Declaration) → IsBelow commands others → Does others given e → ⊥

abbrev pub NoneDo : Commands → List Draft → Type 0
NoneDo commands drafts =
    (others : Commands) (es : List Declaration) → IsBelow commands others → EachDoes others drafts es → ⊥

-- what a handler declares with limits
abbrev pub declared_by : Draft → Limits → Declaration
declared_by given limits = record { params = given.params; budget = limits.budget; depth = limits.depth }

-- a file can hold a handler with these limits
pub record IsWithin (given : Draft) (limits : Limits) : Type 0 where
  pub range : AreWithinLimits given.params limits.budget limits.depth
  pub some_depth : 1 ≤ limits.depth

pub record IsHoldable (given : Draft) (limits : Limits) : Type 0 where
  pub within : IsWithin given limits
  pub coded : code_fault Two given.code ≡ None

abbrev pub limits_of : ℕ → ℕ → Limits
limits_of budget depth = record { budget = budget; depth = depth }

-- a handler is accepted with a depth and the largest budget
pub record IsAcceptable (commands : Commands) (given : Draft) (depth : ℕ) : Type 0 where
  pub holdable : IsHoldable given (limits_of 1000000000 depth)
  pub accepted : IsAccepted commands (handler_with given (declared_by given (limits_of 1000000000 depth)))

-- a handler with a depth is accepted with this budget, and with no smaller one
pub record IsBudgetAt (commands : Commands) (given : Draft) (depth budget : ℕ) : Type 0 where
  pub accepted : IsAccepted commands (handler_with given (declared_by given (limits_of budget depth)))
  pub dearest : IsDearestCost commands (handler_with given (declared_by given (limits_of budget depth)))
      budget

-- the depth that a text gives, or else the smallest
pub record IsDepthFor (commands : Commands) (given : Draft) (depth : ℕ) : Type 0 where
  pub keeps : Keeps given.depth depth
  pub least : given.depth ≡ None → (d : Declaration) → IsLeastDepth commands (handler_with given d) depth

-- the budget that a text gives, or else the smallest
pub record IsBudgetFor (commands : Commands) (given : Draft) (depth budget : ℕ) : Type 0 where
  pub keeps : Keeps given.budget budget
  pub least : given.budget ≡ None → IsBudgetAt commands given depth budget

-- a handler whose budget was left out isn't accepted with a depth, even with the largest budget
pub record NotAcceptable (commands : Commands) (given : Draft) (depth : ℕ) : Type 0 where
  pub left_out : given.budget ≡ None
  pub never : IsAcceptable commands given depth → ⊥

-- the depth that a callee asks for
abbrev pub need : Option Declaration → ℕ
need None = 0
need (Some d) = d.depth + 1

abbrev pub top : Commands → List (List ℕ) → List ℕ → ℕ
top commands calls [] = 1
top commands calls (n ∷ ns) =
    max (need (option_and_then (map.get commands) (slice_get calls n))) (top commands calls ns)

abbrev pub same_limits : List Declaration → List Declaration → Bool
same_limits [] es = true
same_limits (d ∷ ds) [] = true
same_limits (d ∷ ds) (e ∷ es) = (d.budget == e.budget && d.depth == e.depth) && same_limits ds es

-- how far declarations are below the limits
abbrev pub room : List Declaration → ℕ
room [] = 0
room (d ∷ ds) = (1000000000 - d.budget) + (64 - d.depth) + room ds

-- the smallest numbers of all, where a text gives none
pub record IsLowest (given : Draft) (d : Declaration) : Type 0 where
  pub fills : Fills given d
  pub budget : given.budget ≡ None → d.budget ≡ 1
  pub depth : given.depth ≡ None → d.depth ≡ 1

abbrev pub AreLowest : List Draft → List Declaration → Type 0
AreLowest [] [] = Unit {0}
AreLowest [] (d ∷ ds) = ⊥
AreLowest (given ∷ drafts) [] = ⊥
AreLowest (given ∷ drafts) (d ∷ ds) = IsLowest given d × AreLowest drafts ds

-- declarations have all that a text doesn't leave out
abbrev pub AreFilled : List Draft → List Declaration → Type 0
AreFilled [] [] = Unit {0}
AreFilled [] (d ∷ ds) = ⊥
AreFilled (given ∷ drafts) [] = ⊥
AreFilled (given ∷ drafts) (d ∷ ds) = (d.params ≡ given.params) × AreFilled drafts ds

-- declarations are no larger than in a choice that will do, and the next ones no smaller
pub record IsLow (drafts : List Draft) (ds : List Declaration) : Type 0 where
  pub below : (es : List Declaration) → IsChoice drafts es → AllLess ds es
  pub rising : (es : List Declaration) → AreNext drafts ds es → AllLess ds es
