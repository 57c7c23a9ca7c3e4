-- Which handlers the verifier accepts with given callable commands, and what they call.
use Rattle.std.specs.Prelude.{◌≡◌, ℕ, ◌+◌, ◌<◌, ◌≤◌, List, [], ◌∷◌, map, length, Some, slice_get}
use Rattle.std.specs.FinMap as fin_map
use Rattle.std.specs.List.{AllZip}
use Rattle.kb_core.specs.Declaration.{Declaration}
use Rattle.kb_code.specs.Handler.{HandlerData}
use Rattle.kb_code.specs.Blocks.{IsFormed}
use Rattle.kb_code.specs.Callees.{callees_of}
use Rattle.kb_code.specs.Reachable.{Calls}
use Rattle.kb_verify.specs.declared.callees.Callee.{Callee}
use Rattle.kb_verify.specs.Callable.{Commands, declaration_at}
use Rattle.kb_verify.specs.Paths.{IsWithinBudget}
use Rattle.kb_verify.specs.Shapes.{HasShapes}

-- a reachable instruction calls a command that declares `d`
pub record IsCallee (commands : Commands) (h : HandlerData) (place index : ℕ) (d : Declaration) :
    Type 0 where
  pub calls : Calls h place index
  pub declares : declaration_at commands h index ≡ Some d

-- each callee declares a smaller depth than the handler
abbrev pub IsShallow : Commands → HandlerData → Type 0
IsShallow commands h =
    (place index : ℕ) (d : Declaration) → IsCallee commands h place index d → d.depth + 1 ≤ h.signature.depth

-- a handler is accepted
pub record IsAccepted (commands : Commands) (h : HandlerData) : Type 0 where
  pub formed : IsFormed h.code
  pub some_code : 0 < length h.code
  pub shapes : HasShapes commands h
  pub within_budget : IsWithinBudget commands h
  pub within_depth : IsShallow commands h

-- the first place with a call whose callee's declared depth is too large
pub record IsFirstTooDeep (commands : Commands) (h : HandlerData) (place : ℕ) : Type 0 where
  pub index : ℕ
  pub declaration : Declaration
  pub callee : IsCallee commands h place index declaration
  pub deep : h.signature.depth < declaration.depth + 1
  pub first : (q m : ℕ) (d : Declaration) → q < place → IsCallee commands h q m d →
      d.depth + 1 ≤ h.signature.depth

-- each callee has the signature that its command declares
abbrev pub AreDeclared : Commands → HandlerData → List Callee → Type 0
AreDeclared commands h [] = Unit {0}
AreDeclared commands h (c ∷ callees) =
    (declaration_at commands h c.index ≡ Some c.signature) × AreDeclared commands h callees

-- the callees: one for each reachable call, in order of place, each with the signature of its command
pub record AreCallees (commands : Commands) (h : HandlerData) (callees : List Callee) : Type 0 where
  pub called : map (λ c. c.index) callees ≡ callees_of h
  pub declared : AreDeclared commands h callees

-- the list has a callee with this index and declaration
abbrev pub HasCallee : List Callee → ℕ → Declaration → Type 0
HasCallee callees index d = (k : ℕ) × (slice_get callees k ≡ Some (record { index = index; signature = d }))

-- a callee has a name, and its signature is what the command of that name declares
pub record IsNamed (commands : Commands) (h : HandlerData) (c : Callee) : Type 0 where
  pub name : List ℕ
  pub named : slice_get h.calls c.index ≡ Some name
  pub declares : fin_map.get commands name ≡ Some c.signature

-- `other` declares the same as `commands` for all callees
abbrev pub IsSwapped : Commands → Commands → HandlerData → Type 0
IsSwapped commands other h =
    (place index : ℕ) (d : Declaration) → IsCallee commands h place index d →
    declaration_at other h index ≡ Some d

-- a handler and its callees
pub record CheckedHandler : Type 0 where
  pub handler : HandlerData
  pub callees : List Callee

-- the handler was accepted with some commands, and `callees` are its callees as those commands declare
-- them
abbrev pub IsChecked : CheckedHandler → Type 0
IsChecked v = (commands : Commands) × IsAccepted commands v.handler × AreCallees commands v.handler v.callees

-- each handler was accepted against some commands, and `all` has its callees with the signatures that
-- those declare
abbrev pub EachChecked : List HandlerData → List (List Callee) → Type 0
EachChecked handlers all =
    AllZip (λ h callees. IsChecked (record { handler = h; callees = callees })) handlers all

-- handlers with the callees of each
abbrev pub together : List HandlerData → List (List Callee) → List CheckedHandler
together [] all = []
together (h ∷ hs) [] = []
together (h ∷ hs) (callees ∷ all) = record { handler = h; callees = callees } ∷ together hs all
