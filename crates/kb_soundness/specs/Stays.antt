-- Changes of the live commands keep each live handler verified.
use Rattle.std.specs.Prelude.{◌≡◌, ℕ, true, false, List, [], ◌∷◌, Some, None, IfSome}
use Rattle.kb_core.specs.declared.native.Native.{Native}
use Rattle.kb_core.specs.Native.{named}
use Rattle.kb_code.specs.Handler.{handler_named}
use Rattle.kb_handler_table.specs.Apart.{AreApart}
use Rattle.kb_handler_table.specs.Codes.{CodesData, AreChecked, CalleesAreChecked, checked_in}
use Rattle.kb_handler_table.specs.Live.{Group, group_of, handlers_in}
use Rattle.kb_registry.specs.Live.{Live, table_of, fresh, registered, disposed, disposal_fault, with_code}
use Rattle.kb_registry.specs.Live.{with_exchanged, with_switched, without_code}
use Rattle.kb_registry.specs.CodeFault.{code_fault, code_disposal_fault, exchange_fault}
use Rattle.kb_registry.specs.Missing.{missing_callee}
use Rattle.kb_soundness.specs.Sound.{AllVerified}

-- all handlers of the groups are of verified code
abbrev pub AllChecked : List Group → Type 0
AllChecked [] = Unit {0}
AllChecked (g ∷ gs) = (checked_in g.codes ≡ g.codes.handlers) × AllChecked gs

-- no native's name finds a live handler
abbrev pub AreFree : List Group → Type 0
AreFree groups = (name : List ℕ) (native : Native) → named name ≡ Some native →
    handler_named name (handlers_in groups) ≡ None

-- each live handler is verified, and is the only live command of its name
pub record IsSound (live : Live) : Type 0 where
  pub checked : AllChecked live.code
  pub apart : AreApart (handlers_in live.code)
  pub free : AreFree live.code
  pub verified : AllVerified (table_of live)

-- an empty registry has no live handlers
abbrev pub FreshIsSound : Type 0
FreshIsSound = (limit : ℕ) → IsSound (fresh limit)

-- a registration keeps live handlers verified
abbrev pub RegisteredStaysSound : Type 0
RegisteredStaysSound = (native : Native) (live : Live) → IsSound live → IsSound (registered native live)

-- so does the end of a registration that isn't refused: no live handler calls its native
abbrev pub DisposedStaysSound : Type 0
DisposedStaysSound = (ticket : ℕ) (live : Live) → disposal_fault ticket live ≡ None → IsSound live →
    IsSound (disposed ticket live)

-- so does the addition of verified code that isn't refused; its handlers are live and verified then
abbrev pub CodeStaysSound : Type 0
CodeStaysSound = (extension : ℕ) (codes : CodesData) (live : Live) →
    code_fault codes live ≡ None → AreChecked codes → IsSound live → IsSound (with_code extension codes live)

-- so does the addition of code without a handler, verified or not
abbrev pub NoCodeStaysSound : Type 0
NoCodeStaysSound = (extension : ℕ) (codes : CodesData) (live : Live) → codes.handlers ≡ [] → IsSound live →
    IsSound (with_code extension codes live)

-- so does the removal of code that isn't refused: no other live handler calls one of its handlers
abbrev pub CodeDisposedStaysSound : Type 0
CodeDisposedStaysSound = (extension : ℕ) (live : Live) → code_disposal_fault extension live ≡ None →
    IsSound live → IsSound (without_code extension live)

-- so does an exchange of verified code that isn't refused
abbrev pub CodeExchangedStaysSound : Type 0
CodeExchangedStaysSound = (extension : ℕ) (codes : CodesData) (live : Live) →
    exchange_fault extension codes live ≡ None → AreChecked codes → IsSound live →
    IsSound (with_exchanged extension codes live)

-- so does switching code off whose removal isn't refused: no other live handler calls one of its handlers
abbrev pub CodeSwitchedOffStaysSound : Type 0
CodeSwitchedOffStaysSound = (extension : ℕ) (live : Live) → code_disposal_fault extension live ≡ None →
    IsSound live → IsSound (with_switched extension false live)

-- so does switching code on of which no callee is missing; that its callees were checked holds of all code
abbrev pub CodeSwitchedOnStaysSound : Type 0
CodeSwitchedOnStaysSound = (extension : ℕ) (live : Live) →
    IfSome (group_of extension live.code)
    (λ codes. CalleesAreChecked codes.handlers codes.callees × (missing_callee codes live ≡ None)) →
    IsSound live → IsSound (with_switched extension true live)
