-- Live commands, and what they declare.
use Rattle.std.specs.Prelude.{◌≡◌, ℕ, List, Option, Some}
use Rattle.kb_core.specs.Declaration.{Declaration}
use Rattle.kb_core.specs.Native.{declaration_of}
use Rattle.kb_core.specs.declared.native.Native.{Native}
use Rattle.kb_code.specs.Handler.{HandlerData}

-- a live command: a native command, or a handler
pub data Callee : Type 0 where
  Plain : (native : Native) → Callee
  Coded : (handler : HandlerData) → Callee

-- the live command of each name
abbrev pub Table : Type 0
Table = List ℕ → Option Callee

abbrev pub declared_by : Callee → Declaration
declared_by (Plain native) = declaration_of native
declared_by (Coded h) = h.signature

-- the native is live, under some name
abbrev pub IsLive : Table → Native → Type 0
IsLive table native = (name : List ℕ) × (table name ≡ Some (Plain native))
