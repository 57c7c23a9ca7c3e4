-- A command implemented in code.
use Rattle.std.specs.Prelude.{ℕ, List, Option, find, bytes_eq}
use Rattle.kb_core.specs.Declaration.{Declaration}
use Rattle.kb_code.specs.declared.instr.Instr.{Instr}

pub record HandlerData : Type 0 where
  pub command : List ℕ
  pub signature : Declaration
  pub texts : List (List ℕ)
  pub calls : List (List ℕ)
  pub code : List Instr

-- the first handler with a name
abbrev pub handler_named : List ℕ → List HandlerData → Option HandlerData
handler_named name handlers = find (λ h. bytes_eq name h.command) handlers
