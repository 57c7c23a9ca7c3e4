-- The table of the native commands: identifier, parameters, budget and effect.
use Rattle.std.specs.Prelude.{◌≡◌, ℕ, List, [], ◌∷◌, Option, None, is_some, false, if◌then◌else◌, codes}
use Rattle.std.specs.Prelude.{find, bytes_eq, IsTrue}
use Rattle.kb_context.specs.declared.value.ContextValue.{ContextValue}
use Rattle.kb_context.specs.declared.value.ContextValue.TheVariants as value
use Rattle.kb_context.specs.Scopes.{ScopesData, value_at, set_fault_at, with_value_at}
use Rattle.kb_core.specs.declared.arg.Arg.{Arg}
use Rattle.kb_core.specs.declared.arg.Arg.TheVariants.{Text, Number, Truth}
use Rattle.kb_core.specs.declared.arg.Kind.TheVariants as kind
use Rattle.kb_core.specs.declared.buffer.Buffer.{Buffer}
use Rattle.kb_core.specs.declared.native.Native.{Native}
use Rattle.kb_core.specs.declared.native.Native.TheVariants.{TypeText, DeleteLeft, DeleteRight, CursorLeft}
use Rattle.kb_core.specs.declared.native.Native.TheVariants.{CursorRight, BufferClear, BufferTop}
use Rattle.kb_core.specs.declared.native.Native.TheVariants.{BufferBottom, SetContext}
use Rattle.kb_core.specs.declared.parameter.Param.{Param}
use Rattle.kb_core.specs.Arg.{context_value}
use Rattle.kb_core.specs.Buffer.{empty, with_inserted, without_left, without_right, moved_left, moved_right}
use Rattle.kb_core.specs.Buffer.{at_top, at_bottom}
use Rattle.kb_core.specs.Declaration.{Declaration}
use Rattle.kb_core.specs.Signature.{fits}

abbrev pub natives : List Native
natives =
    TypeText ∷ DeleteLeft ∷ DeleteRight ∷ CursorLeft ∷ CursorRight ∷ BufferClear ∷ BufferTop ∷ BufferBottom
    ∷ SetContext ∷ []

abbrev pub name_of : Native → List ℕ
name_of TypeText = codes "type"
name_of DeleteLeft = codes "deleteLeft"
name_of DeleteRight = codes "deleteRight"
name_of CursorLeft = codes "cursorLeft"
name_of CursorRight = codes "cursorRight"
name_of BufferClear = codes "buffer.clear"
name_of BufferTop = codes "buffer.top"
name_of BufferBottom = codes "buffer.bottom"
name_of SetContext = codes "setContext"

-- the native with this identifier
abbrev pub named : List ℕ → Option Native
named identifier = find (λ native. bytes_eq identifier (name_of native)) natives

abbrev pub parameters_of : Native → List Param
parameters_of TypeText = record { name = codes "text"; kind = kind.Text } ∷ []
parameters_of DeleteLeft = []
parameters_of DeleteRight = []
parameters_of CursorLeft = []
parameters_of CursorRight = []
parameters_of BufferClear = []
parameters_of BufferTop = []
parameters_of BufferBottom = []
parameters_of SetContext =
    record { name = codes "key"; kind = kind.Text } ∷ record { name = codes "value"; kind = kind.Any } ∷ []

abbrev pub budget_of : Native → ℕ
budget_of TypeText = 1001
budget_of DeleteLeft = 1001
budget_of DeleteRight = 1001
budget_of CursorLeft = 11
budget_of CursorRight = 11
budget_of BufferClear = 11
budget_of BufferTop = 11
budget_of BufferBottom = 11
budget_of SetContext = 101

-- the arguments fit the native's parameters
abbrev pub Fits : Native → List Arg → Type 0
Fits native args = IsTrue (fits (parameters_of native) args)

-- a native calls no others
abbrev pub declaration_of : Native → Declaration
declaration_of native = record { params = parameters_of native; budget = budget_of native; depth = 0 }

-- the first argument, if it is a text
abbrev pub text_of : List Arg → List ℕ
text_of [] = []
text_of (Text text ∷ args) = text
text_of (Number number ∷ args) = []
text_of (Truth truth ∷ args) = []

-- the buffer after a native command
abbrev pub buffer_after : Native → List Arg → Buffer → Buffer
buffer_after TypeText args b = with_inserted (text_of args) b
buffer_after DeleteLeft args b = without_left b
buffer_after DeleteRight args b = without_right b
buffer_after CursorLeft args b = moved_left b
buffer_after CursorRight args b = moved_right b
buffer_after BufferClear args b = empty
buffer_after BufferTop args b = at_top b
buffer_after BufferBottom args b = at_bottom b
buffer_after SetContext args b = b

-- the command may lengthen a text
abbrev pub MayGrow : Native → Type 0
MayGrow TypeText = Unit {0}
MayGrow DeleteLeft = ⊥
MayGrow DeleteRight = ⊥
MayGrow CursorLeft = Unit {0}
MayGrow CursorRight = Unit {0}
MayGrow BufferClear = ⊥
MayGrow BufferTop = Unit {0}
MayGrow BufferBottom = Unit {0}
MayGrow SetContext = ⊥

-- the second argument, as the value of a context key
abbrev pub value_of : List Arg → ContextValue
value_of [] = value.Truth false
value_of (key ∷ []) = value.Truth false
value_of (key ∷ arg ∷ args) = context_value arg

-- a key is set in the outermost scope, which is the first one, unless the limit on keys forbids it
abbrev pub with_root_key : List ℕ → ContextValue → ScopesData → ScopesData
with_root_key key value s = if is_some (set_fault_at s 0 key) then s else with_value_at s 0 key value

-- the scopes after a native command
abbrev pub scopes_after : Native → List Arg → ScopesData → ScopesData
scopes_after TypeText args s = s
scopes_after DeleteLeft args s = s
scopes_after DeleteRight args s = s
scopes_after CursorLeft args s = s
scopes_after CursorRight args s = s
scopes_after BufferClear args s = s
scopes_after BufferTop args s = s
scopes_after BufferBottom args s = s
scopes_after SetContext args s = with_root_key (text_of args) (value_of args) s

-- The cases in which a native command may run out of memory: it lengthens a text, or it adds a key that
-- the outermost scope lacks and the limit allows.
abbrev pub MayLackMemory : Native → List Arg → ScopesData → Type 0
MayLackMemory TypeText args s = Unit {0}
MayLackMemory DeleteLeft args s = ⊥
MayLackMemory DeleteRight args s = ⊥
MayLackMemory CursorLeft args s = Unit {0}
MayLackMemory CursorRight args s = Unit {0}
MayLackMemory BufferClear args s = ⊥
MayLackMemory BufferTop args s = Unit {0}
MayLackMemory BufferBottom args s = Unit {0}
MayLackMemory SetContext args s =
    (set_fault_at s 0 (text_of args) ≡ None) × (value_at s 0 (text_of args) ≡ None)
