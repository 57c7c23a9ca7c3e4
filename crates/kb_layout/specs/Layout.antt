-- The layout that a JSON value is, or its first fault.
use Rattle.std.specs.Prelude.{ℕ, ◌||◌, Bool, List, [], ◌∷◌, Option, Some, None, option_map}
use Rattle.std.specs.Prelude.{unwrap_or, Result, Err, codes, if◌then◌else◌}
use Rattle.std.specs.List.{list_any}
use Rattle.std.specs.FinMap.{empty, from_entries}
use Rattle.serde_json.specs.Data.{Data, Members}
use Rattle.serde_json.specs.Find.{get, get_member, as_str, as_object}
use Rattle.kb_context.specs.declared.layout.Layout.{Layout}
use Rattle.kb_context.specs.declared.layout.LayoutScope.{LayoutScope}
use Rattle.kb_context.specs.declared.value.ContextValue.{ContextValue}
use Rattle.kb_base.specs.Reading.{or_fault}
use Rattle.kb_context.specs.Scopes.{Keys}
use Rattle.kb_jsonc.specs.declared.file_fault.FileFault.{FileFault}
use Rattle.kb_jsonc.specs.declared.file_fault.FileFault.TheVariants.{MissingMember, WrongShape}
use Rattle.kb_layout.specs.Context.{value_of}
use Rattle.kb_jsonc.specs.Parts.{◌>>=◌, each, lacks, optional, elements_of, pairs_of}

-- the elements of the list that a member is
abbrev pub list_of : Option Data → Option (List Data)
list_of member = member >>= elements_of

-- the same by the member's name
abbrev pub list_at : List ℕ → Data → Option (List Data)
list_at name d = list_of (get name d)

-- the layout lacks its scopes, or one of the scopes its name
unfoldable pub lacks_member : Data → Bool
lacks_member d =
    lacks (codes "scopes") d || list_any (lacks (codes "name")) (unwrap_or (list_at (codes "scopes") d) [])

-- a key and its value
abbrev pub key_of : List ℕ × Data → Option (List ℕ × ContextValue)
key_of m = option_map (λ value. (m.0, value)) (value_of m.1)

-- the keys that an object has, each with a context value; an object has each name once
abbrev pub keys_of : Data → Option Keys
keys_of d = as_object d >>= λ ms. option_map from_entries (each key_of (pairs_of ms))

-- the text that a value is, where a member may be absent
abbrev pub some_text : Data → Option (Option (List ℕ))
some_text d = option_map Some (as_str d)

-- the names of a scope and of the one around it, which may be absent
abbrev pub names_of : Option Data → Option Data → Option (List ℕ × Option (List ℕ))
names_of name parent = do
  name ← name >>= as_str
  parent ← optional None some_text parent
  Some (name, parent)

-- the scope that members are
abbrev pub scope_in : Members → Option LayoutScope
scope_in ms = do
  names ← names_of (get_member (codes "name") ms) (get_member (codes "parent") ms)
  keys ← optional empty keys_of (get_member (codes "keys") ms)
  Some (record { name = names.0; parent = names.1; keys = keys })

-- the scope that an element is
unfoldable pub scope_of : Data → Option LayoutScope
scope_of d = as_object d >>= scope_in

-- a text by its member's name
abbrev pub text_at : List ℕ → Data → Option (List ℕ)
text_at name d = get name d >>= as_str

-- the scopes that a layout lists
abbrev pub scopes_at : Data → Option (List LayoutScope)
scopes_at d = list_at (codes "scopes") d >>= each scope_of

-- the name of the first scope, or the empty text where there is none
abbrev pub first_name : List LayoutScope → List ℕ
first_name [] = []
first_name (s ∷ scopes) = s.name

-- the layout that members are, where each part has its shape
abbrev pub record_in : Members → Option Layout
record_in ms = do
  elements ← list_of (get_member (codes "scopes") ms)
  scopes ← each scope_of elements
  focus ← optional (first_name scopes) as_str (get_member (codes "focus") ms)
  Some (record { scopes = scopes; focus = focus })

-- the layout that a value is, where each part has its shape
unfoldable pub record_of : Data → Option Layout
record_of d = as_object d >>= record_in

-- an absent member is the first fault, at any place, and then any wrong shape
abbrev pub layout_of : Data → Result Layout FileFault
layout_of d = if lacks_member d then Err MissingMember else or_fault WrongShape (record_of d)
