-- The parameters of a handler that a JSON value denotes.
use Rattle.std.specs.Prelude.{ℕ, List, map, codes, bytes_eq, Option, Some, None, if◌then◌else◌}
use Rattle.serde_json.specs.Data.{Data, Members}
use Rattle.serde_json.specs.Find.{get_member, as_object, as_str}
use Rattle.kb_core.specs.declared.arg.Kind.{Kind}
use Rattle.kb_core.specs.declared.arg.Kind.TheVariants as kind
use Rattle.kb_core.specs.declared.parameter.Param.{Param}
use Rattle.kb_jsonc.specs.Parts.{◌>>=◌, each, elements_of, word_of}
use Rattle.kb_handler_file.specs.Names.{repeats}

-- the kind with this name
abbrev pub kind_named : List ℕ → Option Kind
kind_named name =
    if bytes_eq name (codes "text") then Some kind.Text
    else if bytes_eq name (codes "number") then Some kind.Number
    else if bytes_eq name (codes "truth") then Some kind.Truth
    else if bytes_eq name (codes "any") then Some kind.Any
    else None

-- the kind that a member names
abbrev pub kind_of : Option Data → Option Kind
kind_of member = member >>= as_str >>= kind_named

-- the parameter with these members: a name that is not empty, and the name of a kind
abbrev pub param_in : Members → Option Param
param_in ms = do
  name ← get_member (codes "name") ms >>= word_of
  kind ← kind_of (get_member (codes "kind") ms)
  Some (record { name = name; kind = kind })

-- the parameter that an element is, if it is an object
unfoldable pub param_of : Data → Option Param
param_of d = as_object d >>= param_in

-- the parameters, if no two have the same name
abbrev pub distinct : List Param → Option (List Param)
distinct params = if repeats (map (λ param. param.name) params) then None else Some params

-- the parameters that a list denotes
abbrev pub params_of : Data → Option (List Param)
params_of d = elements_of d >>= each param_of >>= distinct
