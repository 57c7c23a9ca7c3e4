-- The arguments that a JSON value gives.
use Rattle.std.specs.Prelude.{List, [], ◌∷◌, map, Option, Some, None, option_map, option_and_then}
use Rattle.std.specs.Prelude.{if◌then◌else◌}
use Rattle.serde_json.specs.Data.{Data, null, boolean, number, string, array, object}
use Rattle.serde_json.specs.Find.{get, as_i64}
use Rattle.kb_core.specs.declared.arg.Arg.{Arg}
use Rattle.kb_core.specs.declared.arg.Arg.TheVariants.{Text, Number, Truth}
use Rattle.kb_core.specs.declared.arg.Kind.{Kind}
use Rattle.kb_core.specs.declared.parameter.Param.{Param}
use Rattle.kb_core.specs.Arg.{is_of, empty_of}

-- a text, an integer or a boolean
abbrev pub plain_of : Data → Option Arg
plain_of null = None
plain_of (boolean b) = Some (Truth b)
plain_of (number n) = option_map Number (as_i64 n)
plain_of (string s) = Some (Text s)
plain_of (array ds) = None
plain_of (object ms) = None

-- the same, if it is of the kind
abbrev pub arg_of : Kind → Data → Option Arg
arg_of k d = option_and_then (λ a. if is_of k a then Some a else None) (plain_of d)

-- a member of an object; absent and null give the empty value
abbrev pub member_arg : Kind → Option Data → Option Arg
member_arg k None = Some (empty_of k)
member_arg k (Some null) = Some (empty_of k)
member_arg k (Some (boolean b)) = arg_of k (boolean b)
member_arg k (Some (number n)) = arg_of k (number n)
member_arg k (Some (string s)) = arg_of k (string s)
member_arg k (Some (array ds)) = None
member_arg k (Some (object ms)) = None

abbrev pub object_args : Data → List Param → Option (List Arg)
object_args d [] = Some []
object_args d (p ∷ ps) =
    option_and_then (λ a. option_map (λ rest. a ∷ rest) (object_args d ps)) (member_arg p.kind (get p.name d))

-- a single value, for a single parameter
abbrev pub lone_arg : List Param → Data → Option (List Arg)
lone_arg [] d = None
lone_arg (p ∷ []) d = option_map (λ a. a ∷ []) (arg_of p.kind d)
lone_arg (p ∷ q ∷ ps) d = None

abbrev pub given : List Param → Option Data → Option (List Arg)
given ps None = Some (map (λ p. empty_of p.kind) ps)
given ps (Some null) = Some (map (λ p. empty_of p.kind) ps)
given ps (Some (boolean b)) = lone_arg ps (boolean b)
given ps (Some (number n)) = lone_arg ps (number n)
given ps (Some (string s)) = lone_arg ps (string s)
given ps (Some (array ds)) = None
given ps (Some (object ms)) = object_args (object ms) ps

-- without parameters, any value gives the empty list
abbrev pub arguments_for : List Param → Option Data → Option (List Arg)
arguments_for [] o = Some []
arguments_for (p ∷ ps) o = given (p ∷ ps) o
