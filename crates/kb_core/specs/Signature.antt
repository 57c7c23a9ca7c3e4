-- Which arguments fit which parameters.
use Rattle.std.specs.Prelude.{List, [], ◌∷◌, Bool, true, false, ◌&&◌}
use Rattle.kb_core.specs.declared.arg.Arg.{Arg}
use Rattle.kb_core.specs.declared.parameter.Param.{Param}
use Rattle.kb_core.specs.Arg.{is_of}

-- one argument for each parameter, each of its kind
abbrev pub fits : List Param → List Arg → Bool
fits [] [] = true
fits [] (arg ∷ args) = false
fits (param ∷ params) [] = false
fits (param ∷ params) (arg ∷ args) = is_of param.kind arg && fits params args
