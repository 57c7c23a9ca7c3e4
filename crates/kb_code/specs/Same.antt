-- Equality of declarations as a Boolean function.
use Rattle.std.specs.Prelude.{◌≡◌, Bool, true, false, ◌&&◌, List, [], ◌∷◌, bytes_eq, nat_eq}
use Rattle.std.specs.Bool.{Decides}
use Rattle.kb_core.specs.declared.arg.Kind.{Kind}
use Rattle.kb_core.specs.declared.arg.Kind.TheVariants as kind
use Rattle.kb_core.specs.declared.parameter.Param.{Param}
use Rattle.kb_core.specs.Declaration.{Declaration}

abbrev pub same_kind : Kind → Kind → Bool
same_kind kind.Text kind.Text = true
same_kind kind.Number kind.Number = true
same_kind kind.Truth kind.Truth = true
same_kind kind.Any kind.Any = true
same_kind _ _ = false

-- names of parameters are compared too
abbrev pub same_params : List Param → List Param → Bool
same_params [] [] = true
same_params (p ∷ ps) (q ∷ qs) = (bytes_eq p.name q.name && same_kind p.kind q.kind) && same_params ps qs
same_params _ _ = false

abbrev pub same_declaration : Declaration → Declaration → Bool
same_declaration d e =
    (nat_eq d.budget e.budget && nat_eq d.depth e.depth) && same_params d.params e.params

-- `same_declaration` decides equality
abbrev pub SameIsEqual : Type 0
SameIsEqual = (d e : Declaration) → Decides (same_declaration d e) (d ≡ e)
