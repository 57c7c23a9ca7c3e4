-- What handlers declare: their names and signatures.
use Rattle.std.specs.Prelude.{◌≡◌, ℕ, Bool, true, false, not, ◌&&◌, List, [], ◌∷◌}
use Rattle.std.specs.Prelude.{Option, Some, None, is_some}
use Rattle.std.specs.Prelude.{option_map}
use Rattle.kb_core.specs.Declaration.{Declaration}
use Rattle.kb_code.specs.Handler.{HandlerData, handler_named}
use Rattle.kb_code.specs.Same.{same_declaration}

-- the signature of the first handler with a name
abbrev pub declared_among : List HandlerData → List ℕ → Option Declaration
declared_among handlers name = option_map (λ h. h.signature) (handler_named name handlers)

-- whether a command exists and declares `d`
abbrev pub declares : Option Declaration → Declaration → Bool
declares None d = false
declares (Some e) d = same_declaration d e

-- whether no handler has the name of a later one
abbrev pub are_distinct : List HandlerData → Bool
are_distinct [] = true
are_distinct (h ∷ hs) = not (is_some (handler_named h.command hs)) && are_distinct hs

-- whether each handler has a counterpart among the others, which declares the same
abbrev pub each_declared : List HandlerData → List HandlerData → Bool
each_declared [] others = true
each_declared (h ∷ hs) others =
    declares (declared_among others h.command) h.signature && each_declared hs others

-- whether both declare the same commands, each once, with equal signatures
abbrev pub same_face : List HandlerData → List HandlerData → Bool
same_face old new =
    (are_distinct old && are_distinct new) && (each_declared old new && each_declared new old)

-- with the same face, each name declares the same in both
abbrev pub SameFaceDeclaresTheSame : Type 0
SameFaceDeclaresTheSame = (old new : List HandlerData) → same_face old new ≡ true → (name : List ℕ) →
    declared_among old name ≡ declared_among new name
