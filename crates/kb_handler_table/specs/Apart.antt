-- Handlers with distinct names.
use Rattle.std.specs.Prelude.{◌≡◌, ⊤, List, [], ◌∷◌, None}
use Rattle.kb_code.specs.Handler.{HandlerData, handler_named}

-- none of `hs` has the handler's name
abbrev pub IsApart : HandlerData → List HandlerData → Type 0
IsApart h hs = handler_named h.command hs ≡ None

-- names are distinct: no handler has the name of a later one
abbrev pub AreApart : List HandlerData → Type 0
AreApart [] = ⊤
AreApart (h ∷ hs) = IsApart h hs × AreApart hs
