-- Lemmas on lists of verified handlers.
use Rattle.std.proofs.Common.{◌≡◌, ◌∙◌, List, [], ◌∷◌, ◌++◌, map, refl, sym, ap, subst}
use Rattle.kb_code.specs.Handler.{HandlerData}
use Rattle.kb_verify.specs.Accepted.{CheckedHandler, EachChecked, IsChecked, together}
use Rattle.kb_verify.specs.declared.callees.Callee.{Callee}

behind : (hs : List HandlerData) (all : List (List Callee)) (v : CheckedHandler) → EachChecked hs all →
    IsChecked v → EachChecked (hs ++ v.handler ∷ []) (all ++ v.callees ∷ [])
behind [] [] v each own = (own, tt)
behind [] (cs ∷ all) v each own = absurd each
behind (h ∷ hs) [] v each own = absurd each
behind (h ∷ hs) (cs ∷ all) v each own = (each.0, behind hs all v each.1 own)

-- one more handler, with its callees
pub one_more : (hs more : List HandlerData) (all others : List (List Callee)) (v : CheckedHandler) →
    EachChecked hs all → IsChecked v → more ≡ hs ++ v.handler ∷ [] → others ≡ all ++ v.callees ∷ [] →
    EachChecked more others
one_more hs more all others v each own is its =
    subst (λ hs. EachChecked hs others) (sym is)
    (subst (λ cs. EachChecked (hs ++ v.handler ∷ []) cs) (sym its) (behind hs all v each own))

grown : (hs : List HandlerData) (all : List (List Callee)) (v : CheckedHandler) → EachChecked hs all →
    together (hs ++ v.handler ∷ []) (all ++ v.callees ∷ []) ≡ together hs all ++ v ∷ []
grown [] [] v each = refl
grown [] (cs ∷ all) v each = absurd each
grown (h ∷ hs) [] v each = absurd each
grown (h ∷ hs) (cs ∷ all) v each =
    ap (λ (vs : List CheckedHandler). record { handler = h; callees = cs } ∷ vs) (grown hs all v each.1)

pub together_more : (hs more : List HandlerData) (all others : List (List Callee)) (v : CheckedHandler) →
    EachChecked hs all → more ≡ hs ++ v.handler ∷ [] → others ≡ all ++ v.callees ∷ [] →
    together more others ≡ together hs all ++ v ∷ []
together_more hs more all others v each is its =
    ap (λ hs. together hs others) is ∙ ap (λ all. together (hs ++ v.handler ∷ []) all) its ∙ grown hs all v each

-- the parts of the list
pub handlers_of : (hs : List HandlerData) (all : List (List Callee)) → EachChecked hs all →
    hs ≡ map (λ (v : CheckedHandler). v.handler) (together hs all)
handlers_of [] all each = refl
handlers_of (h ∷ hs) [] each = absurd each
handlers_of (h ∷ hs) (cs ∷ all) each = ap (λ (hs : List HandlerData). h ∷ hs) (handlers_of hs all each.1)

pub callees_of : (hs : List HandlerData) (all : List (List Callee)) → EachChecked hs all →
    all ≡ map (λ (v : CheckedHandler). v.callees) (together hs all)
callees_of [] [] each = refl
callees_of [] (cs ∷ all) each = absurd each
callees_of (h ∷ hs) [] each = absurd each
callees_of (h ∷ hs) (cs ∷ all) each = ap (λ (all : List (List Callee)). cs ∷ all) (callees_of hs all each.1)

pub ruleset adding = (one_more, together_more)

pub ruleset listing = (handlers_of, callees_of)
