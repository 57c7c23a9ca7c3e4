-- Lemmas on the search for a missing callee, handler by handler.
use Rattle.std.proofs.Common.{◌≡◌, ◌∙◌, ℕ, zero, suc, ◌+◌, ◌<◌, Bool, List, [], ◌∷◌, Some, None, refl, sym}
use Rattle.std.proofs.Common.{ap, drop}
use Rattle.std.proofs.Common.{length, get_or, arith, ◌≤◌}
use Rattle.std.specs.Prelude.{slice_get}
use Rattle.std.specs.Option.{option_or}
use Rattle.kb_core.specs.Declaration.{Declaration}
use Rattle.kb_code.specs.Handler.{HandlerData}
use Rattle.kb_registry.specs.Missing.{missing_in, missing_from}
use Rattle.kb_verify.specs.declared.callees.Callee.{Callee}

module _ (there : Declaration → List ℕ → Bool) where
  empty : (hs : List HandlerData) → None ≡ missing_from there hs []
  empty [] = refl
  empty (h ∷ hs) = refl

  -- the search from a place on
  at : (hs : List HandlerData) (all : List (List Callee)) (i : ℕ) (h : HandlerData) (cs : List Callee)
      → i < length hs → h ≡ get_or hs i h → Some cs ≡ slice_get all i
      → missing_from there (drop i hs) (drop i all)
      ≡ option_or (missing_in there h cs) (missing_from there (drop (suc i) hs) (drop (suc i) all))
  at [] all i h cs below is its = absurd (omega (arith, below))
  at (x ∷ hs) [] i h cs below is its = absurd (cc its)
  at (x ∷ hs) (ys ∷ all) zero h cs below is its = cc (is, its)
  at (x ∷ hs) (ys ∷ all) (suc i) h cs below is its = at hs all i h cs (omega (arith, below)) is its

  -- a handler without a missing callee is skipped
  pub next_handler : (hs : List HandlerData) (all : List (List Callee)) (i : ℕ) (h : HandlerData) (cs : List Callee)
      → i < length hs → h ≡ get_or hs i h → Some cs ≡ slice_get all i → None ≡ missing_in there h cs
      → missing_from there (drop (i + 1) hs) (drop (i + 1) all) ≡ missing_from there (drop i hs) (drop i all)
  next_handler hs all i h cs below is its none =
      let next : i + 1 ≡ suc i = omega arith in
      ap (λ n. missing_from there (drop n hs) (drop n all)) next
      ∙ sym (at hs all i h cs below is its ∙ ap (λ o. option_or o (missing_from there (drop (suc i) hs)
      (drop (suc i) all))) (sym none))

  -- the first missing callee of a handler ends the search
  pub found_here : (hs : List HandlerData) (all : List (List Callee)) (i : ℕ) (h : HandlerData) (cs : List Callee)
      (name : List ℕ) → i < length hs → h ≡ get_or hs i h → Some cs ≡ slice_get all i
      → Some name ≡ missing_in there h cs → Some name ≡ missing_from there (drop i hs) (drop i all)
  found_here hs all i h cs name below is its some =
      sym (at hs all i h cs below is its ∙ ap (λ o. option_or o (missing_from there (drop (suc i) hs)
      (drop (suc i) all))) (sym some))

  -- without further lists of callees none is missing
  pub no_callees : (hs : List HandlerData) (all : List (List Callee)) (i : ℕ) → length all ≤ i
      → None ≡ missing_from there (drop i hs) (drop i all)
  no_callees hs [] zero above = empty hs
  no_callees hs [] (suc i) above = empty (drop (suc i) hs)
  no_callees hs (cs ∷ all) zero above = absurd (omega (arith, above))
  no_callees [] (cs ∷ all) (suc i) above = refl
  no_callees (h ∷ hs) (cs ∷ all) (suc i) above = no_callees hs all i (omega (arith, above))

pub ruleset finding = (next_handler, found_here)
