-- Lemmas on handlers and their links, place by place.
use Rattle.std.proofs.Common.{◌≡◌, ◌∙◌, ℕ, zero, suc, ◌+◌, ◌<◌, Bool, true, false, cond, List, [], ◌∷◌}
use Rattle.std.proofs.Common.{◌++◌, Some, refl}
use Rattle.std.proofs.Common.{sym, ap, drop, find, length, map, get_or, arith, take, subst}
use Rattle.std.proofs.Math.Seq.{take-suc}
use Rattle.std.specs.List.{AllZip, list_any}
use Rattle.kb_core.specs.declared.native.Native.{Native}
use Rattle.kb_code.specs.Handler.{HandlerData}
use Rattle.kb_handler_table.specs.declared.links.Links.{Links}
use Rattle.kb_code.specs.Target.{natives_in, natives_of}
use Rattle.kb_handler_table.specs.Links.{AreLinks}
use Rattle.kb_handler_table.specs.Live.{calls_native, calls_one, names_one, same_native}
use Rattle.kb_handler_table.proofs.Taken.{split}
use Rattle.kb_code.specs.Callees.{callees_of}
use Rattle.kb_verify.specs.Accepted.{EachChecked}
use Rattle.kb_verify.specs.declared.callees.Callee.{Callee}
use Rattle.std.specs.Prelude.{slice_get}

-- there are as many links as handlers
pub as_long : (links : List Links) (hs : List HandlerData) → AllZip AreLinks links hs → length links ≡ length hs
as_long [] [] zip = refl
as_long [] (h ∷ hs) zip = absurd zip
as_long (l ∷ ls) [] zip = absurd zip
as_long (l ∷ ls) (h ∷ hs) zip = ap suc (as_long ls hs zip.1)

-- the links at a handler's place are its own
its_links : (links : List Links) (hs : List HandlerData) (place : ℕ) (l : Links) (h : HandlerData)
    → AllZip AreLinks links hs → place < length hs → AreLinks (get_or links place l) (get_or hs place h)
its_links [] [] place l h zip below = absurd (omega (arith, below))
its_links [] (x ∷ hs) place l h zip below = absurd zip
its_links (k ∷ ls) [] place l h zip below = absurd zip
its_links (k ∷ ls) (x ∷ hs) zero l h zip below = zip.0
its_links (k ∷ ls) (x ∷ hs) (suc place) l h zip below = its_links ls hs place l h zip.1 (omega (arith, below))

pub its_natives : (links : List Links) (hs : List HandlerData) (place : ℕ) (l : Links) (h : HandlerData)
    → AllZip AreLinks links hs → place < length hs → l ≡ get_or links place l → h ≡ get_or hs place h
    → natives_in l.targets ≡ natives_of h
its_natives links hs place l h zip below at its =
    ap (λ (l : Links). natives_in l.targets) at ∙ (its_links links hs place l h zip below).natives ∙ sym (ap natives_of its)

module _ (native : Native) where
  abbrev called : Links → Bool
  called l = list_any (λ n. same_native n native) l.called

  by : (h : HandlerData) (hs : List HandlerData) (b : Bool) → calls_native native h ≡ b
      → find (calls_native native) (h ∷ hs) ≡ cond b (Some h) (find (calls_native native) hs)
  by h hs b is = ap (λ b. cond b (Some h) (find (calls_native native) hs)) is

  -- the search skips a handler that doesn't call the native
  behind : (links : List Links) (hs : List HandlerData) (place : ℕ) (l : Links) → AllZip AreLinks links hs
      → place < length hs → l ≡ get_or links place l → false ≡ called l
      → find (calls_native native) (drop (suc place) hs) ≡ find (calls_native native) (drop place hs)
  behind [] [] place l zip below at is = absurd (omega (arith, below))
  behind [] (h ∷ hs) place l zip below at is = absurd zip
  behind (k ∷ ls) [] place l zip below at is = absurd zip
  behind (k ∷ ls) (h ∷ hs) zero l zip below at is =
      sym (by h hs false (sym (zip.0.called native) ∙ sym (ap called at) ∙ sym is))
  behind (k ∷ ls) (h ∷ hs) (suc place) l zip below at is =
      behind ls hs place l zip.1 (omega (arith, below)) at is

  pub passed : (links : List Links) (hs : List HandlerData) (place : ℕ) (l : Links) → AllZip AreLinks links hs
      → place < length hs → l ≡ get_or links place l → false ≡ called l
      → find (calls_native native) (drop (place + 1) hs) ≡ find (calls_native native) (drop place hs)
  passed links hs place l zip below at is =
      let next : place + 1 ≡ suc place = omega arith in
      ap (λ n. find (calls_native native) (drop n hs)) next ∙ behind links hs place l zip below at is

  -- the search stops at a handler that does
  pub met : (links : List Links) (hs : List HandlerData) (place : ℕ) (l : Links) (h : HandlerData)
      → AllZip AreLinks links hs → place < length hs → l ≡ get_or links place l → h ≡ get_or hs place h
      → true ≡ called l → Some h ≡ find (calls_native native) (drop place hs)
  met [] [] place l h zip below at its is = absurd (omega (arith, below))
  met [] (x ∷ hs) place l h zip below at its is = absurd zip
  met (k ∷ ls) [] place l h zip below at its is = absurd zip
  met (k ∷ ls) (x ∷ hs) zero l h zip below at its is =
      ap Some its ∙ sym (by x hs true (sym (zip.0.called native) ∙ sym (ap called at) ∙ sym is))
  met (k ∷ ls) (x ∷ hs) (suc place) l h zip below at its is =
      met ls hs place l h zip.1 (omega (arith, below)) at its is

zip_more : (links : List Links) (hs : List HandlerData) (l : Links) (h : HandlerData) → AllZip AreLinks links hs
    → AreLinks l h → AllZip AreLinks (links ++ l ∷ []) (hs ++ h ∷ [])
zip_more [] [] l h zip own = (own, tt)
zip_more [] (x ∷ hs) l h zip own = absurd zip
zip_more (k ∷ ls) [] l h zip own = absurd zip
zip_more (k ∷ ls) (x ∷ hs) l h zip own = (zip.0, zip_more ls hs l h zip.1 own)

-- one more handler, with its links
pub one_more : (links new : List Links) (hs : List HandlerData) (place : ℕ) (l : Links) (h : HandlerData)
    → AllZip AreLinks links (take place hs) → place < length hs → h ≡ get_or hs place h → AreLinks l h
    → new ≡ links ++ l ∷ [] → AllZip AreLinks new (take (place + 1) hs)
one_more links new hs place l h zip below its own pushed =
    let next : place + 1 ≡ suc place = omega arith in
    let grown : take (place + 1) hs ≡ take place hs ++ h ∷ [] =
    ap (λ n. take n hs) next ∙ take-suc hs place h below ∙ ap (λ h. take place hs ++ h ∷ []) (sym its) in
    subst (λ ls. AllZip AreLinks ls (take (place + 1) hs)) (sym pushed)
    (subst (λ hs. AllZip AreLinks (links ++ l ∷ []) hs) (sym grown) (zip_more links (take place hs) l h zip own))

-- ---- callees of verified handlers

-- there are as many lists of callees as handlers
pub many_callees : (hs : List HandlerData) (all : List (List Callee)) → EachChecked hs all → length all ≡ length hs
many_callees [] [] each = refl
many_callees [] (cs ∷ all) each = absurd each
many_callees (h ∷ hs) [] each = absurd each
many_callees (h ∷ hs) (cs ∷ all) each = ap suc (many_callees hs all each.1)

-- the list at a handler's place has the callees of its reachable calls
their_callees : (hs : List HandlerData) (all : List (List Callee)) (place : ℕ) (h : HandlerData) (cs : List Callee)
    → EachChecked hs all → place < length hs → h ≡ get_or hs place h → cs ≡ get_or all place cs
    → map (λ (c : Callee). c.index) cs ≡ callees_of h
their_callees [] all place h cs each below at its = absurd (omega (arith, below))
their_callees (x ∷ hs) [] place h cs each below at its = absurd each
their_callees (x ∷ hs) (ys ∷ all) zero h cs each below at its =
    ap (map (λ (c : Callee). c.index)) its ∙ each.0.2.called ∙ sym (ap callees_of at)
their_callees (x ∷ hs) (ys ∷ all) (suc place) h cs each below at its =
    their_callees hs all place h cs each.1 (omega (arith, below)) at its

module _ (own : List HandlerData) where
  abbrev calls_by : HandlerData → List Callee → Bool
  calls_by h cs = list_any (λ n. names_one own (slice_get h.calls n)) (map (λ (c : Callee). c.index) cs)

  its_calls : (hs : List HandlerData) (all : List (List Callee)) (place : ℕ) (h : HandlerData) (cs : List Callee)
      → EachChecked hs all → place < length hs → h ≡ get_or hs place h → cs ≡ get_or all place cs
      → calls_one own h ≡ calls_by h cs
  its_calls hs all place h cs each below at its =
      ap (list_any (λ n. names_one own (slice_get h.calls n))) (sym (their_callees hs all place h cs each below at its))

  -- the search skips a handler that calls none of these
  pub user_passed : (hs : List HandlerData) (all : List (List Callee)) (place : ℕ) (h : HandlerData)
      (cs : List Callee) → EachChecked hs all → place < length hs → h ≡ get_or hs place h
      → cs ≡ get_or all place cs → false ≡ calls_by h cs
      → find (calls_one own) (drop (place + 1) hs) ≡ find (calls_one own) (drop place hs)
  user_passed hs all place h cs each below at its is =
      let next : place + 1 ≡ suc place = omega arith in
      ap (λ n. find (calls_one own) (drop n hs)) next
      ∙ sym (ap (find (calls_one own)) (split hs place h below at)
      ∙ ap (λ b. cond b (Some h) (find (calls_one own) (drop (suc place) hs)))
      (its_calls hs all place h cs each below at its ∙ sym is))

  -- it ends at one that does
  pub user_met : (hs : List HandlerData) (all : List (List Callee)) (place : ℕ) (h : HandlerData)
      (cs : List Callee) → EachChecked hs all → place < length hs → h ≡ get_or hs place h
      → cs ≡ get_or all place cs → true ≡ calls_by h cs → Some h ≡ find (calls_one own) (drop place hs)
  user_met hs all place h cs each below at its is =
      sym (ap (find (calls_one own)) (split hs place h below at)
      ∙ ap (λ b. cond b (Some h) (find (calls_one own) (drop (suc place) hs)))
      (its_calls hs all place h cs each below at its ∙ sym is))

pub ruleset searching = (as_long, passed, met)
