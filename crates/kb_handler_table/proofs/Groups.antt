-- Lemmas on searches in the groups of extensions.
use Rattle.std.proofs.Common.{◌≡◌, ◌∙◌, ℕ, zero, ◌+◌, ◌<◌, suc, Bool, List, [], ◌∷◌, Option, Some, None}
use Rattle.std.proofs.Common.{sym, ap, drop}
use Rattle.std.proofs.Common.{find, length, get_or, arith, cond, true, false, nat_eq, option_map, slice_get}
use Rattle.std.proofs.Common.{◌++◌, ◌||◌, refl, take, set, subst}
use Rattle.std.proofs.lemmas.List.Folds.{find-append}
use Rattle.std.specs.Option.{option_or, option_map_or}
use Rattle.std.proofs.lemmas.Option.{slice_get_read}
use Rattle.kb_code.specs.Handler.{HandlerData}
use Rattle.kb_handler_table.specs.Codes.{CodesData}
use Rattle.kb_handler_table.specs.Live.{Group, handlers_in, live_in, live_of, group_of, without_group, changed}
use Rattle.kb_handler_table.specs.Live.{calls_one, checked_handlers, checked_live, handlers_of, names_one}
use Rattle.kb_handler_table.specs.Live.{user_of}
use Rattle.kb_handler_table.specs.Place.{IsGroupAt}
use Rattle.kb_code.specs.Callees.{callees_of}
use Rattle.std.specs.List.{list_any, flat_map}

-- searches in a part of each group
module _ (of : Group → List HandlerData) (p : HandlerData → Bool) where
  abbrev first_in : List Group → Option HandlerData
  first_in gs = find p (flat_map of gs)

  -- the result of a search from a group on, by its result in this group
  by : (g : Group) (gs : List Group) (found : Option HandlerData) → find p (of g) ≡ found
      → first_in (g ∷ gs) ≡ option_or found (first_in gs)
  by g gs found is = find-append p (of g) (flat_map of gs) ∙ ap (λ o. option_or o (first_in gs)) is

  behind : (gs : List Group) (i : ℕ) (g : Group) → i < length gs → g ≡ get_or gs i g → None ≡ find p (of g)
      → first_in (drop (suc i) gs) ≡ first_in (drop i gs)
  behind [] i g below at none = absurd (omega (arith, below))
  behind (x ∷ gs) zero g below at none = sym (by x gs None (sym (ap (λ (g : Group). find p (of g)) at) ∙ sym none))
  behind (x ∷ gs) (suc i) g below at none = behind gs i g (omega (arith, below)) at none

  -- the search skips a group without a result
  skips : (gs : List Group) (i : ℕ) (g : Group) → i < length gs → g ≡ get_or gs i g → None ≡ find p (of g)
      → first_in (drop (i + 1) gs) ≡ first_in (drop i gs)
  skips gs i g below at none =
      let next : i + 1 ≡ suc i = omega arith in
      ap (λ n. first_in (drop n gs)) next ∙ behind gs i g below at none

  -- the first group with a result has the first result
  meets : (gs : List Group) (i : ℕ) (g : Group) (h : HandlerData) → i < length gs → g ≡ get_or gs i g
      → Some h ≡ find p (of g) → Some h ≡ first_in (drop i gs)
  meets [] i g h below at found = absurd (omega (arith, below))
  meets (x ∷ gs) zero g h below at found =
      sym (by x gs (Some h) (sym (ap (λ (g : Group). find p (of g)) at) ∙ sym found))
  meets (x ∷ gs) (suc i) g h below at found = meets gs i g h (omega (arith, below)) at found

-- ---- searches among all handlers, and among live ones

abbrev all_of : Group → List HandlerData
all_of g = g.codes.handlers

module _ (p : HandlerData → Bool) (gs : List Group) (i : ℕ) (g : Group) where
  pub passed : i < length gs → g ≡ get_or gs i g → None ≡ find p g.codes.handlers
      → find p (handlers_in (drop (i + 1) gs)) ≡ find p (handlers_in (drop i gs))
  passed below at none = skips all_of p gs i g below at none

  pub met : (h : HandlerData) → i < length gs → g ≡ get_or gs i g
      → Some h ≡ find p g.codes.handlers → Some h ≡ find p (handlers_in (drop i gs))
  met h below at found = meets all_of p gs i g h below at found

  pub live_passed : i < length gs → g ≡ get_or gs i g → None ≡ find p (live_of g)
      → find p (live_in (drop (i + 1) gs)) ≡ find p (live_in (drop i gs))
  live_passed below at none = skips live_of p gs i g below at none

  pub live_met : (h : HandlerData) → i < length gs → g ≡ get_or gs i g
      → Some h ≡ find p (live_of g) → Some h ≡ find p (live_in (drop i gs))
  live_met h below at found = meets live_of p gs i g h below at found

-- ---- searches among verified handlers

module _ (own : List HandlerData) where
  abbrev users_in : List Group → Option HandlerData
  users_in gs = find (calls_one own) (checked_handlers gs)

  -- the result of a search from a group on, by its result in this group
  first_user : (g : Group) (gs : List Group) (found : Option HandlerData)
      → find (calls_one own) (checked_live g) ≡ found
      → users_in (g ∷ gs) ≡ option_or found (users_in gs)
  first_user g gs found is = by checked_live (calls_one own) g gs found is

  pub user_passed : (gs : List Group) (i : ℕ) (g : Group) → i < length gs → g ≡ get_or gs i g
      → None ≡ find (calls_one own) (checked_live g)
      → find (calls_one own) (checked_handlers (drop (i + 1) gs)) ≡ find (calls_one own) (checked_handlers (drop i gs))
  user_passed gs i g below at none = skips checked_live (calls_one own) gs i g below at none

  pub user_met : (gs : List Group) (i : ℕ) (g : Group) (h : HandlerData) → i < length gs → g ≡ get_or gs i g
      → Some h ≡ find (calls_one own) (checked_live g)
      → Some h ≡ find (calls_one own) (checked_handlers (drop i gs))
  user_met gs i g h below at found = meets checked_live (calls_one own) gs i g h below at found

  -- a search in some groups and then in others
  pub users_apart : (xs ys : List Group) → users_in (xs ++ ys) ≡ option_or (users_in xs) (users_in ys)
  users_apart [] ys = refl
  users_apart (x ∷ xs) ys =
      first_user x (xs ++ ys) (find (calls_one own) (checked_live x)) refl
      ∙ ap (option_or (find (calls_one own) (checked_live x))) (users_apart xs ys)
      ∙ sym (assoc (find (calls_one own) (checked_live x)) (users_in xs) (users_in ys))
      ∙ ap (λ o. option_or o (users_in ys)) (sym (first_user x xs (find (calls_one own) (checked_live x)) refl))
    where
      assoc : (a b c : Option HandlerData) → option_or (option_or a b) c ≡ option_or a (option_or b c)
      assoc None b c = refl
      assoc (Some a) b c = refl

-- nothing calls a handler of an empty list
calls_none : (h : HandlerData) → calls_one [] h ≡ false
calls_none h = by (callees_of h)
  where
    names_none : (o : Option (List ℕ)) → names_one [] o ≡ false
    names_none None = refl
    names_none (Some name) = refl

    by : (ns : List ℕ) → list_any (λ n. names_one [] (slice_get h.calls n)) ns ≡ false
    by [] = refl
    by (n ∷ ns) =
        ap (λ b. b || list_any (λ n. names_one [] (slice_get h.calls n)) ns) (names_none (slice_get h.calls n)) ∙ by ns

pub no_users : (hs : List HandlerData) → find (calls_one []) hs ≡ None
no_users [] = refl
no_users (h ∷ hs) = ap (λ b. cond b (Some h) (find (calls_one []) hs)) (calls_none h) ∙ no_users hs

-- the place of an extension's group
pub stands_at : (extension : ℕ) (gs : List Group) (i : ℕ) (g : Group) → i < length gs → g ≡ get_or gs i g
    → nat_eq g.extension extension ≡ true
    → (group_of extension (drop i gs) ≡ option_map (λ (g : Group). g.codes) (slice_get gs i))
    × (without_group extension (drop i gs) ≡ drop (suc i) gs)
    × ((change : Group → Group) → changed change extension (drop i gs) ≡ change g ∷ drop (suc i) gs)
stands_at extension [] i g below at is = absurd (omega (arith, below))
stands_at extension (x ∷ gs) zero g below at is =
    let same : nat_eq x.extension extension ≡ true = sym (ap (λ (g : Group). nat_eq g.extension extension) at) ∙ is in (
      ap (λ b. option_map (λ (g : Group). g.codes)
          (cond b (Some x) (find (λ (g : Group). nat_eq g.extension extension) gs))) same,
      ap (λ b. cond b gs (x ∷ without_group extension gs)) same,
      λ change. ap (λ b. cond b (change x ∷ gs) (x ∷ changed change extension gs)) same
          ∙ ap (λ (g : Group). change g ∷ gs) (sym at),
    )
stands_at extension (x ∷ gs) (suc i) g below at is = stands_at extension gs i g (omega (arith, below)) at is

-- the group at a place is the one that is read there
pub read_there : (gs : List Group) (i : ℕ) (g other : Group) → i < length gs → g ≡ get_or gs i g
    → slice_get gs i ≡ Some other → g ≡ other
read_there gs i g other below at is =
    let there : slice_get gs i ≡ Some g = slice_get_read gs (length gs) i g refl below at in cc

-- the elements before a place, another one there, and those after it
pub set_there : (gs : List Group) (i : ℕ) (g : Group) → i < length gs → take i gs ++ g ∷ drop (suc i) gs ≡ set gs i g
set_there [] i g below = absurd (omega (arith, below))
set_there (x ∷ gs) zero g below = refl
set_there (x ∷ gs) (suc i) g below = ap (λ (gs : List Group). x ∷ gs) (set_there gs i g (omega (arith, below)))

-- a change of the group at an extension's place is one of the extension's group
pub changed_at : (extension number : ℕ) (read gs : List Group) (i : ℕ) (g : Group) (change : Group → Group)
    → number ≡ extension → read ≡ gs → IsGroupAt number read i → g ≡ get_or gs i g
    → set gs i (change g) ≡ changed change extension gs
changed_at extension number read gs i g change same is at its =
    let within = subst (λ (gs : List Group). i < length gs) is at.within in
    let there : slice_get gs i ≡ Some g = slice_get_read gs (length gs) i g refl within its in
    ap (λ (gs : List Group). set gs i (change g)) (sym is)
    ∙ sym (at.change change g (ap (λ (gs : List Group). slice_get gs i) is ∙ there))
    ∙ ap (λ (gs : List Group). changed change number gs) is ∙ ap (λ n. changed change n gs) same

-- the user of an extension's handlers is looked for before its group and then after it
pub user_is : (extension : ℕ) (gs : List Group) (i : ℕ) (g : Group) → IsGroupAt extension gs i → g ≡ get_or gs i g
    → user_of extension gs ≡ option_or (find (calls_one g.codes.handlers) (checked_handlers (take i gs)))
    (find (calls_one g.codes.handlers) (checked_handlers (drop (suc i) gs)))
user_is extension gs i g at its =
    let there : slice_get gs i ≡ Some g = slice_get_read gs (length gs) i g refl at.within its in
    let own : handlers_of extension gs ≡ g.codes.handlers =
    ap (λ o. option_map_or (λ (codes : CodesData). codes.handlers) o [])
    (at.its ∙ ap (option_map (λ (g : Group). g.codes)) there) in
    ap (λ hs. find (calls_one hs) (checked_handlers (without_group extension gs))) own
    ∙ ap (λ gs. find (calls_one g.codes.handlers) (checked_handlers gs)) at.others
    ∙ users_apart g.codes.handlers (take i gs) (drop (suc i) gs)

-- an extension without a group has no user
pub user_of_none : (extension : ℕ) (gs : List Group) → group_of extension gs ≡ None → None ≡ user_of extension gs
user_of_none extension gs none =
    sym (ap (λ o. find (calls_one (option_map_or (λ (codes : CodesData). codes.handlers) o []))
    (checked_handlers (without_group extension gs))) none ∙ no_users (checked_handlers (without_group extension gs)))
