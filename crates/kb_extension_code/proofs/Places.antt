-- Extensions and their code, by place.
use Rattle.std.proofs.Common.{◌≡◌, ◌∙◌, ◌⊎◌, inl, inr, ℕ, zero, suc, ◌+◌, Bool, true, false, cond, List, [], ◌∷◌}
use Rattle.std.proofs.Common.{Option, Some, None, refl, sym, ap, subst, arith, find, nat_eq, bytes_eq, map}
use Rattle.std.specs.Prelude.{slice_get, option_map}
use Rattle.std.specs.List.{All}
use Rattle.std.specs.Option.{option_map_or, option_or}
use Rattle.std.proofs.lemmas.Bool.{false≢true}
use Rattle.std.proofs.lemmas.Bool.Decides.{Decides-eqb}
use Rattle.std.proofs.lemmas.List.Elements.{All-cons, All-head, All-nil, All-tail}
use Rattle.std.proofs.lemmas.List.Folds.{find-append}
use Rattle.kb_code.specs.Handler.{HandlerData, handler_named}
use Rattle.kb_files.specs.Enabled.{switched_at}
use Rattle.kb_files.specs.declared.extension_file.Extension.{Extension}
use Rattle.kb_handler_table.specs.Codes.{CodesData}
use Rattle.kb_handler_table.specs.Live.{Group, changed, found_group, handlers_of, is_on, live_in, live_of}
use Rattle.kb_handler_table.specs.Live.{switched}
use Rattle.kb_extension_code.specs.Verified.{IsVerified}
use Rattle.kb_verify.specs.Accepted.{CheckedHandler}
use Rattle.kb_verify.specs.Callable.{Commands}
use Rattle.kb_extension_code.specs.Settled.{AreBacked, AreMatched, AreNumbered, IsBacked}

-- ---- numbers

pub equal_number : (a b : ℕ) → a ≡ b → nat_eq a b ≡ true
equal_number a b e = (Decides-eqb a b).1 e

pub not_equal : (a b : ℕ) → nat_eq a b ≡ false → a ≡ b → ⊥
not_equal a b is e = false≢true (sym is ∙ equal_number a b e)

-- ---- elements

module _ {X : Type 0} where
  head_fails : (p : X → Bool) (x : X) (xs : List X) → find p (x ∷ xs) ≡ None → (p x ≡ false) × (find p xs ≡ None)
  head_fails p x xs none = by (p x) refl none
    where
      by : (b : Bool) → p x ≡ b → cond b (Some x) (find p xs) ≡ None → (p x ≡ false) × (find p xs ≡ None)
      by true is e = absurd (cc)
      by false is e = (is, e)

  -- an element fails a test that no element passes
  pub none_passes : (p : X → Bool) (xs : List X) (k : ℕ) (x : X) → find p xs ≡ None → slice_get xs k ≡ Some x →
      p x ≡ false
  none_passes p [] k x none at = absurd (cc)
  none_passes p (y ∷ xs) zero x none at =
      let same : y ≡ x = cc in ap p (sym same) ∙ (head_fails p y xs none).0
  none_passes p (y ∷ xs) (suc k) x none at = none_passes p xs k x (head_fails p y xs none).1 at

  -- no element passes a test that each one fails
  pub none_from : (p : X → Bool) (xs : List X) → ((k : ℕ) (x : X) → slice_get xs k ≡ Some x → p x ≡ false) →
      find p xs ≡ None
  none_from p [] each = refl
  none_from p (y ∷ xs) each =
      ap (λ b. cond b (Some y) (find p xs)) (each 0 y refl) ∙ none_from p xs (λ k x at. each (suc k) x at)

  -- a property of all elements, by place
  pub all_at : (P : X → Type 0) (xs : List X) (k : ℕ) (x : X) → All P xs → slice_get xs k ≡ Some x → P x
  all_at P [] k x all at = absurd (cc)
  all_at P (y ∷ xs) zero x all at = let same : y ≡ x = cc in subst P same (All-head P y xs all)
  all_at P (y ∷ xs) (suc k) x all at = all_at P xs k x (All-tail P y xs all) at

  pub all_from : (P : X → Type 0) (xs : List X) → ((k : ℕ) (x : X) → slice_get xs k ≡ Some x → P x) → All P xs
  all_from P [] each = All-nil P
  all_from P (y ∷ xs) each = All-cons P y xs (each 0 y refl) (all_from P xs (λ k x at. each (suc k) x at))

-- ---- extensions

-- an extension's number is its place
pub number_at : (number : ℕ) (es : List Extension) (k place : ℕ) (e : Extension) → AreNumbered number es →
    slice_get es k ≡ Some e → number + k ≡ place → e.number ≡ place
number_at number [] k place e numbered at is = absurd (cc)
number_at number (x ∷ es) zero place e numbered at is =
    let its : x ≡ e = cc in
    let same = ap (λ (e : Extension). e.number) its in
    let first = numbered.0 in omega (arith, same, first, is)
number_at number (x ∷ es) (suc k) place e numbered at is =
    number_at (number + 1) es k place e numbered.1 at (omega (arith, is))

abbrev pub turned : Bool → Extension → Extension
turned on e = record e { enabled = on }

-- after a switch an extension is the switched one, or was there
pub switched_was : (place : ℕ) (on : Bool) (es : List Extension) (e : Extension) (k : ℕ) (x : Extension) →
    slice_get es place ≡ Some e → slice_get (switched_at place on es) k ≡ Some x →
    (x ≡ turned on e) ⊎ (slice_get es k ≡ Some x)
switched_was place on [] e k x at is = absurd (cc)
switched_was zero on (y ∷ es) e zero x at is =
    let same : y ≡ e = cc in
    let its : turned on y ≡ x = cc in inl (sym its ∙ ap (turned on) same)
switched_was zero on (y ∷ es) e (suc k) x at is = inr is
switched_was (suc place) on (y ∷ es) e zero x at is = inr is
switched_was (suc place) on (y ∷ es) e (suc k) x at is = switched_was place on es e k x at is

-- each extension stays at its place, with its identifier and dependencies
pub switched_stays : (place : ℕ) (on : Bool) (es : List Extension) (k : ℕ) (x : Extension) →
    slice_get es k ≡ Some x →
    (y : Extension) × (slice_get (switched_at place on es) k ≡ Some y) × (y.manifest.id ≡ x.manifest.id)
    × (y.manifest.dependencies ≡ x.manifest.dependencies)
switched_stays place on [] k x at = absurd (cc)
switched_stays zero on (y ∷ es) zero x at =
    let same : y ≡ x = cc in
    (turned on y, refl, ap (λ (e : Extension). e.manifest.id) same, ap (λ (e : Extension). e.manifest.dependencies) same)
switched_stays zero on (y ∷ es) (suc k) x at = (x, at, refl, refl)
switched_stays (suc place) on (y ∷ es) zero x at = (x, at, refl, refl)
switched_stays (suc place) on (y ∷ es) (suc k) x at = switched_stays place on es k x at

pub switched_numbered : (number place : ℕ) (on : Bool) (es : List Extension) → AreNumbered number es →
    AreNumbered number (switched_at place on es)
switched_numbered number place on [] numbered = tt
switched_numbered number zero on (y ∷ es) numbered = numbered
switched_numbered number (suc place) on (y ∷ es) numbered =
    (numbered.0, switched_numbered (number + 1) place on es numbered.1)

-- ---- extensions and their code

-- a group's number is its place
pub group_at : (number : ℕ) (es : List Extension) (gs : List Group) (k place : ℕ) (g : Group) →
    AreNumbered number es → AreMatched es gs → slice_get gs k ≡ Some g → number + k ≡ place →
    (g.extension ≡ place) × (found_group place gs ≡ Some g)
group_at number es [] k place g numbered matched at is = absurd (cc)
group_at number [] (y ∷ gs) k place g numbered matched at is = absurd matched
group_at number (x ∷ es) (y ∷ gs) zero place g numbered matched at is =
    let same : y ≡ g = cc in
    let same_number = ap (λ (g : Group). g.extension) same in
    let of : y.extension ≡ x.number = matched.0 in
    let first = numbered.0 in
    let its : y.extension ≡ place = omega (arith, of, first, is) in (
      omega (arith, same_number, its),
      ap (λ b. cond b (Some y) (found_group place gs)) (equal_number y.extension place its) ∙ ap Some same,
    )
group_at number (x ∷ es) (y ∷ gs) (suc k) place g numbered matched at is =
    let rest = group_at (number + 1) es gs k place g numbered.1 matched.2 at (omega (arith, is)) in
    (rest.0, by (nat_eq y.extension place) refl rest.1)
  where
    by : (b : Bool) → nat_eq y.extension place ≡ b → found_group place gs ≡ Some g →
        cond b (Some y) (found_group place gs) ≡ Some g
    by true same e =
        let other : y.extension ≡ place = (Decides-eqb y.extension place).0 same in
        let of : y.extension ≡ x.number = matched.0 in
        let first = numbered.0 in absurd (omega (arith, other, of, first, is))
    by false same e = e

pub its_extension : (es : List Extension) (gs : List Group) (k : ℕ) (g : Group) → AreMatched es gs →
    slice_get gs k ≡ Some g → (e : Extension) × (slice_get es k ≡ Some e) × (g.live ≡ e.enabled)
its_extension es [] k g matched at = absurd (cc)
its_extension [] (y ∷ gs) k g matched at = absurd matched
its_extension (x ∷ es) (y ∷ gs) zero g matched at =
    let same : y ≡ g = cc in (x, refl, ap (λ (g : Group). g.live) (sym same) ∙ matched.1)
its_extension (x ∷ es) (y ∷ gs) (suc k) g matched at = its_extension es gs k g matched.2 at

pub its_group : (es : List Extension) (gs : List Group) (k : ℕ) (e : Extension) → AreMatched es gs →
    slice_get es k ≡ Some e → (g : Group) × (slice_get gs k ≡ Some g) × (g.live ≡ e.enabled)
its_group [] gs k e matched at = absurd (cc)
its_group (x ∷ es) [] k e matched at = absurd matched
its_group (x ∷ es) (y ∷ gs) zero e matched at =
    let same : x ≡ e = cc in (y, refl, matched.1 ∙ ap (λ (e : Extension). e.enabled) same)
its_group (x ∷ es) (y ∷ gs) (suc k) e matched at = its_group es gs k e matched.2 at

-- handlers of an extension are live if it is enabled
pub on_is : (es : List Extension) (gs : List Group) (place : ℕ) (e : Extension) → AreNumbered 0 es →
    AreMatched es gs → slice_get es place ≡ Some e → is_on place gs ≡ e.enabled
on_is es gs place e numbered matched at =
    let its = its_group es gs place e matched at in
    ap (λ (o : Option Group). option_map_or (λ (g : Group). g.live) o false)
    (group_at 0 es gs place place its.0 numbered matched its.1 (omega arith)).1
    ∙ its.2

-- the handlers of an extension are those of its group
pub handlers_at : (es : List Extension) (gs : List Group) (place : ℕ) (g : Group) → AreNumbered 0 es →
    AreMatched es gs → slice_get gs place ≡ Some g → handlers_of place gs ≡ g.codes.handlers
handlers_at es gs place g numbered matched at =
    ap (λ (o : Option Group). option_map_or (λ (codes : CodesData). codes.handlers)
    (option_map (λ (g : Group). g.codes) o) [])
    (group_at 0 es gs place place g numbered matched at (omega arith)).1

-- extensions and code stay matched if both are switched
pub switched_matched : (number place n : ℕ) (on : Bool) (es : List Extension) (gs : List Group) →
    number + place ≡ n → AreNumbered number es → AreMatched es gs →
    AreMatched (switched_at place on es) (switched n on gs)
switched_matched number place n on [] [] is numbered matched = tt
switched_matched number place n on [] (g ∷ gs) is numbered matched = absurd matched
switched_matched number place n on (e ∷ es) [] is numbered matched = absurd matched
switched_matched number zero n on (e ∷ es) (g ∷ gs) is numbered matched = by (nat_eq g.extension n) refl
  where
    by : (b : Bool) → nat_eq g.extension n ≡ b →
        AreMatched (turned on e ∷ es) (cond b (record g { live = on } ∷ gs) (g ∷ switched n on gs))
    by true same = (matched.0, refl, matched.2)
    by false other =
        let of : g.extension ≡ e.number = matched.0 in
        let first = numbered.0 in
        absurd (not_equal g.extension n other (omega (arith, of, first, is)))
switched_matched number (suc place) n on (e ∷ es) (g ∷ gs) is numbered matched =
    by (nat_eq g.extension n) refl
    (switched_matched (number + 1) place n on es gs (omega (arith, is)) numbered.1 matched.2)
  where
    by : (b : Bool) → nat_eq g.extension n ≡ b → AreMatched (switched_at place on es) (switched n on gs) →
        AreMatched (e ∷ switched_at place on es) (cond b (record g { live = on } ∷ gs) (g ∷ switched n on gs))
    by true same rest =
        let other : g.extension ≡ n = (Decides-eqb g.extension n).0 same in
        let of : g.extension ≡ e.number = matched.0 in
        let first = numbered.0 in absurd (omega (arith, other, of, first, is))
    by false other rest = (matched.0, matched.1, rest)

-- ---- code

-- after a change a group is the changed one, or was there
pub changed_was : (change : Group → Group) (n : ℕ) (gs : List Group) (k : ℕ) (x : Group) →
    slice_get (changed change n gs) k ≡ Some x →
    ((was : Group) × (slice_get gs k ≡ Some was) × (was.extension ≡ n) × (x ≡ change was))
    ⊎ (slice_get gs k ≡ Some x)
changed_was change n [] k x at = absurd (cc)
changed_was change n (g ∷ gs) zero x at = by (nat_eq g.extension n) refl at
  where
    by : (b : Bool) → nat_eq g.extension n ≡ b →
        slice_get (cond b (change g ∷ gs) (g ∷ changed change n gs)) 0 ≡ Some x →
        ((was : Group) × (slice_get (g ∷ gs) 0 ≡ Some was) × (was.extension ≡ n) × (x ≡ change was))
        ⊎ (slice_get (g ∷ gs) 0 ≡ Some x)
    by true same e =
        let its : change g ≡ x = cc in inl (g, refl, (Decides-eqb g.extension n).0 same, sym its)
    by false other e = inr e
changed_was change n (g ∷ gs) (suc k) x at =
    by (nat_eq g.extension n) at (changed_was change n gs k x)
  where
    by : (b : Bool) → slice_get (cond b (change g ∷ gs) (g ∷ changed change n gs)) (suc k) ≡ Some x →
        (slice_get (changed change n gs) k ≡ Some x →
        ((was : Group) × (slice_get gs k ≡ Some was) × (was.extension ≡ n) × (x ≡ change was))
        ⊎ (slice_get gs k ≡ Some x)) →
        ((was : Group) × (slice_get gs k ≡ Some was) × (was.extension ≡ n) × (x ≡ change was))
        ⊎ (slice_get gs k ≡ Some x)
    by true e rest = inr e
    by false e rest = rest e

-- a live group has a handler that a name finds in it
abbrev pub IsOwned : List ℕ → HandlerData → List Group → Type 0
IsOwned name h gs =
    (k : ℕ) × (g : Group) × (slice_get gs k ≡ Some g) × (g.live ≡ true)
    × (handler_named name g.codes.handlers ≡ Some h)

-- a live handler is one of a live group
pub live_owner : (name : List ℕ) (gs : List Group) (h : HandlerData) → handler_named name (live_in gs) ≡ Some h →
    IsOwned name h gs
live_owner name [] h found = absurd (cc)
live_owner name (g ∷ gs) h found =
    by g.live refl (handler_named name (live_of g)) refl
    (sym (find-append (λ (h : HandlerData). bytes_eq name h.command) (live_of g) (live_in gs)) ∙ found)
    (live_owner name gs h)
  where
    by : (b : Bool) → g.live ≡ b → (o : Option HandlerData) →
        handler_named name (cond g.live g.codes.handlers []) ≡ o →
        option_or o (handler_named name (live_in gs)) ≡ Some h →
        (handler_named name (live_in gs) ≡ Some h → IsOwned name h gs) → IsOwned name h (g ∷ gs)
    by b is None its e rest = let r = rest e in (suc r.0, r.1, r.2, r.3, r.4)
    by true is (Some x) its e rest =
        (0, g, refl, is, ap (λ b. handler_named name (cond b g.codes.handlers [])) (sym is) ∙ its ∙ e)
    by false is (Some x) its e rest =
        let none = ap (λ b. handler_named name (cond b g.codes.handlers [])) (sym is) ∙ its in absurd (cc none)

-- ---- code that is backed

pub backed_at : (es : List Extension) (code gs : List Group) (k : ℕ) (g : Group) → AreBacked es code gs →
    slice_get gs k ≡ Some g → IsBacked es g.extension code g.codes
backed_at es code [] k g backed at = absurd (cc)
backed_at es code (y ∷ gs) zero g backed at =
    let same : y ≡ g = cc in subst (λ (g : Group). IsBacked es g.extension code g.codes) same backed.0
backed_at es code (y ∷ gs) (suc k) g backed at = backed_at es code gs k g backed.1 at

pub backed_from : (es : List Extension) (code gs : List Group) →
    ((k : ℕ) (g : Group) → slice_get gs k ≡ Some g → IsBacked es g.extension code g.codes) → AreBacked es code gs
backed_from es code [] each = tt
backed_from es code (y ∷ gs) each = (each 0 y refl, backed_from es code gs (λ k g at. each (suc k) g at))

-- a verified handler that its name finds
pub its_verified : (commands : Commands) (vs : List CheckedHandler) (name : List ℕ) (h : HandlerData) →
    All (IsVerified commands) vs → handler_named name (map (λ (v : CheckedHandler). v.handler) vs) ≡ Some h →
    (v : CheckedHandler) × (v.handler ≡ h) × IsVerified commands v
its_verified commands [] name h all found = absurd (cc)
its_verified commands (v ∷ vs) name h all found =
    by (bytes_eq name v.handler.command) found
    (its_verified commands vs name h (All-tail (IsVerified commands) v vs all))
  where
    by : (b : Bool) →
        cond b (Some v.handler) (handler_named name (map (λ (v : CheckedHandler). v.handler) vs)) ≡ Some h →
        (handler_named name (map (λ (v : CheckedHandler). v.handler) vs) ≡ Some h →
        (v : CheckedHandler) × (v.handler ≡ h) × IsVerified commands v) →
        (v : CheckedHandler) × (v.handler ≡ h) × IsVerified commands v
    by true e rest =
        let same : v.handler ≡ h = cc in (v, same, All-head (IsVerified commands) v vs all)
    by false e rest = rest e
