-- A search that passes over rules by their second keystrokes finds what a search among all of them finds, and
-- so does one among the rules of the only keystroke that doesn't compare it.
use Rattle.std.proofs.Common.{◌≡◌, ◌<◌, ◌≤◌, ◌⊎◌, ℕ, List, [], ◌∷◌, ◌++◌, Bool, true, false, length, map, filter}
use Rattle.std.proofs.Common.{take, drop, get_or, Option, None, Some, refl, ap, sym, subst, ◌∙◌, arith, slice_get}
use Rattle.std.proofs.Common.{zero, suc, ⊎_elim, inl, inr, ◌&&◌, if◌then◌else◌}
use Rattle.std.specs.Option.{option_or}
use Rattle.std.proofs.lemmas.Option.{same_Some}
use Rattle.std.specs.List.{Any}
use Rattle.std.proofs.lemmas.Bool.{false_from_ne_true, false≢true}
use Rattle.std.proofs.lemmas.List.{get_or-map, drop-map, take-map}
use Rattle.std.proofs.lemmas.List.Elements.{filter_map-append}
use Rattle.std.proofs.lemmas.List.Quantifiers.{Any-push}
use Rattle.std.proofs.lemmas.Slice.Eq.{starts_is}
use Rattle.kb_context.specs.Scopes.{Keys}
use Rattle.kb_keys.specs.declared.keystroke.Keystroke.{Keystroke}
use Rattle.kb_keys.specs.Chord.{begins_with}
use Rattle.kb_keys.specs.Keystroke.{same_stroke}
use Rattle.kb_keys.proofs.KeystrokeLemmas.{same_stroke-Decides}
use Rattle.kb_rules.specs.declared.rule.Rule.{Rule}
use Rattle.kb_resolve.specs.Enablements.{Enabling}
use Rattle.kb_resolve.specs.Index.{begins, positions_of, rules_at, second_number, second_in, seconds_of}
use Rattle.kb_resolve.specs.Resolver.{may_start, matches, last_where, chosen, HasPatterns, AsksPattern}
use Rattle.kb_resolve.specs.Resolver.{MayAskPatterns}
use Rattle.kb_resolve.proofs.ResolverLemmas.{one_before}
use Rattle.kb_resolve.proofs.WalkLemmas.{rules_at-positions, end-passes, end-fails, end-absent}

-- ---- the second keystroke

kept : (front rest : List Keystroke) (place : ℕ) (stroke : Keystroke) → slice_get front place ≡ Some stroke
    → slice_get (front ++ rest) place ≡ Some stroke
kept [] rest place stroke e = absurd (cc)
kept (x ∷ xs) rest zero stroke e = e
kept (x ∷ xs) rest (suc place) stroke e = kept xs rest place stroke e

second-kept : (chord pressed : List Keystroke) (second : Keystroke) → slice_get pressed 1 ≡ Some second
    → begins_with chord pressed ≡ true → slice_get chord 1 ≡ Some second
second-kept chord pressed second e begins =
    let is = starts_is same_stroke-Decides chord pressed (begins_with chord pressed) refl in
    ap (λ (l : List Keystroke). slice_get l 1) (is.0 begins)
    ∙ kept pressed (drop (length pressed) chord) 1 second e

front : (a b : Bool) → (a && b) ≡ true → a ≡ true
front true b h = refl
front false b h = absurd (false≢true h)

-- a rule with another second keystroke doesn't match
other-fails : (keys : Keys) (enablement : Enabling) (pressed : List Keystroke) (second : Keystroke) (rule : Rule)
    → slice_get pressed 1 ≡ Some second
    → (second_in (Some rule) ≡ second_number (Some second) → ⊥)
    → matches keys enablement pressed rule ≡ false
other-fails keys enablement pressed second rule e differ =
    false_from_ne_true (matches keys enablement pressed rule)
    (λ m. differ
    (ap second_number
    (second-kept rule.chord pressed second e
    (front (begins_with rule.chord pressed) (may_start keys enablement rule) m))))

up-to : (positions : List ℕ) (n : ℕ) → n < length positions
    → take (suc n) positions ≡ take n positions ++ get_or positions n 0 ∷ []
up-to [] n l = absurd (omega (arith, l))
up-to (x ∷ xs) zero l = refl
up-to (x ∷ xs) (suc n) l = ap (λ (r : List ℕ). x ∷ r) (up-to xs n (omega (arith, l)))

over-by : (keys : Keys) (enablement : Enabling) (pressed : List Keystroke) (second : Keystroke) (all : List Rule)
    (positions above : List ℕ) (position : ℕ) (o : Option Rule) → slice_get pressed 1 ≡ Some second
    → positions ≡ above ++ position ∷ [] → slice_get all position ≡ o
    → (second_in o ≡ second_number (Some second) → ⊥)
    → chosen pressed keys enablement (rules_at all positions) ≡ chosen pressed keys enablement (rules_at all above)
over-by keys enablement pressed second all positions above position None p e g differ =
    end-absent (matches keys enablement pressed) all positions above position e g
over-by keys enablement pressed second all positions above position (Some rule) p e g differ =
    end-fails (matches keys enablement pressed) all positions above position rule e g
    (other-fails keys enablement pressed second rule p differ)

-- a position whose rule has another second keystroke is passed over
pub passed-over : (keys : Keys) (enablement : Enabling) (pressed : List Keystroke) (second : Keystroke)
    (all : List Rule) (positions : List ℕ) (l n : ℕ) → l ≡ suc n → n < length positions
    → slice_get pressed 1 ≡ Some second
    → (get_or (seconds_of all positions) n 0 ≡ second_number (Some second) → ⊥)
    → chosen pressed keys enablement (rules_at all (take l positions))
    ≡ chosen pressed keys enablement (rules_at all (take n positions))
passed-over keys enablement pressed second all positions l n e within p differ =
    let position = get_or positions n 0 in
    let here = get_or-map (λ at. second_in (slice_get all at)) positions n 0 0 within in
    over-by keys enablement pressed second all (take l positions) (take n positions) position
    (slice_get all position) p (rw e (up-to positions n within)) refl (λ same. differ (here ∙ same))

-- the same searches as of `WalkLemmas`, by place
pub place-passes : (p : Rule → Bool) (all : List Rule) (positions : List ℕ) (l n : ℕ) (rule : Rule) → l ≡ suc n
    → n < length positions → slice_get all (get_or positions n 0) ≡ Some rule → p rule ≡ true
    → last_where p (rules_at all (take l positions)) ≡ Some rule
place-passes p all positions l n rule e within g h =
    end-passes p all (take l positions) (take n positions) (get_or positions n 0) rule
    (rw e (up-to positions n within)) g h

pub place-fails : (p : Rule → Bool) (all : List Rule) (positions : List ℕ) (l n : ℕ) (rule : Rule) → l ≡ suc n
    → n < length positions → slice_get all (get_or positions n 0) ≡ Some rule → p rule ≡ false
    → last_where p (rules_at all (take l positions)) ≡ last_where p (rules_at all (take n positions))
place-fails p all positions l n rule e within g h =
    end-fails p all (take l positions) (take n positions) (get_or positions n 0) rule
    (rw e (up-to positions n within)) g h

-- ---- the only keystroke

here : (P : Rule → Type 0) (x : Rule) (xs : List Rule) → P x → Any P (x ∷ xs)
here P x xs p = (0, x, omega arith, refl, p)

later : (P : Rule → Type 0) (x : Rule) (xs : List Rule) → Any P xs → Any P (x ∷ xs)
later P x xs h = (suc h.0, h.1, omega (arith, h.2), h.3, h.4)

first-or-later : (P : Rule → Type 0) (x : Rule) (xs : List Rule) (i : ℕ) (value : Rule) → i < length (x ∷ xs)
    → get_or (x ∷ xs) i value ≡ value → P value → P x ⊎ Any P xs
first-or-later P x xs zero value l e p = inl (subst P (sym e) p)
first-or-later P x xs (suc i) value l e p = inr (i, value, omega (arith, l), e, p)

none : (P : Rule → Type 0) → Any P [] → ⊥
none P h = omega (arith, h.2)

abbrev Both : (Rule → Bool) → (Rule → Type 0) → Rule → Type 0
Both q P rule = (q rule ≡ true) × P rule

filtered-next : (P : Rule → Type 0) (q : Rule → Bool) (x : Rule) (xs : List Rule) (b : Bool) → q x ≡ b
    → (Any P (filter q xs) → Any (Both q P) xs) → Any P (filter q (x ∷ xs)) → Any (Both q P) (x ∷ xs)
filtered-next P q x xs true e next h =
    let all : Any P (x ∷ filter q xs) =
    subst (λ (l : List Rule). Any P l) (ap (λ (b : Bool). if b then x ∷ filter q xs else filter q xs) e) h in
    ⊎_elim (λ (p : P x). here (Both q P) x xs (e, p)) (λ (more : Any P (filter q xs)). later (Both q P) x xs (next more))
    (first-or-later P x (filter q xs) all.0 all.1 all.2 all.3 all.4)
filtered-next P q x xs false e next h =
    let all : Any P (filter q xs) =
    subst (λ (l : List Rule). Any P l) (ap (λ (b : Bool). if b then x ∷ filter q xs else filter q xs) e) h in
    later (Both q P) x xs (next all)

-- one of those that pass a test is one of all, and passes it
filtered : (P : Rule → Type 0) (q : Rule → Bool) (rules : List Rule) → Any P (filter q rules)
    → Any (Both q P) rules
filtered P q [] h = absurd (none P h)
filtered P q (x ∷ xs) h = filtered-next P q x xs (q x) refl (filtered P q xs) h

weaker : (P Q : Rule → Type 0) (rules : List Rule) → ((rule : Rule) → P rule → Q rule) → Any P rules → Any Q rules
weaker P Q rules f h = (h.0, h.1, h.2, h.3, f h.1 h.4)

same_bool : (a b : Bool) → (a ≡ true → b ≡ true) → (b ≡ true → a ≡ true) → a ≡ b
same_bool true b f g = sym (f refl)
same_bool false true f g = g refl
same_bool false false f g = refl

-- beginning with one keystroke alone
begins-alone : (first : Keystroke) (chord : List Keystroke) → begins_with chord (first ∷ []) ≡ begins first chord
begins-alone first [] = refl
begins-alone first (x ∷ xs) =
    let is = starts_is same_stroke-Decides (x ∷ xs) (first ∷ []) (begins_with (x ∷ xs) (first ∷ [])) refl in
    same_bool (begins_with (x ∷ xs) (first ∷ [])) (same_stroke x first)
    (λ yes. (same_stroke-Decides x first).1 (ap (λ (l : List Keystroke). get_or l 0 x) (is.0 yes)))
    (λ yes. is.1 xs (ap (λ (s : Keystroke). s ∷ xs) ((same_stroke-Decides x first).0 yes)))

or-none : (o : Option Rule) → option_or o None ≡ o
or-none None = refl
or-none (Some x) = refl

joined-next : (p q r : Rule → Bool) (x : Rule) (xs : List Rule) (b : Bool) → q x ≡ b → p x ≡ (b && r x)
    → last_where r (filter q xs) ≡ last_where p xs → last_where r (filter q (x ∷ xs)) ≡ last_where p (x ∷ xs)
joined-next p q r x xs true e h ih =
    rw (e, h) (ap (λ (o : Option Rule). option_or o (if r x then Some x else None)) ih)
joined-next p q r x xs false e h ih = rw (e, h) (ih ∙ sym (or-none (last_where p xs)))

-- a test of two parts, the first of which is made by leaving out the others
joined : (p q r : Rule → Bool) → ((rule : Rule) → p rule ≡ (q rule && r rule)) → (rules : List Rule)
    → last_where r (filter q rules) ≡ last_where p rules
joined p q r h [] = refl
joined p q r h (x ∷ xs) = joined-next p q r x xs (q x) refl (h x) (joined p q r h xs)

pub chosen-alone : (keys : Keys) (enablement : Enabling) (first : Keystroke) (rules : List Rule)
    → last_where (may_start keys enablement) (rules_at rules (positions_of first rules))
    ≡ chosen (first ∷ []) keys enablement rules
chosen-alone keys enablement first rules =
    rw (rules_at-positions first rules)
    (joined (matches keys enablement (first ∷ [])) (λ (rule : Rule). begins first rule.chord) (may_start keys enablement)
    (λ (rule : Rule). ap (λ (b : Bool). b && may_start keys enablement rule) (begins-alone first rule.chord)) rules)

pub asks-alone : (keys : Keys) (enablement : Enabling) (first : Keystroke) (rules : List Rule)
    → Any (HasPatterns keys enablement) (rules_at rules (positions_of first rules))
    → MayAskPatterns (first ∷ []) keys enablement rules
asks-alone keys enablement first rules h =
    let among = subst (λ (l : List Rule). Any (HasPatterns keys enablement) l) (rules_at-positions first rules) h in
    weaker (Both (λ (rule : Rule). begins first rule.chord) (HasPatterns keys enablement))
    (AsksPattern keys enablement (first ∷ [])) rules
    (λ (rule : Rule). λ b. (begins-alone first rule.chord ∙ b.0, b.1))
    (filtered (HasPatterns keys enablement) (λ (rule : Rule). begins first rule.chord) rules among)

-- the rule at the last position, and those before it, are among the rules at all positions
pub any-before : (P : Rule → Type 0) (all : List Rule) (positions above : List ℕ) (position : ℕ)
    → positions ≡ above ++ position ∷ [] → Any P (rules_at all above) → Any P (rules_at all positions)
any-before P all positions above position e h =
    rw (e, filter_map-append (slice_get all) above (position ∷ []))
    (one_before P (rules_at all above) (rules_at all (position ∷ [])) h)

pub any-last : (P : Rule → Type 0) (all : List Rule) (positions above : List ℕ) (position : ℕ) (rule : Rule)
    → positions ≡ above ++ position ∷ [] → slice_get all position ≡ Some rule → P rule
    → Any P (rules_at all positions)
any-last P all positions above position rule e g p =
    rw (e, filter_map-append (slice_get all) above (position ∷ []), g) (Any-push P (rules_at all above) rule p)

-- the second keystrokes of some of the positions in a row
pub seconds-range : (all : List Rule) (positions part seconds : List ℕ) (from count : ℕ)
    → seconds ≡ seconds_of all positions → take count (drop from positions) ≡ part
    → take count (drop from seconds) ≡ seconds_of all part
seconds-range all positions part seconds from count e h =
    let second : ℕ → ℕ = λ position. second_in (slice_get all position) in
    ap (λ (l : List ℕ). take count (drop from l)) e
    ∙ ap (λ (l : List ℕ). take count l) (drop-map second from positions)
    ∙ take-map second count (drop from positions)
    ∙ ap (λ (l : List ℕ). map second l) h

pub only-one : (pressed : List Keystroke) (first : Keystroke) → slice_get pressed 0 ≡ Some first
    → length pressed ≤ 1 → pressed ≡ first ∷ []
only-one [] first e l = absurd (cc)
only-one (x ∷ []) first e l = ap (λ (s : Keystroke). s ∷ []) (same_Some x first e)
only-one (x ∷ (y ∷ ys)) first e l = absurd (omega (arith, l))
