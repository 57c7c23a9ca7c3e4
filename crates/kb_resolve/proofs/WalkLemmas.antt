-- A search among the positions of the first keystroke finds what a search among all rules finds.
use Rattle.std.proofs.Common.{◌≡◌, ◌+◌, ℕ, List, [], ◌∷◌, ◌++◌, Bool, true, false, if◌then◌else◌, length}
use Rattle.std.proofs.Common.{filter, take, zero, suc}
use Rattle.std.proofs.Common.{Option, None, Some, refl, ap, sym, ◌∙◌, arith, slice_get, drop, append_assoc}
use Rattle.std.proofs.Common.{◌&&◌}
use Rattle.std.specs.Option.{option_or}
use Rattle.std.specs.List.{cons_option}
use Rattle.std.proofs.lemmas.Bool.{false≢true}
use Rattle.std.proofs.lemmas.Option.{same_Some}
use Rattle.std.proofs.lemmas.List.{length_push, append-nil}
use Rattle.std.proofs.lemmas.List.Elements.{filter_map-append}
use Rattle.std.proofs.lemmas.Slice.Eq.{starts_is}
use Rattle.kb_keys.specs.declared.keystroke.Keystroke.{Keystroke}
use Rattle.kb_keys.specs.Chord.{begins_with}
use Rattle.kb_keys.proofs.KeystrokeLemmas.{same_stroke-Decides}
use Rattle.kb_rules.specs.declared.rule.Rule.{Rule}
use Rattle.kb_resolve.specs.Enablements.{Enabling}
use Rattle.kb_resolve.specs.Index.{begins, places, positions_of, rules_at}
use Rattle.kb_context.specs.Scopes.{Keys}
use Rattle.kb_resolve.specs.Resolver.{may_start, matches, last_where, chosen}

get-at : (front : List Rule) (x : Rule) (rest : List Rule) → slice_get (front ++ x ∷ rest) (length front) ≡ Some x
get-at [] x rest = refl
get-at (y ∷ front) x rest = get-at front x rest

at-next : (test : Rule → Bool) (all : List Rule) (from : ℕ) (x : Rule) (xs : List Rule) (b : Bool) → test x ≡ b
    → slice_get all from ≡ Some x → rules_at all (places test (from + 1) xs) ≡ filter test xs
    → rules_at all (places test from (x ∷ xs)) ≡ filter test (x ∷ xs)
at-next test all from x xs true e g h = rw (e, g) (ap (λ (l : List Rule). x ∷ l) h)
at-next test all from x xs false e g h = rw e h

-- the rules at the places that pass are those that pass
at-places : (test : Rule → Bool) (all front rules : List Rule) (from : ℕ) → all ≡ front ++ rules
    → from ≡ length front → rules_at all (places test from rules) ≡ filter test rules
at-places test all front [] from e f = refl
at-places test all front (x ∷ xs) from e f =
    let here : slice_get all from ≡ Some x = rw (e, f) (get-at front x xs) in
    let whole : all ≡ (front ++ x ∷ []) ++ xs = e ∙ sym (append_assoc front (x ∷ []) xs) in
    let next : from + 1 ≡ length (front ++ x ∷ []) = omega (arith, length_push front x) in
    at-next test all from x xs (test x) refl here (at-places test all (front ++ x ∷ []) xs (from + 1) whole next)

pub rules_at-positions : (stroke : Keystroke) (rules : List Rule)
    → rules_at rules (positions_of stroke rules) ≡ filter (λ rule. begins stroke rule.chord) rules
rules_at-positions stroke rules = at-places (λ rule. begins stroke rule.chord) rules [] rules 0 refl refl

or-none : (o : Option Rule) → option_or o None ≡ o
or-none None = refl
or-none (Some x) = refl

last-next : (p q : Rule → Bool) (x : Rule) (xs : List Rule) (a b : Bool) → p x ≡ a → q x ≡ b
    → (a ≡ true → b ≡ true) → last_where p (filter q xs) ≡ last_where p xs
    → last_where p (filter q (x ∷ xs)) ≡ last_where p (x ∷ xs)
last-next p q x xs a true ep eq h ih = rw eq (ap (λ (o : Option Rule). option_or o (if p x then Some x else None)) ih)
last-next p q x xs true false ep eq h ih = absurd (false≢true (h refl))
last-next p q x xs false false ep eq h ih = rw (eq, ep) (ih ∙ sym (or-none (last_where p xs)))

-- rules that fail may be left out
pub last-filter : (p q : Rule → Bool) → ((rule : Rule) → p rule ≡ true → q rule ≡ true) → (rules : List Rule)
    → last_where p (filter q rules) ≡ last_where p rules
last-filter p q h [] = refl
last-filter p q h (x ∷ xs) = last-next p q x xs (p x) (q x) refl refl (h x) (last-filter p q h xs)

front : (a b : Bool) → (a && b) ≡ true → a ≡ true
front true b h = refl
front false b h = absurd (false≢true h)

begins-front : (first : Keystroke) (rest chord more : List Keystroke) → chord ≡ first ∷ (rest ++ more)
    → begins first chord ≡ true
begins-front first rest chord more e = rw e ((same_stroke-Decides first first).1 refl)

-- a rule that matches begins with the first pressed keystroke
pub matches-begins : (keys : Keys) (enablement : Enabling) (first : Keystroke) (rest : List Keystroke) (rule : Rule)
    → matches keys enablement (first ∷ rest) rule ≡ true → begins first rule.chord ≡ true
matches-begins keys enablement first rest rule h =
    let yes : begins_with rule.chord (first ∷ rest) ≡ true =
    front (begins_with rule.chord (first ∷ rest)) (may_start keys enablement rule) h in
    let is = starts_is same_stroke-Decides rule.chord (first ∷ rest) (begins_with rule.chord (first ∷ rest)) refl in
    begins-front first rest rule.chord (drop (length (first ∷ rest)) rule.chord) (is.0 yes)

-- so the search among those that begin with it finds the same as the one among all
chosen-by : (keys : Keys) (enablement : Enabling) (first : Keystroke) (pressed rest : List Keystroke)
    (rules : List Rule) → pressed ≡ first ∷ rest
    → chosen pressed keys enablement (rules_at rules (positions_of first rules))
    ≡ chosen pressed keys enablement rules
chosen-by keys enablement first pressed rest rules e =
    rw (e, rules_at-positions first rules)
    (last-filter (matches keys enablement (first ∷ rest)) (λ (rule : Rule). begins first rule.chord)
    (λ (rule : Rule). λ m. matches-begins keys enablement first rest rule m) rules)

front-is : (pressed : List Keystroke) (first : Keystroke) → slice_get pressed 0 ≡ Some first
    → pressed ≡ first ∷ drop 1 pressed
front-is [] first e = absurd (cc)
front-is (x ∷ xs) first e = ap (λ (s : Keystroke). s ∷ xs) (same_Some x first e)

pub chosen-at : (keys : Keys) (enablement : Enabling) (first : Keystroke) (pressed : List Keystroke)
    (rules : List Rule) → slice_get pressed 0 ≡ Some first
    → chosen pressed keys enablement (rules_at rules (positions_of first rules))
    ≡ chosen pressed keys enablement rules
chosen-at keys enablement first pressed rules e =
    chosen-by keys enablement first pressed (drop 1 pressed) rules (front-is pressed first e)

behind : (rule : Rule) (later other : Option Rule) (b : Bool)
    → option_or (if b then Some rule else later) other ≡ (if b then Some rule else option_or later other)
behind rule later other true = refl
behind rule later other false = refl

last-end : (p : Rule → Bool) (above : List Rule) (lowest : Rule)
    → last_where p (above ++ lowest ∷ []) ≡ (if p lowest then Some lowest else last_where p above)
last-end p [] lowest = refl
last-end p (x ∷ above) lowest =
    let other : Option Rule = if p x then Some x else None in
    ap (λ (later : Option Rule). option_or later other) (last-end p above lowest)
    ∙ behind lowest (last_where p above) other (p lowest)

at-end : (all : List Rule) (positions above : List ℕ) (position : ℕ) (o : Option Rule)
    → positions ≡ above ++ position ∷ [] → slice_get all position ≡ o
    → rules_at all positions ≡ rules_at all above ++ cons_option o []
at-end all positions above position o e g =
    rw (e, filter_map-append (slice_get all) above (position ∷ []), g) refl

-- a search from the end is done where the last rule passes the test, and else goes on before it
pub end-passes : (p : Rule → Bool) (all : List Rule) (positions above : List ℕ) (position : ℕ) (rule : Rule)
    → positions ≡ above ++ position ∷ [] → slice_get all position ≡ Some rule → p rule ≡ true
    → last_where p (rules_at all positions) ≡ Some rule
end-passes p all positions above position rule e g h =
    rw (at-end all positions above position (Some rule) e g, last-end p (rules_at all above) rule, h) refl

pub end-fails : (p : Rule → Bool) (all : List Rule) (positions above : List ℕ) (position : ℕ) (rule : Rule)
    → positions ≡ above ++ position ∷ [] → slice_get all position ≡ Some rule → p rule ≡ false
    → last_where p (rules_at all positions) ≡ last_where p (rules_at all above)
end-fails p all positions above position rule e g h =
    rw (at-end all positions above position (Some rule) e g, last-end p (rules_at all above) rule, h) refl

pub end-absent : (p : Rule → Bool) (all : List Rule) (positions above : List ℕ) (position : ℕ)
    → positions ≡ above ++ position ∷ [] → slice_get all position ≡ None
    → last_where p (rules_at all positions) ≡ last_where p (rules_at all above)
end-absent p all positions above position e g =
    rw (at-end all positions above position None e g, append-nil (rules_at all above)) refl

-- ---- a search over all rules from the end

-- the rules up to a place, and the one there, if there is one
up-to : (rules : List Rule) (n : ℕ) → take (suc n) rules ≡ take n rules ++ cons_option (slice_get rules n) []
up-to [] zero = refl
up-to [] (suc n) = refl
up-to (x ∷ xs) zero = refl
up-to (x ∷ xs) (suc n) = ap (λ (l : List Rule). x ∷ l) (up-to xs n)

pub up-passes : (p : Rule → Bool) (all : List Rule) (l n : ℕ) (rule : Rule) → l ≡ suc n
    → slice_get all n ≡ Some rule → p rule ≡ true → last_where p (take l all) ≡ Some rule
up-passes p all l n rule e g h = rw (e, up-to all n, g, last-end p (take n all) rule, h) refl

pub up-fails : (p : Rule → Bool) (all : List Rule) (l n : ℕ) (rule : Rule) → l ≡ suc n
    → slice_get all n ≡ Some rule → p rule ≡ false → last_where p (take l all) ≡ last_where p (take n all)
up-fails p all l n rule e g h = rw (e, up-to all n, g, last-end p (take n all) rule, h) refl

pub up-absent : (p : Rule → Bool) (all : List Rule) (l n : ℕ) → l ≡ suc n → slice_get all n ≡ None
    → last_where p (take l all) ≡ last_where p (take n all)
up-absent p all l n e g = rw (e, up-to all n, g, append-nil (take n all)) refl
