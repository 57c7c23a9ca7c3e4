-- Any keystroke behind which a search finds something is among those that go on.
use Rattle.std.proofs.Common.{◌≡◌, ◌||◌, ◌++◌, ◌∷◌, [], ◌∙◌, sym, ap, refl, subst, length, append_assoc}
use Rattle.std.proofs.Common.{Bool, true, false, if◌then◌else◌, List, filter, Option, None, Some, slice_get}
use Rattle.std.proofs.lemmas.Bool.{false≢true}
use Rattle.std.proofs.lemmas.List.Folds.{list_any-append}
use Rattle.std.proofs.lemmas.Slice.Eq.{starts_is}
use Rattle.kb_context.specs.Scopes.{Keys}
use Rattle.kb_keys.specs.Chord.{begins_with}
use Rattle.kb_keys.specs.Keystroke.{same_stroke}
use Rattle.kb_keys.specs.declared.keystroke.Keystroke.{Keystroke}
use Rattle.kb_keys.proofs.KeystrokeLemmas.{same_stroke-Decides}
use Rattle.kb_lookup.specs.GoingOn.{AllGoOn, goes_on, has_key, is_something}
use Rattle.kb_lookup.specs.GoingOn.{next_key, next_keys, with_key}
use Rattle.kb_resolve.specs.Enablements.{Enabling}
use Rattle.kb_resolve.specs.Resolved.{Resolution, found, more, nothing}
use Rattle.kb_resolve.specs.Resolver.{IsGreatest, IsLastMatch, resolved}
use Rattle.kb_resolve.proofs.ResolverLemmas.{resolved_is_greatest}
use Rattle.kb_rules.specs.declared.rule.Rule.{Rule}

-- ---- the next keystroke of a rule

get-behind : (pressed : List Keystroke) (key : Keystroke) (rest : List Keystroke)
    → slice_get (pressed ++ key ∷ rest) (length pressed) ≡ Some key
get-behind [] key rest = refl
get-behind (p ∷ pressed) key rest = get-behind pressed key rest

next-is : (pressed : List Keystroke) (key : Keystroke) (rest chord : List Keystroke)
    → chord ≡ pressed ++ key ∷ rest → next_key pressed chord ≡ Some key
next-is pressed key rest chord e =
    let begins : begins_with chord pressed ≡ true =
    (starts_is same_stroke-Decides chord pressed (begins_with chord pressed) refl).1 (key ∷ rest) e in
    let gets : slice_get chord (length pressed) ≡ Some key = rw e (get-behind pressed key rest) in
    rw begins gets

-- ---- it is among those of all rules

kept-by : (other : Keystroke) (made : List Keystroke) (key : Keystroke) (b : Bool) → has_key made key ≡ true
    → has_key (if b then made else made ++ other ∷ []) key ≡ true
kept-by other made key true h = h
kept-by other made key false h = rw (list_any-append (λ k. same_stroke k key) made (other ∷ []), h) refl

kept : (other : Option Keystroke) (made : List Keystroke) (key : Keystroke) → has_key made key ≡ true
    → has_key (with_key other made) key ≡ true
kept None made key h = h
kept (Some other) made key h = kept-by other made key (has_key made other) h

pushed : (made : List Keystroke) (key : Keystroke) (b : Bool) → has_key made key ≡ b
    → has_key (if b then made else made ++ key ∷ []) key ≡ true
pushed made key true h = h
pushed made key false h =
    let same : same_stroke key key ≡ true = (same_stroke-Decides key key).1 refl in
    rw (list_any-append (λ k. same_stroke k key) made (key ∷ []), h, same) refl

there : (pressed : List Keystroke) (above : List Rule) (rule : Rule) (below : List Rule) (key : Keystroke)
    → next_key pressed rule.chord ≡ Some key → has_key (next_keys pressed (above ++ rule ∷ below)) key ≡ true
there pressed [] rule below key e =
    let made = next_keys pressed below in
    rw e (pushed made key (has_key made key) refl)
there pressed (x ∷ above) rule below key e =
    kept (next_key pressed x.chord) (next_keys pressed (above ++ rule ∷ below)) key
    (there pressed above rule below key e)

in-rules : (pressed : List Keystroke) (keys : Keys) (enabling : Enabling) (rules : List Rule) (key : Keystroke)
    (rule : Rule) (rest : List Keystroke) → IsLastMatch (pressed ++ key ∷ []) keys enabling rules rule
    → rule.chord ≡ (pressed ++ key ∷ []) ++ rest → has_key (next_keys pressed rules) key ≡ true
in-rules pressed keys enabling rules key rule rest last e =
    let next : next_key pressed rule.chord ≡ Some key =
    next-is pressed key rest rule.chord (e ∙ append_assoc pressed (key ∷ []) rest) in
    subst (λ (l : List Rule). has_key (next_keys pressed l) key ≡ true) (sym last.whole)
    (there pressed last.above rule last.below key next)

next-by : (pressed : List Keystroke) (keys : Keys) (enabling : Enabling) (rules : List Rule) (key : Keystroke)
    (r : Resolution) → IsGreatest (pressed ++ key ∷ []) keys enabling rules r → is_something r ≡ true
    → has_key (next_keys pressed rules) key ≡ true
next-by pressed keys enabling rules key (found rule) g h =
    in-rules pressed keys enabling rules key rule g.0.matching.0 g.0 g.0.matching.1
next-by pressed keys enabling rules key more (rule, last, longer) h =
    in-rules pressed keys enabling rules key rule last.matching.0 last last.matching.1
next-by pressed keys enabling rules key nothing g h = absurd (false≢true h)

-- ---- what finds something is kept

or-true : (a b : Bool) → b ≡ true → (a || b) ≡ true
or-true true b h = refl
or-true false b h = h

or-right : (a b : Bool) → a ≡ false → (a || b) ≡ true → b ≡ true
or-right true b e h = absurd (false≢true (sym e))
or-right false b e h = h

held-by : (test : Keystroke → Bool) (other key : Keystroke) (rest : List Keystroke) (b : Bool) → test other ≡ b
    → test key ≡ true → same_stroke other key ≡ true
    → has_key (if b then other ∷ rest else rest) key ≡ true
held-by test other key rest true e h same = rw same refl
held-by test other key rest false e h same =
    let is : other ≡ key = (same_stroke-Decides other key).0 same in
    absurd (false≢true (sym e ∙ ap test is ∙ h))

held-behind : (other key : Keystroke) (rest : List Keystroke) (b : Bool) → has_key rest key ≡ true
    → has_key (if b then other ∷ rest else rest) key ≡ true
held-behind other key rest true h = or-true (same_stroke other key) (has_key rest key) h
held-behind other key rest false h = h

held-at : (test : Keystroke → Bool) (key other : Keystroke) (all : List Keystroke) → test key ≡ true
    → (same : Bool) → same_stroke other key ≡ same → (same_stroke other key || has_key all key) ≡ true
    → (has_key all key ≡ true → has_key (filter test all) key ≡ true)
    → has_key (if test other then other ∷ filter test all else filter test all) key ≡ true
held-at test key other all h true e has rest =
    held-by test other key (filter test all) (test other) refl h e
held-at test key other all h false e has rest =
    held-behind other key (filter test all) (test other)
    (rest (or-right (same_stroke other key) (has_key all key) e has))

held : (test : Keystroke → Bool) (key : Keystroke) (all : List Keystroke) → test key ≡ true
    → has_key all key ≡ true → has_key (filter test all) key ≡ true
held test key [] h has = absurd (false≢true has)
held test key (other ∷ all) h has =
    held-at test key other all h (same_stroke other key) refl has (held test key all h)

pub all_go_on : (keys : Keys) (enabling : Enabling) (rules : List Rule) (pressed : List Keystroke)
    → AllGoOn keys enabling rules pressed
all_go_on keys enabling rules pressed key h =
    held (goes_on keys enabling rules pressed) key (next_keys pressed rules) h
    (next-by pressed keys enabling rules key (resolved (pressed ++ key ∷ []) keys enabling rules)
    (resolved_is_greatest (pressed ++ key ∷ []) keys enabling rules) h)
