-- The rules of a command that are found are exactly those whose keystrokes find a rule of the command.
use Rattle.std.proofs.Common.{◌≡◌, ◌&&◌, ◌++◌, ◌∷◌, [], ◌∙◌, sym, ap, refl, subst, ℕ}
use Rattle.std.proofs.Common.{Bool, true, false, if◌then◌else◌, List}
use Rattle.std.specs.List.{list_all}
use Rattle.std.specs.Str.{bytes_eq}
use Rattle.std.proofs.lemmas.Bool.{false≢true}
use Rattle.std.proofs.lemmas.List.Folds.{list_all-append, list_any-append}
use Rattle.std.proofs.lemmas.Slice.Eq.{slice_eq-Decides}
use Rattle.kb_context.specs.Scopes.{Keys}
use Rattle.kb_keys.specs.Chord.{same_keys}
use Rattle.kb_keys.specs.declared.keystroke.Keystroke.{Keystroke}
use Rattle.kb_keys.proofs.KeystrokeLemmas.{same_stroke-Decides}
use Rattle.kb_lookup.specs.Starting.{AreKeysOf, finds, from_below, has_chord, is_start, keys_of, with_new}
use Rattle.kb_resolve.specs.Enablements.{Enabling}
use Rattle.kb_resolve.specs.Resolved.{Resolution, found, more, nothing}
use Rattle.kb_resolve.specs.Resolver.{IsGreatest, resolved}
use Rattle.kb_resolve.proofs.ResolverLemmas.{resolved_is_greatest}
use Rattle.kb_rules.specs.declared.rule.Rule.{Rule}
use Rattle.kb_when.specs.Marks.{when_holds}

both : (a b : Bool) → (a && b) ≡ true → (a ≡ true) × (b ≡ true)
both true b e = (refl, e)
both false b e = absurd (false≢true e)

same_keys-refl : (chord : List Keystroke) → same_keys chord chord ≡ true
same_keys-refl chord = (slice_eq-Decides same_stroke-Decides chord chord (same_keys chord chord) refl).1 refl

-- ---- what is kept passes

each-new : (p : Rule → Bool) (rule : Rule) (made : List Rule) (b : Bool) → p rule ≡ true
    → list_all p made ≡ true → list_all p (if b then made else made ++ rule ∷ []) ≡ true
each-new p rule made true passes h = h
each-new p rule made false passes h = rw (list_all-append p made (rule ∷ []), h, passes) refl

each-with : (p : Rule → Bool) (rule : Rule) (made : List Rule) (b : Bool) → (b ≡ true → p rule ≡ true)
    → list_all p made ≡ true → list_all p (if b then with_new rule made else made) ≡ true
each-with p rule made true passes h = each-new p rule made (has_chord made rule.chord) (passes refl) h
each-with p rule made false passes h = h

each : (test p : Rule → Bool) → ((rule : Rule) → test rule ≡ true → p rule ≡ true) → (rules : List Rule)
    → list_all p (from_below test rules) ≡ true
each test p passes [] = refl
each test p passes (rule ∷ below) =
    each-with p rule (from_below test below) (test rule) (passes rule) (each test p passes below)

-- ---- the keystrokes of each rule that passes are kept

kept-new : (rule : Rule) (made : List Rule) (chord : List Keystroke) (b : Bool) → has_chord made chord ≡ true
    → has_chord (if b then made else made ++ rule ∷ []) chord ≡ true
kept-new rule made chord true h = h
kept-new rule made chord false h = rw (list_any-append (λ r. same_keys r.chord chord) made (rule ∷ []), h) refl

kept : (rule : Rule) (made : List Rule) (chord : List Keystroke) (b : Bool) → has_chord made chord ≡ true
    → has_chord (if b then with_new rule made else made) chord ≡ true
kept rule made chord true h = kept-new rule made chord (has_chord made rule.chord) h
kept rule made chord false h = h

pushed : (rule : Rule) (made : List Rule) (b : Bool) → has_chord made rule.chord ≡ b
    → has_chord (if b then made else made ++ rule ∷ []) rule.chord ≡ true
pushed rule made true h = h
pushed rule made false h =
    rw (list_any-append (λ r. same_keys r.chord rule.chord) made (rule ∷ []), h, same_keys-refl rule.chord) refl

there : (test : Rule → Bool) (above : List Rule) (rule : Rule) (below : List Rule) → test rule ≡ true
    → has_chord (from_below test (above ++ rule ∷ below)) rule.chord ≡ true
there test [] rule below h =
    let made = from_below test below in
    rw h (pushed rule made (has_chord made rule.chord) refl)
there test (x ∷ above) rule below h =
    kept x (from_below test (above ++ rule ∷ below)) rule.chord (test x) (there test above rule below h)

-- ---- one rule more

pub passing : (test : Rule → Bool) (rule : Rule) (below : List Rule) → test rule ≡ true
    → from_below test (rule ∷ below) ≡ with_new rule (from_below test below)
passing test rule below h = rw h refl

pub failing : (test : Rule → Bool) (rule : Rule) (below : List Rule) → test rule ≡ false
    → from_below test (rule ∷ below) ≡ from_below test below
failing test rule below h = rw h refl

-- ---- the law

all-by : (keys : Keys) (enabling : Enabling) (rules : List Rule) (command : List ℕ) (chord : List Keystroke)
    (r : Resolution) → resolved chord keys enabling rules ≡ r → IsGreatest chord keys enabling rules r
    → finds command r ≡ true → has_chord (keys_of keys enabling rules command) chord ≡ true
all-by keys enabling rules command chord (found rule) e (last, is) h =
    let finds_it : finds command (resolved rule.chord keys enabling rules) ≡ true =
    subst (λ (c : List Keystroke). finds command (resolved c keys enabling rules) ≡ true) (sym is)
    (ap (finds command) e ∙ h) in
    let passes : is_start keys enabling rules command rule ≡ true =
    rw (h, last.matching.2, finds_it) refl in
    let test = is_start keys enabling rules command in
    subst (λ (c : List Keystroke). has_chord (from_below test rules) c ≡ true) is
    (subst (λ (l : List Rule). has_chord (from_below test l) rule.chord ≡ true) (sym last.whole)
    (there test last.above rule last.below passes))
all-by keys enabling rules command chord more e g h = absurd (false≢true h)
all-by keys enabling rules command chord nothing e g h = absurd (false≢true h)

pub keys_are : (keys : Keys) (enabling : Enabling) (rules : List Rule) (command : List ℕ)
    → AreKeysOf keys enabling rules command
keys_are keys enabling rules command = record {
  each_starts = each (is_start keys enabling rules command)
      (λ rule. finds command (resolved rule.chord keys enabling rules))
      (λ rule e. (both (bytes_eq rule.command command && when_holds keys rule.when)
      (finds command (resolved rule.chord keys enabling rules)) e).1) rules;
  all_are_there = λ chord h. all-by keys enabling rules command chord (resolved chord keys enabling rules) refl
      (resolved_is_greatest chord keys enabling rules) h;
}
