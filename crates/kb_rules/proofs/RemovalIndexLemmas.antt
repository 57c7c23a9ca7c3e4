-- What an index finds is what some removal of it takes.
use Rattle.std.proofs.Common.{◌≡◌, ℕ, List, [], ◌∷◌, ◌++◌, Bool, true, false, ◌||◌, not, Option, Some, None}
use Rattle.std.proofs.Common.{filter, refl, ap, sym, ◌∙◌, unwrap_or}
use Rattle.std.specs.Str.{bytes_eq}
use Rattle.std.specs.List.{list_any, flat_map}
use Rattle.std.proofs.lemmas.Bool.{false≢true}
use Rattle.std.proofs.lemmas.List.Elements.{filter-append}
use Rattle.std.proofs.lemmas.Slice.Eq.{bytes_eq-Decides}
use Rattle.kb_keys.specs.declared.keystroke.Keystroke.{Keystroke}
use Rattle.kb_rules.specs.declared.removal.Removal.{Removal}
use Rattle.kb_rules.specs.declared.removal_index.RemovalIndex.{RemovalIndex}
use Rattle.kb_rules.specs.declared.rule.Rule.{Rule}
use Rattle.kb_rules.specs.Removal.{Takes, takes}
use Rattle.kb_rules.specs.RemovalIndex.{target, target_of, finds, left_in, Indexes}
use Rattle.kb_rules.specs.RuleList.{Listed}
use Rattle.kb_rules.specs.RuleSet.{left_by, all_rules}
use Rattle.kb_rules.proofs.RemovalLemmas.{takes-Decides}

or_true : (b : Bool) → (b || true) ≡ true
or_true true = refl
or_true false = refl

-- one element more, by whether it passes the test and by which filters keep it
step : {X : Type 0} (test a b : X → Bool) (x : X) (xs : List X) (p k l : Bool)
    → test x ≡ p → a x ≡ k → b x ≡ l → (p ≡ true → (k || l) ≡ true)
    → (list_any test (filter a xs) || list_any test (filter b xs)) ≡ list_any test xs
    → (list_any test (filter a (x ∷ xs)) || list_any test (filter b (x ∷ xs))) ≡ list_any test (x ∷ xs)
step test a b x xs true true true ep ek el h ih = rw (ek, el, ep) refl
step test a b x xs true true false ep ek el h ih = rw (ek, el, ep) refl
step test a b x xs true false true ep ek el h ih = rw (ek, el, ep) (or_true (list_any test (filter a xs)))
step test a b x xs true false false ep ek el h ih = absurd (false≢true (h refl))
step test a b x xs false true true ep ek el h ih = rw (ek, el, ep) ih
step test a b x xs false true false ep ek el h ih = rw (ek, el, ep) ih
step test a b x xs false false true ep ek el h ih = rw (ek, el, ep) ih
step test a b x xs false false false ep ek el h ih = rw (ek, el, ep) ih

-- where each element that passes a test is kept by one of two filters, these find what the test finds
any_of_two : {X : Type 0} (test a b : X → Bool) → ((x : X) → test x ≡ true → (a x || b x) ≡ true)
    → (xs : List X)
    → (list_any test (filter a xs) || list_any test (filter b xs)) ≡ list_any test xs
any_of_two test a b h [] = refl
any_of_two test a b h (x ∷ xs) =
    step test a b x xs (test x) (a x) (b x) refl refl refl (h x) (any_of_two test a b h xs)

same_bytes : (text : List ℕ) → bytes_eq text text ≡ true
same_bytes text = (bytes_eq-Decides text text).1 refl

-- keystrokes that are none, or those of a chord, are found under one of two texts
one_target : (command : List ℕ) (named : Option (List Keystroke)) (chord : List Keystroke)
    → ((keys : List Keystroke) → named ≡ Some keys → chord ≡ keys)
    → (bytes_eq (target command chord) (target command (unwrap_or named []))
    || bytes_eq (target command []) (target command (unwrap_or named []))) ≡ true
one_target command None chord f = rw (same_bytes (target command [])) (or_true _)
one_target command (Some keys) chord f = rw (f keys refl, same_bytes (target command keys)) refl

-- a removal that takes a rule is found under one of the rule's texts
named_by : (removal : Removal) (rule : Rule) → Takes removal rule
    → (bytes_eq (target rule.command rule.chord) (target_of removal)
    || bytes_eq (target rule.command []) (target_of removal)) ≡ true
named_by removal rule t = rw (t.command) (one_target rule.command removal.chord rule.chord t.keystrokes)

-- an index finds a rule exactly where one of its removals takes the rule
pub finds_exact : (index : RemovalIndex) (removals : List Removal) → Indexes index removals → (rule : Rule)
    → finds index rule ≡ list_any (λ removal. takes removal rule) removals
finds_exact index removals h rule =
    rw (h (target rule.command rule.chord), h (target rule.command []))
    (any_of_two (λ removal. takes removal rule)
    (λ removal. bytes_eq (target rule.command rule.chord) (target_of removal))
    (λ removal. bytes_eq (target rule.command []) (target_of removal))
    (λ removal t. named_by removal rule ((takes-Decides removal rule).0 t)) removals)

-- so the rules that it doesn't find are those that none of its removals takes
left_exact : (index : RemovalIndex) (removals : List Removal) (rules : List Rule) → Indexes index removals
    → left_in index rules ≡ left_by removals rules
left_exact index removals rules h = λ i. filter (λ rule. not (finds_exact index removals h rule i)) rules

-- what is left in each list is what is left of all
left_in_all : (index : RemovalIndex) (lists : List Listed)
    → flat_map (λ list. left_in index list.rules) lists ≡ left_in index (all_rules lists)
left_in_all index [] = refl
left_in_all index (list ∷ lists) =
    ap (λ rules. left_in index list.rules ++ rules) (left_in_all index lists)
    ∙ sym (filter-append (λ rule. not (finds index rule)) list.rules (all_rules lists))

pub all_left : (index : RemovalIndex) (lists : List Listed) (removals : List Removal) → Indexes index removals
    → flat_map (λ list. left_in index list.rules) lists ≡ left_by removals (all_rules lists)
all_left index lists removals h = left_in_all index lists ∙ left_exact index removals (all_rules lists) h
