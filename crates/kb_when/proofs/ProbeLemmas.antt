-- What the numbers of an atom decide.
use Rattle.std.proofs.Common.{◌≡◌, ◌≢◌, ℕ, ℤ, ◌<◌, ◌≤◌, List, [], length, Bool, true, false, not, Option, Some, None}
use Rattle.std.proofs.Common.{refl, sym, ◌∙◌, ap, subst, arith, option_map, IfSome, slice_get}
use Rattle.std.specs.Prelude.{pos, negsuc}
use Rattle.std.specs.Str.{bytes_eq}
use Rattle.std.specs.FinMap.{get}
use Rattle.std.proofs.lemmas.Bool.{false_from_ne_true}
use Rattle.std.proofs.lemmas.Slice.Eq.{bytes_eq-Decides}
use Rattle.kb_base.specs.Fingerprint.{IsBytes, fingerprint_of, start_of}
use Rattle.kb_base.specs.HashedText.{hash_of}
use Rattle.kb_base.specs.declared.fingerprint.Fingerprint.{Fingerprint}
use Rattle.kb_base.specs.declared.fingerprint.TextStart.{TextStart}
use Rattle.kb_base.proofs.FingerprintLemmas.{start_exact, hash_in_fingerprint}
use Rattle.kb_context.specs.Scopes.{Keys}
use Rattle.kb_context.specs.Sights.{AnyKey, IsSeen, Tells, TellsSeen, holds_alone, spelled, is_text}
use Rattle.kb_context.specs.declared.sight.Seen.{Seen}
use Rattle.kb_context.specs.declared.sight.SeenKey.{SeenKey}
use Rattle.kb_context.specs.declared.sight.Sight.{Sight}
use Rattle.kb_context.specs.declared.sight.Sight.TheVariants as sight
use Rattle.kb_context.specs.declared.value.ContextValue.{ContextValue}
use Rattle.kb_context.specs.declared.value.ContextValue.TheVariants.{Truth, Number, Text, Texts, Names}
use Rattle.kb_when.specs.Leaf.{marked_of_leaf}
use Rattle.kb_when.specs.Marked.{marked_value}
use Rattle.kb_when.specs.Value.{key_holds, equals_holds, compare_holds, match_holds, member_holds}
use Rattle.kb_when.specs.Probe.{IsAnswer, asks_of, is_spelled, key_of, probe_of, text_of}
use Rattle.kb_when.specs.declared.leaf.Leaf.{Leaf}
use Rattle.kb_when.specs.declared.leaf.Leaf.TheVariants as leaf
use Rattle.kb_when.specs.declared.probe.Asks.{Asks}
use Rattle.kb_when.specs.declared.probe.Asks.TheVariants as asks
use Rattle.kb_when.specs.declared.probe.Probe.{Probe}

-- ---- the same definitions over values

holds_same : (v : Option ContextValue) → holds_alone v ≡ key_holds v
holds_same None = refl
holds_same (Some (Truth b)) = refl
holds_same (Some (Number (pos n))) = refl
holds_same (Some (Number (negsuc n))) = refl
holds_same (Some (Text text)) = refl
holds_same (Some (Texts texts)) = refl
holds_same (Some (Names names)) = refl

spelled_same : (v : Option ContextValue) (text : List ℕ) → is_spelled (spelled v) text ≡ equals_holds v text
spelled_same None text = refl
spelled_same (Some (Truth b)) text = refl
spelled_same (Some (Number n)) text = refl
spelled_same (Some (Text its)) text = refl
spelled_same (Some (Texts texts)) text = refl
spelled_same (Some (Names names)) text = refl

no_member : (v other : Option ContextValue) → is_text v ≡ false → false ≡ member_holds v other
no_member None other e = refl
no_member (Some (Truth b)) other e = refl
no_member (Some (Number n)) other e = refl
no_member (Some (Text its)) other e = absurd (let no : true ≡ false = e in cc)
no_member (Some (Texts texts)) other e = refl
no_member (Some (Names names)) other e = refl

-- an atom over a key that isn't seen doesn't hold
pub absent_fails : (keys : Keys) (a : Leaf) → get keys (key_of a) ≡ None → IsAnswer keys a (Some false)
absent_fails keys (leaf.Key k) e = sym (ap key_holds e)
absent_fails keys (leaf.Equals k v) e = sym (ap (λ o. equals_holds o v) e)
absent_fails keys (leaf.Compare k o n) e = sym (ap (λ v. compare_holds v o n) e)
absent_fails keys (leaf.Matches k p) e = sym (ap (λ v. match_holds v p) e)
absent_fails keys (leaf.Member k other) e = sym (ap (λ v. member_holds v (get keys other)) e)

-- ---- what is asked

pub holds_answers : (keys : Keys) (a : Leaf) (seen : Seen) → asks.Holds ≡ asks_of a → IsSeen (get keys (key_of a)) seen
    → IsAnswer keys a (Some seen.holds)
holds_answers keys (leaf.Key k) seen e is = is.holds ∙ holds_same (get keys k)
holds_answers keys (leaf.Equals k v) seen e is = absurd (let no : Bool = true in cc)
holds_answers keys (leaf.Compare k o n) seen e is = absurd (let no : Bool = true in cc)
holds_answers keys (leaf.Matches k p) seen e is = absurd (let no : Bool = true in cc)
holds_answers keys (leaf.Member k other) seen e is = absurd (let no : Bool = true in cc)

pub text_answers : (keys : Keys) (a : Leaf) (seen : Seen) → asks.Text ≡ asks_of a → IsSeen (get keys (key_of a)) seen
    → seen.is_text ≡ false → IsAnswer keys a (Some false)
text_answers keys (leaf.Key k) seen e is none = absurd (let no : Bool = true in cc)
text_answers keys (leaf.Equals k v) seen e is none = absurd (let no : Bool = true in cc)
text_answers keys (leaf.Compare k o n) seen e is none = absurd (let no : Bool = true in cc)
text_answers keys (leaf.Matches k p) seen e is none = absurd (let no : Bool = true in cc)
text_answers keys (leaf.Member k other) seen e is none = no_member (get keys k) (get keys other) (sym is.text ∙ none)

same_start : (x y : TextStart) → asks.Equals x ≡ asks.Equals y → x ≡ y
same_start x y e = cc

pub equals_answers : (keys : Keys) (a : Leaf) (seen : Seen) (start : TextStart) (answer : Option Bool)
    → asks.Equals start ≡ asks_of a → IsBytes (text_of a) → IsSeen (get keys (key_of a)) seen
    → ((value : Option (List ℕ)) (text : List ℕ) → seen.start ≡ option_map start_of value → start ≡ start_of text
    → IfSome value IsBytes → IsBytes text → IfSome answer (λ same. same ≡ is_spelled value text))
    → IsAnswer keys a answer
equals_answers keys (leaf.Key k) seen start answer e bytes is h = absurd (let no : Bool = true in cc)
equals_answers keys (leaf.Equals k v) seen start answer e bytes is h =
    by_answer answer (h (spelled (get keys k)) v is.start (same_start start (start_of v) e) is.bytes bytes)
  where
    by_answer : (o : Option Bool) → IfSome o (λ same. same ≡ is_spelled (spelled (get keys k)) v)
        → IfSome o (λ holds. holds ≡ equals_holds (get keys k) v)
    by_answer None t = t
    by_answer (Some b) t = t ∙ spelled_same (get keys k) v
equals_answers keys (leaf.Compare k o n) seen start answer e bytes is h = absurd (let no : Bool = true in cc)
equals_answers keys (leaf.Matches k p) seen start answer e bytes is h = absurd (let no : Bool = true in cc)
equals_answers keys (leaf.Member k other) seen start answer e bytes is h = absurd (let no : Bool = true in cc)

-- ---- starts of texts

pub not_spelled : (value : Option (List ℕ)) (text : List ℕ) → None ≡ option_map start_of value
    → false ≡ is_spelled value text
not_spelled None text e = refl
not_spelled (Some its) text e = absurd (let no : Bool = true in cc)

pub other_start : (value : Option (List ℕ)) (text : List ℕ) (its start : TextStart)
    → Some its ≡ option_map start_of value → start ≡ start_of text → its ≢ start → false ≡ is_spelled value text
other_start None text its start e s apart = absurd (let no : Bool = true in cc)
other_start (Some t) text its start e s apart =
    let same : its ≡ start_of t = cc in
    sym (false_from_ne_true _ (λ h. apart (same ∙ ap start_of ((bytes_eq-Decides t text).0 h) ∙ sym s)))

pub exact_start : (value : Option (List ℕ)) (text : List ℕ) (its start : TextStart)
    → Some its ≡ option_map start_of value → start ≡ start_of text → its ≡ start → start.length ≤ 8
    → IfSome value IsBytes → IsBytes text → true ≡ is_spelled value text
exact_start None text its start e s is few vb tb = absurd (let no : Bool = true in cc)
exact_start (Some t) text its start e s is few vb tb =
    let same : its ≡ start_of t = cc in
    sym ((bytes_eq-Decides t text).1 (sym (start_exact text t tb vb
    (subst (λ (x : TextStart). x.length ≤ 8) s few) (sym s ∙ sym is ∙ same))))

-- ---- sights

-- no key of the hash is seen
pub nothing_answers : (keys : Keys) (a : Leaf) (p : Probe) (sights : List Sight) → p ≡ probe_of a
    → TellsSeen keys sights → slice_get sights p.key.hash ≡ Some sight.Nothing → IsAnswer keys a (Some false)
nothing_answers keys a p sights e told is =
    absent_fails keys a (told.each p.key.hash sight.Nothing is (key_of a) tt
    (sym (ap (λ (q : Probe). q.key.hash) e ∙ hash_in_fingerprint (key_of a))))

-- the key is seen
pub key_seen : (keys : Keys) (a : Leaf) (p : Probe) (sights : List Sight) (s : SeenKey) → p ≡ probe_of a
    → IsBytes (key_of a) → TellsSeen keys sights → slice_get sights p.key.hash ≡ Some (sight.Key s) → p.key ≡ s.key
    → IsSeen (get keys (key_of a)) s.seen
key_seen keys a p sights s e bytes told is same =
    told.each p.key.hash (sight.Key s) is (key_of a) tt
    (sym (ap (λ (q : Probe). q.key.hash) e ∙ hash_in_fingerprint (key_of a))) bytes
    (sym (ap (λ (q : Probe). q.key) e) ∙ same)
