-- What the focus sees of context keys, at hand: a list with one sight for each hash of a key.
use Rattle.std.specs.Prelude.{◌≡◌, ◌≢◌, ℕ, ℤ, pos, negsuc, Bool, true, false, not, nat_eq, List, length}
use Rattle.std.specs.Prelude.{Option, Some, None, IfSome, option_map, slice_get}
use Rattle.std.specs.Fmt.{signed_decimal}
use Rattle.std.specs.FinMap.{get}
use Rattle.kb_base.specs.Fingerprint.{IsBytes, fingerprint_of, start_of}
use Rattle.kb_base.specs.HashedText.{hash_of}
use Rattle.kb_context.specs.Scopes.{Keys}
use Rattle.kb_context.specs.declared.sight.Seen.{Seen}
use Rattle.kb_context.specs.declared.sight.Sight.{Sight}
use Rattle.kb_context.specs.declared.sight.Sight.TheVariants.{Nothing, Unknown, Key}
use Rattle.kb_context.specs.declared.value.ContextValue.{ContextValue}
use Rattle.kb_context.specs.declared.value.ContextValue.TheVariants.{Truth, Number, Text, Texts, Names}

abbrev pub is_zero : ℤ → Bool
is_zero (pos n) = nat_eq n 0
is_zero (negsuc n) = false

-- the value is not absent, false, 0 or the empty text
abbrev pub holds_alone : Option ContextValue → Bool
holds_alone None = false
holds_alone (Some (Truth b)) = b
holds_alone (Some (Number n)) = not (is_zero n)
holds_alone (Some (Text text)) = not (nat_eq (length text) 0)
holds_alone (Some (Texts texts)) = true
holds_alone (Some (Names names)) = true

-- the text that the value equals: its own, or the decimal form of a number
abbrev pub spelled : Option ContextValue → Option (List ℕ)
spelled (Some (Text text)) = Some text
spelled (Some (Number n)) = Some (signed_decimal n)
spelled _ = None

abbrev pub is_text : Option ContextValue → Bool
is_text (Some (Text text)) = true
is_text _ = false

-- what is seen is this value, and the text that it equals is made of bytes
pub record IsSeen (value : Option ContextValue) (seen : Seen) : Type 0 where
  pub start : seen.start ≡ option_map start_of (spelled value)
  pub holds : seen.holds ≡ holds_alone value
  pub text : seen.is_text ≡ is_text value
  pub bytes : IfSome (spelled value) IsBytes

abbrev pub AnyKey : List ℕ → Type 0
AnyKey key = Unit {0}

abbrev pub AnyBut : List ℕ → List ℕ → Type 0
AnyBut key other = other ≢ key

-- What a sight says of the keys of a hash, as far as these are among certain ones: that none has a value, or
-- what the value of one with certain numbers is.
abbrev pub Tells : (List ℕ → Type 0) → Keys → ℕ → Sight → Type 0
Tells Among keys hash Nothing = (key : List ℕ) → Among key → hash_of key ≡ hash → get keys key ≡ None
Tells Among keys hash Unknown = Unit {0}
Tells Among keys hash (Key s) = (key : List ℕ) → Among key → hash_of key ≡ hash → IsBytes key
    → fingerprint_of key ≡ s.key → IsSeen (get keys key) s.seen

-- each sight tells what is seen of the keys of its hash
pub record TellsSeen (keys : Keys) (sights : List Sight) : Type 0 where
  pub room : length sights ≡ 1024
  pub each : (hash : ℕ) (s : Sight) → slice_get sights hash ≡ Some s → Tells AnyKey keys hash s

-- the same of each key but this one
pub record TellsSeenBut (keys : Keys) (sights : List Sight) (key : List ℕ) : Type 0 where
  pub room : length sights ≡ 1024
  pub each : (hash : ℕ) (s : Sight) → slice_get sights hash ≡ Some s → Tells (AnyBut key) keys hash s
