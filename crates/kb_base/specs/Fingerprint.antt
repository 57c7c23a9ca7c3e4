-- The numbers of a text: its hash, its length and its first bytes.
use Rattle.std.specs.Prelude.{ℕ, ◌-◌, ◌^◌, ◌<◌, min, List, length, take, drop, slice_index}
use Rattle.std.specs.Int.Digits.{number_from_digits}
use Rattle.kb_base.specs.HashedText.{hash_of}
use Rattle.kb_base.specs.declared.fingerprint.Fingerprint.{Fingerprint}
use Rattle.kb_base.specs.declared.fingerprint.TextStart.{TextStart}

-- each is a byte
abbrev pub IsBytes : List ℕ → Type 0
IsBytes bytes = (i : ℕ) → slice_index bytes i < 256

-- a number of 32 bits, or the largest one in place of a larger number
abbrev pub narrowed : ℕ → ℕ
narrowed n = min n (2 ^ 32 - 1)

-- the first eight bytes as a number in base 256
abbrev pub word_of : List ℕ → ℕ
word_of bytes = number_from_digits 256 (take 8 bytes)

-- its hash, its length and its first four words
unfoldable pub fingerprint_of : List ℕ → Fingerprint
fingerprint_of text = record {
  hash = hash_of text;
  length = narrowed (length text);
  first = word_of text;
  second = word_of (drop 8 text);
  third = word_of (drop 8 (drop 8 text));
  fourth = word_of (drop 8 (drop 8 (drop 8 text)));
}

-- its first word and its length
unfoldable pub start_of : List ℕ → TextStart
start_of text = record { word = word_of text; length = narrowed (length text) }
