-- What an atom asks of its key, in numbers.
use Rattle.std.specs.Prelude.{◌≡◌, ℕ, Bool, false, List, [], Option, Some, None, IfSome}
use Rattle.std.specs.Str.{bytes_eq}
use Rattle.kb_base.specs.Fingerprint.{fingerprint_of, start_of}
use Rattle.kb_context.specs.Scopes.{Keys}
use Rattle.kb_when.specs.Leaf.{marked_of_leaf}
use Rattle.kb_when.specs.Marked.{marked_value}
use Rattle.kb_when.specs.declared.leaf.Leaf.{Leaf}
use Rattle.kb_when.specs.declared.leaf.Leaf.TheVariants as leaf
use Rattle.kb_when.specs.declared.probe.Asks.{Asks}
use Rattle.kb_when.specs.declared.probe.Asks.TheVariants as asks
use Rattle.kb_when.specs.declared.probe.Probe.{Probe}

-- the key whose value an atom asks first
abbrev pub key_of : Leaf → List ℕ
key_of (leaf.Key k) = k
key_of (leaf.Equals k v) = k
key_of (leaf.Compare k o n) = k
key_of (leaf.Matches k p) = k
key_of (leaf.Member k other) = k

-- the text with which it compares the value
abbrev pub text_of : Leaf → List ℕ
text_of (leaf.Key k) = []
text_of (leaf.Equals k v) = v
text_of (leaf.Compare k o n) = []
text_of (leaf.Matches k p) = []
text_of (leaf.Member k other) = []

abbrev pub asks_of : Leaf → Asks
asks_of (leaf.Key k) = asks.Holds
asks_of (leaf.Equals k v) = asks.Equals (start_of v)
asks_of (leaf.Compare k o n) = asks.Other
asks_of (leaf.Matches k p) = asks.Other
asks_of (leaf.Member k other) = asks.Text

abbrev pub probe_of : Leaf → Probe
probe_of a = record { key = fingerprint_of (key_of a); asks = asks_of a }

-- the text is the value's
abbrev pub is_spelled : Option (List ℕ) → List ℕ → Bool
is_spelled None text = false
is_spelled (Some its) text = bytes_eq its text

-- an answer says nothing, or whether the atom holds
abbrev pub IsAnswer : Keys → Leaf → Option Bool → Type 0
IsAnswer keys a answer = IfSome answer (λ holds. holds ≡ marked_value keys (marked_of_leaf a))
