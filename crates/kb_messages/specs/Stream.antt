-- All messages of a stream.
use Rattle.std.specs.Prelude.{◌≤◌, ℕ, zero, suc, List, [], ◌∷◌, ◌++◌, All, flat_map, map, length}
use Rattle.std.specs.Prelude.{Option, Some, None}
use Rattle.kb_messages.specs.declared.incoming.Received.{Received}
use Rattle.kb_messages.specs.declared.incoming.Received.TheVariants.{Message}
use Rattle.kb_messages.specs.Reading.{taken}
use Rattle.kb_messages.specs.Frame.{frame}

-- what is received, in order, and what is held then
pub record Stream : Type 0 where
  pub received : List Received
  pub held : List ℕ

abbrev pub goes_on : (List ℕ → Stream) → Option Received → List ℕ → Stream
goes_on rest None held = record { received = []; held = held }
goes_on rest (Some first) held = record { received = first ∷ (rest held).received; held = (rest held).held }

-- what is taken n times, or until nothing is there to take
unfoldable pub taken_times : ℕ → List ℕ → Stream
taken_times zero held = record { received = []; held = held }
taken_times (suc n) held = goes_on (taken_times n) (taken held).received (taken held).held

-- all that can be taken: each time a byte is used at least
abbrev pub taken_all : List ℕ → Stream
taken_all held = taken_times (length held) held

abbrev pub joined : Stream → Stream → Stream
joined first rest = record { received = first.received ++ rest.received; held = rest.held }

-- what is received of pieces, behind what is held
abbrev pub received_of : List ℕ → List (List ℕ) → Stream
received_of held [] = record { received = []; held = held }
received_of held (piece ∷ pieces) =
    joined (taken_all (held ++ piece)) (received_of (taken_all (held ++ piece)).held pieces)

-- the bytes of pieces
abbrev pub bytes_of : List (List ℕ) → List ℕ
bytes_of pieces = flat_map (λ piece. piece) pieces

-- the bytes of messages with these bodies
abbrev pub frames : List (List ℕ) → List ℕ
frames bodies = flat_map frame bodies

abbrev pub AreShort : List (List ℕ) → Type 0
AreShort bodies = All (λ body. length body ≤ 16777216) bodies

-- all these messages, and nothing else
abbrev pub messages : List (List ℕ) → Stream
messages bodies = record { received = map Message bodies; held = [] }
