-- The messages in a stream, by what its reader holds: the bytes that came and that it hasn't used.
use Rattle.std.specs.Prelude.{ℕ, ◌+◌, ◌-◌, ◌<◌, ◌≤◌, ◌≡◌, ⊤, nat_lt, nat_le, min, if◌then◌else◌, List}
use Rattle.std.specs.Prelude.{length, take, drop, Option, Some, None, Result, Ok, Err}
use Rattle.kb_messages.specs.declared.fault.FrameFault.{FrameFault}
use Rattle.kb_messages.specs.declared.fault.FrameFault.TheVariants.{LongHeader}
use Rattle.kb_messages.specs.declared.front.Front.{Front}
use Rattle.kb_messages.specs.declared.front.Front.TheVariants.{Wait, Body, Lost}
use Rattle.kb_messages.specs.declared.incoming.Received.{Received}
use Rattle.kb_messages.specs.declared.incoming.Received.TheVariants.{Message, Fault}
use Rattle.kb_messages.specs.Header.{header_len, body_len}

-- where a body ends that begins behind a header, if all of it is held
abbrev pub framed : ℕ → ℕ → Result ℕ FrameFault → Front
framed held begin (Err fault) = Lost fault begin
framed held begin (Ok n) = if nat_le (begin + n) held then Body begin (begin + n) else Wait

-- What stands at the front, by the index of the first blank line. One has to begin in the first 8,192 bytes.
-- Where none does, half of these are dropped, so that no header is cut that begins among them.
abbrev pub front_by : List ℕ → ℕ → Front
front_by held end =
    if nat_lt end (min (length held) 8195) then framed (length held) (end + 4) (body_len (take end held))
    else if nat_lt (length held) 8195 then Wait
    else Lost LongHeader 4096

abbrev pub front_of : List ℕ → Front
front_of held = front_by held (header_len (take 8195 held))

-- what is received, and what is held then
pub record Taken : Type 0 where
  pub received : Option Received
  pub held : List ℕ

abbrev pub taken_by : Front → List ℕ → Taken
taken_by Wait held = record { received = None; held = held }
taken_by (Body from to) held =
    record { received = Some (Message (take (to - from) (drop from held))); held = drop to held }
taken_by (Lost fault to) held = record { received = Some (Fault fault); held = drop to held }

abbrev pub taken : List ℕ → Taken
taken held = taken_by (front_of held) held

-- the indices are in order, and something is used
abbrev pub IsWithin : ℕ → Front → Type 0
IsWithin held Wait = ⊤
IsWithin held (Body from to) = (from ≤ to) × (to ≤ held) × (0 < to)
IsWithin held (Lost fault to) = (to ≤ held) × (0 < to)

-- a message is at the front
abbrev pub IsMessage : List ℕ → Type 0
IsMessage held = (from to : ℕ) × (front_of held ≡ Body from to)
