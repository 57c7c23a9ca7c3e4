-- What follows where no fault stands against a registration or its end.
use Rattle.std.proofs.Common.{◌≡◌, ◌<◌, ◌≤◌, ℕ, Bool, true, false, cond, Option, Some, None, is_some, nat_eq, refl}
use Rattle.std.proofs.Common.{arith}
use Rattle.std.proofs.lemmas.Bool.Decides.{Decides-eqb}
use Rattle.kb_core.specs.declared.native.Native.{Native}
use Rattle.kb_registry.specs.declared.fault.RegistryFault.TheVariants.{AlreadyExists, Exhausted}
use Rattle.kb_registry.specs.Live.{Live, is_live, registration_fault, holder, disposal_fault, disposal_fault_of}
use Rattle.kb_registry.proofs.Tickets.{holder_lasts}

none_of : (taken full : Bool)
    → cond taken (Some AlreadyExists) (cond full (Some Exhausted) None) ≡ None
    → (taken ≡ false) × (full ≡ false)
none_of true full e = cc
none_of false true e = cc
none_of false false e = (refl, refl)

-- no closure is registered for the native yet
pub is_free : (native : Native) (live : Live) → registration_fault native live ≡ None
    → is_live native live ≡ false
is_free native live e = (none_of (is_live native live) (nat_eq live.made live.limit) e).0

-- and the limit isn't reached
pub has_room : (native : Native) (live : Live) → registration_fault native live ≡ None
    → live.made ≤ live.limit → live.made < live.limit
has_room native live e within =
    let full = (none_of (is_live native live) (nat_eq live.made live.limit) e).1 in
    let apart : live.made ≡ live.limit → ⊥ = λ same.
    let is : nat_eq live.made live.limit ≡ true = (Decides-eqb live.made live.limit).1 same in cc in
    omega arith

-- a registration that may be ended has a holder
pub is_held : (ticket : ℕ) (live : Live) → disposal_fault ticket live ≡ None
    → is_some (holder ticket live) ≡ true
is_held ticket live = by (holder ticket live)
  where
    by : (held : Option Native) → disposal_fault_of held live ≡ None → is_some held ≡ true
    by None e = cc
    by (Some native) e = refl

pub ruleset registering = (holder_lasts, is_free, has_room)
