-- A native that is the live command of its identifier has a registered closure.
use Rattle.std.proofs.Common.{◌≡◌, Bool, true, false, List, ℕ, Option, Some, None, refl, ap, sym, subst}
use Rattle.std.proofs.Common.{is_some}
use Rattle.std.proofs.Common.{true≢false, option_map, cond}
use Rattle.kb_core.specs.declared.native.Native.{Native}
use Rattle.kb_core.specs.Native.{named}
use Rattle.kb_code.specs.Handler.{HandlerData, handler_named}
use Rattle.kb_code.specs.Commands.{Callee, Plain, Coded, IsLive}
use Rattle.kb_handler_table.specs.Live.{live_in}
use Rattle.kb_registry.specs.Live.{Live, is_live, callee_by, table_of}

-- the native of a callee
native_in : Native → Option Callee → Native
native_in native (Some (Plain n)) = n
native_in native _ = native

is_plain : Option Callee → Bool
is_plain (Some (Plain n)) = true
is_plain _ = false

no_handler : (o : Option HandlerData) (native : Native) → option_map Coded o ≡ Some (Plain native) → ⊥
unfolding is_plain
no_handler None native e = true≢false (sym (ap is_some e))
no_handler (Some h) native e = true≢false (sym (ap is_plain e))

closure_by : (live : Live) (n native : Native) (b : Bool) → is_live n live ≡ b
    → option_map Plain (cond b (Some n) None) ≡ Some (Plain native) → is_live native live ≡ true
unfolding native_in
closure_by live n native true is e = subst (λ m. is_live m live ≡ true) (ap (native_in n) e) is
closure_by live n native false is e = absurd (true≢false (sym (ap is_some e)))

live_by : (live : Live) (name : List ℕ) (o : Option Native) (native : Native)
    → callee_by o name live ≡ Some (Plain native) → is_live native live ≡ true
live_by live name None native e = absurd (no_handler (handler_named name (live_in live.code)) native e)
live_by live name (Some n) native e = closure_by live n native (is_live n live) refl e

pub live_where_called : (live : Live) (native : Native) → IsLive (table_of live) native → is_live native live ≡ true
live_where_called live native called = live_by live called.0 (named called.0) native called.1
