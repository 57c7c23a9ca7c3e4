-- Loads of the same files with closures for the same native commands.
use Rattle.std.proofs.Common.{◌≡◌, ◌⊎◌, inl, inr, List, [], ◌∷◌, ℕ, ◌+◌, refl, sym, ap, subst, ◌∙◌, map}
use Rattle.std.specs.Prelude.{Result, Ok, Err}
use Rattle.kb_base.specs.declared.failure.Failure.{Failure}
use Rattle.kb_bindings.specs.Load as load
use Rattle.kb_files.specs.Inputs.{Files}
use Rattle.kb_bindings.specs.declared.load.Loaded.{Loaded}
use Rattle.kb_code.specs.Handler.{HandlerData}
use Rattle.kb_core.specs.declared.native.Native.{Native}
use Rattle.kb_end_to_end.specs.Alike.{LoadsAlike, RawLoadsAlike}
use Rattle.kb_files.specs.declared.extension_file.Extension.{Extension}
use Rattle.kb_files.specs.declared.fault.LoadFault.{LoadFault}
use Rattle.kb_handler_table.specs.Codes.{checked}
use Rattle.kb_extension_code.proofs.UpdatingLemmas.{verified_are}
use Rattle.kb_extension_code.specs.Callable.{callable_of}
use Rattle.kb_extension_code.specs.Updating.{with_callees}
use Rattle.kb_extension_code.specs.Checked.{Admits, AreVerified, JoinAll, LiveChecked}
use Rattle.kb_extension_code.specs.Natives.{natives_held}
use Rattle.kb_registry.specs.Live.{Live, with_code}
use Rattle.kb_session.specs.Session.{IsOf, Seen, loaded_raw, loaded_session, marks_by}
use Rattle.kb_verify.specs.Accepted.{CheckedHandler}
use Rattle.kb_base.specs.declared.note.EntryPattern.{EntryPattern}

-- (a name for `Ok` whose type of faults can be given)
abbrev good : {A E : Type 0} → A → Result A E
good x = Ok x

same_ok : {A E : Type 0} (one other : A) → good {E = E} one ≡ good other → one ≡ other
same_ok one other e = cc

module _ (extensions : List Extension) (number : ℕ) (handlers : List HandlerData) (live : Live) where
  verified_alike : (one other : List CheckedHandler)
      → AreVerified extensions number handlers live one → AreVerified extensions number handlers live other
      → one ≡ other
  verified_alike one other p q =
      let commands = callable_of extensions number handlers live in
      verified_are commands one p.each
      ∙ ap (map (with_callees commands)) (p.same ∙ sym q.same)
      ∙ sym (verified_are commands other q.each)

  admits_alike : (one other : Live) → Admits extensions number handlers live one
      → Admits extensions number handlers live other → one ≡ other
  admits_alike one other p q =
      p.then
      ∙ ap (λ (verified : List CheckedHandler). with_code number (checked verified) live)
      (verified_alike p.verified q.verified p.are q.are)
      ∙ sym q.then

joins_alike : (extensions : List Extension) (number : ℕ) (handlers : List (List HandlerData)) (live one other : Live)
    → JoinAll extensions number handlers live (Ok one) → JoinAll extensions number handlers live (Ok other)
    → one ≡ other
joins_alike extensions number [] live one other p q = same_ok one other (p ∙ sym q)
joins_alike extensions number (h ∷ rest) live one other (inl stops) q =
    absurd (let differ : good {E = Failure LoadFault} one ≡ Err stops.failure = stops.is in cc)
joins_alike extensions number (h ∷ rest) live one other (inr first) (inl stops) =
    absurd (let differ : good {E = Failure LoadFault} other ≡ Err stops.failure = stops.is in cc)
joins_alike extensions number (h ∷ rest) live one other (inr first) (inr second) =
    let same : second.next ≡ first.next =
    admits_alike extensions number h live second.next first.next second.admits first.admits in
    joins_alike extensions (number + 1) rest first.next one other first.rest
    (subst (λ (next : Live). JoinAll extensions (number + 1) rest next (Ok other)) same second.rest)

live_alike : (natives : List Native) (extensions : List Extension) (handlers : List (List HandlerData))
    (one other : Live) → LiveChecked natives extensions handlers (Ok one)
    → LiveChecked natives extensions handlers (Ok other) → one ≡ other
live_alike natives extensions handlers one other (inl none) q = absurd none
live_alike natives extensions handlers one other (inr p) (inl none) = absurd none
live_alike natives extensions handlers one other (inr p) (inr q) =
    let same : q.live ≡ p.live = same_ok q.live p.live (sym q.held ∙ p.held) in
    joins_alike extensions 0 handlers p.live one other p.join
    (subst (λ (live : Live). JoinAll extensions 0 handlers live (Ok other)) same q.join)

pub loads_alike : LoadsAlike
loads_alike files natives one other marks p q =
    let loaded : p.loaded ≡ q.loaded =
    same_ok p.loaded q.loaded
    (sym p.held ∙ ap (λ (m : List EntryPattern). load.loaded m files) marks ∙ q.held) in
    let live : one.state.live ≡ other.state.live =
    live_alike natives p.loaded.bindings.extensions p.loaded.handlers one.state.live other.state.live p.live
    (subst (λ (l : Loaded). LiveChecked natives l.bindings.extensions l.handlers (Ok other.state.live))
    (sym loaded) q.live) in
    p.is
    ∙ ap (λ (l : Loaded). loaded_session l.scopes.seen l.bindings one.state.live) loaded
    ∙ ap (λ (l : Live). loaded_session q.loaded.scopes.seen q.loaded.bindings l) live
    ∙ sym q.is

pub raw_loads_alike : RawLoadsAlike
raw_loads_alike files natives one other marks p q =
    same_ok one other (sym p ∙ ap (λ (m : List EntryPattern). loaded_raw m files natives) marks ∙ q)
