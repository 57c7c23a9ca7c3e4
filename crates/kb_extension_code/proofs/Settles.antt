-- Live handlers are verified if their code is backed, and the native commands that they call are live.
use Rattle.std.proofs.Common.{◌≡◌, ◌∙◌, ◌⊎◌, inl, inr, ⊎_elim, ℕ, Bool, true, false, List, [], ◌∷◌}
use Rattle.std.proofs.Common.{Option, Some, None, refl, sym, ap, subst, arith}
use Rattle.std.specs.Prelude.{slice_get, option_map, option_and_then, not, ◌&&◌, if◌then◌else◌}
use Rattle.std.specs.FinMap as map
use Rattle.std.specs.List.{All}
use Rattle.kb_base.specs.ExtensionId.{same_id}
use Rattle.kb_code.specs.Commands.{Plain, declared_by}
use Rattle.kb_code.specs.Face.{declared_among}
use Rattle.kb_code.specs.Handler.{HandlerData, handler_named}
use Rattle.kb_code.specs.Reachable.{Calls}
use Rattle.kb_core.specs.Declaration.{Declaration}
use Rattle.kb_core.specs.Native.{named}
use Rattle.kb_core.specs.declared.native.Native.{Native}
use Rattle.kb_files.specs.declared.extension_file.Extension.{Extension}
use Rattle.kb_handler_table.specs.Apart.{AreApart}
use Rattle.kb_handler_table.specs.Codes.{CodesData, checked_in}
use Rattle.kb_handler_table.specs.Live.{Group, handlers_in, handlers_of, is_on}
use Rattle.kb_handler_table.proofs.Apart.{live_found, live_whole}
use Rattle.kb_registry.specs.Live.{Live, callee_by, is_live, table_of}
use Rattle.kb_soundness.specs.Sound.{AllVerified, live_declaration_at}
use Rattle.kb_soundness.specs.Sound as sound
use Rattle.kb_soundness.specs.Stays.{AllChecked, AreFree}
use Rattle.kb_soundness.proofs.Loads.{both_none}
use Rattle.kb_soundness.proofs.Stays.{coded_by, coded_live}
use Rattle.kb_soundness.proofs.Tests.{or_elim}
use Rattle.kb_verify.specs.Accepted.{IsAccepted, IsCallee}
use Rattle.kb_verify.specs.Callable.{Commands, declaration_at}
use Rattle.kb_verify.specs.Provider.{is_needed}
use Rattle.kb_verify.proofs.Calls.{none_undeclared}
use Rattle.kb_extension_code.specs.Dependencies.{disabled_of, is_disabled, missing_dependency}
use Rattle.kb_extension_code.specs.Settled.{AreBacked, AreMatched, AreNumbered, DependsOn, IsBacked, IsClosed, IsNative}
use Rattle.kb_extension_code.specs.Settled.{IsSettled}
use Rattle.kb_extension_code.proofs.Places.{all_at, backed_at, group_at, handlers_at, its_extension, its_verified}
use Rattle.kb_extension_code.proofs.Places.{live_owner, none_passes, on_is}

-- ---- dependencies

pub unmapped : {X Y : Type 0} (f : X → Y) (o : Option X) → option_map f o ≡ None → o ≡ None
unmapped f None e = refl
unmapped f (Some x) e = absurd (cc)

-- an extension with a name that none of those that aren't enabled has is enabled
enabled_by : (on same : Bool) → (not on && same) ≡ false → same ≡ true → on ≡ true
enabled_by true same e is = refl
enabled_by false same e is = absurd (cc)

-- if none of these dependencies is missing, each is enabled
pub dependency_enabled : (ids : List (List ℕ)) (es : List Extension) (place : ℕ) (d : Extension) →
    missing_dependency ids es ≡ None → slice_get es place ≡ Some d → is_needed d.manifest.id ids ≡ true →
    d.enabled ≡ true
dependency_enabled [] es place d none at is = absurd (cc)
dependency_enabled (id ∷ ids) es place d none at is =
    let parts = both_none (disabled_of id es) (missing_dependency ids es) none in
    ⊎_elim
    (λ same. enabled_by d.enabled (same_id d.manifest.id id)
    (none_passes (is_disabled id) es place d (unmapped (λ (e : Extension). e.manifest.id) _ parts.0) at) same)
    (λ later. dependency_enabled ids es place d parts.1 at later)
    (or_elim (same_id d.manifest.id id) (is_needed d.manifest.id ids) is)

-- ---- native commands

-- the native commands that a handler calls are live
abbrev pub CallsLive : Live → HandlerData → Type 0
CallsLive live h =
    (place index : ℕ) (name : List ℕ) (native : Native) → Calls h place index →
    slice_get h.calls index ≡ Some name → named name ≡ Some native → is_live native live ≡ true

-- the native commands that live handlers call are live
abbrev pub NativesLive : Live → Type 0
NativesLive live =
    (k : ℕ) (g : Group) → slice_get live.code k ≡ Some g → g.live ≡ true → (name : List ℕ) (h : HandlerData) →
    handler_named name g.codes.handlers ≡ Some h → CallsLive live h

plain_is : (b : Bool) (native : Native) (d : Declaration) →
    option_map declared_by (option_map Plain (if b then Some native else None)) ≡ Some d → b ≡ true
plain_is true native d e = refl
plain_is false native d e = absurd (cc)

-- a call of an accepted handler has a callee
pub called : (commands : Commands) (h : HandlerData) (place index : ℕ) → IsAccepted commands h →
    Calls h place index → (d : Declaration) × (declaration_at commands h index ≡ Some d)
called commands h place index accepted calls = by (declaration_at commands h index) refl
  where
    by : (o : Option Declaration) → declaration_at commands h index ≡ o →
        (d : Declaration) × (declaration_at commands h index ≡ Some d)
    by None none =
        absurd (none_undeclared commands h accepted.shapes place index calls.reached calls.at none)
    by (Some d) is = (d, is)

-- those that a verified handler calls are live
calls_live : (live : Live) (h : HandlerData) → sound.IsVerified (table_of live) h → CallsLive live h
calls_live live h v place index name native calls at is =
    let its = called v.commands h place index v.accepted calls in
    let declared = v.callees place index its.0 (record { calls = calls; declares = its.1 }) in
    plain_is (is_live native live) native its.0
    (sym (ap (λ o. option_map declared_by (callee_by o name live)) is)
    ∙ sym (ap (λ o. option_map declared_by (option_and_then (table_of live) o)) at) ∙ declared)

-- a name of a handler isn't a native's
pub not_native : (gs : List Group) (name : List ℕ) (h : HandlerData) → AreFree gs →
    handler_named name (handlers_in gs) ≡ Some h → named name ≡ None
not_native gs name h free found = by (named name) refl
  where
    by : (o : Option Native) → named name ≡ o → named name ≡ None
    by None e = e
    by (Some native) e = let none = free name native e in absurd (cc)

pub natives_live : (es : List Extension) (live : Live) → IsSettled es live → NativesLive live
natives_live es live settled k g at on name h found =
    let apart = settled.sound.apart in
    let its = its_extension es live.code k g settled.matched at in
    let is_on = on_is es live.code k its.0 settled.numbered settled.matched its.1 ∙ sym its.2 ∙ on in
    let whole = live_whole k live.code name h apart is_on
    (ap (handler_named name) (handlers_at es live.code k g settled.numbered settled.matched at) ∙ found) in
    let free = not_native live.code name h settled.sound.free (live_found live.code name h apart whole) in
    calls_live live h (settled.sound.verified name h (coded_live name live h free whole))

-- ---- live handlers

-- what is known of a session before its live handlers are verified
pub record IsBase (es : List Extension) (live : Live) : Type 0 where
  pub apart : AreApart (handlers_in live.code)
  pub free : AreFree live.code
  pub numbered : AreNumbered 0 es
  pub matched : AreMatched es live.code
  pub closed : All (IsClosed es) es
  pub backed : AreBacked es live.code live.code

-- code that is backed is verified
all_checked : (es : List Extension) (code gs : List Group) → AreBacked es code gs → AllChecked gs
all_checked es code [] backed = tt
all_checked es code (g ∷ gs) backed =
    (subst (λ (c : CodesData). checked_in c ≡ c.handlers) (sym backed.0.are) refl, all_checked es code gs backed.1)

module _ (es : List Extension) (live : Live) (base : IsBase es live) where
  -- the extension itself is on, and so is each one that it depends on
  owner_on : (k : ℕ) (e : Extension) → slice_get es k ≡ Some e → e.enabled ≡ true → (owner : ℕ) →
      (owner ≡ k) ⊎ DependsOn es k owner → is_on owner live.code ≡ true
  owner_on k e at on owner (inl same) =
      subst (λ n. is_on n live.code ≡ true) (sym same) (on_is es live.code k e base.numbered base.matched at ∙ on)
  owner_on k e at on owner (inr depends) =
      let its : depends.extension ≡ e = cc (depends.at, at) in
      let enabled = dependency_enabled e.manifest.dependencies es owner depends.dependency
      (all_at (IsClosed es) es k e base.closed at on) depends.there
      (subst (λ (x : Extension). is_needed depends.dependency.manifest.id x.manifest.dependencies ≡ true) its
      depends.needed) in
      on_is es live.code owner depends.dependency base.numbered base.matched depends.there ∙ enabled

  -- what a handler of an extension that is on declares is live
  declared_on : (owner : ℕ) (name : List ℕ) (d : Declaration) → is_on owner live.code ≡ true →
      declared_among (handlers_of owner live.code) name ≡ Some d →
      option_map declared_by (table_of live name) ≡ Some d
  declared_on owner name d on is = by (handler_named name (handlers_of owner live.code)) refl is
    where
      by : (o : Option HandlerData) → handler_named name (handlers_of owner live.code) ≡ o →
          option_map (λ (h : HandlerData). h.signature) o ≡ Some d →
          option_map declared_by (table_of live name) ≡ Some d
      by None found e = absurd (cc)
      by (Some h) found e =
          let whole = live_whole owner live.code name h base.apart on found in
          ap (option_map declared_by)
          (coded_live name live h
          (not_native live.code name h base.free (live_found live.code name h base.apart whole)) whole)
          ∙ e

  -- so is a live native command
  declared_native : (name : List ℕ) (d : Declaration) (its : IsNative name d) → is_live its.native live ≡ true →
      option_map declared_by (table_of live name) ≡ Some d
  declared_native name d its is =
      ap (λ o. option_map declared_by (callee_by o name live)) its.is_named
      ∙ ap (λ b. option_map declared_by (option_map Plain (if b then Some its.native else None))) is
      ∙ ap Some (sym its.declares)

  -- a handler of a live group is verified
  group_verified : NativesLive live → (k : ℕ) (g : Group) → slice_get live.code k ≡ Some g → g.live ≡ true →
      (name : List ℕ) (h : HandlerData) → handler_named name g.codes.handlers ≡ Some h →
      sound.IsVerified (table_of live) h
  group_verified natives k g at on name h found =
      let backed = backed_at es live.code live.code k g base.backed at in
      let v = its_verified backed.commands backed.verified name h backed.each
      (ap (λ (c : CodesData). handler_named name c.handlers) (sym backed.are) ∙ found) in
      record {
        commands = backed.commands;
        accepted = subst (IsAccepted backed.commands) v.1 v.2.accepted;
        callees = λ place index d is.
            by backed place index d is (slice_get h.calls index) refl is.declares;
      }
    where
      by : (backed : IsBacked es g.extension live.code g.codes) (place index : ℕ) (d : Declaration) →
          IsCallee backed.commands h place index d → (o : Option (List ℕ)) → slice_get h.calls index ≡ o →
          option_and_then (map.get backed.commands) o ≡ Some d → live_declaration_at (table_of live) h index ≡ Some d
      by backed place index d is None none e = absurd (cc)
      by backed place index d is (Some name) its e =
          let of = its_extension es live.code k g base.matched at in
          let number = (group_at 0 es live.code k k g base.numbered base.matched at (omega arith)).0 in
          ap (λ o. option_map declared_by (option_and_then (table_of live) o)) its
          ∙ ⊎_elim
          (λ plain. declared_native name d plain
          (natives k g at on _ h found place index name plain.native is.calls its plain.is_named))
          (λ near. declared_on near.owner name d
          (owner_on k of.0 of.1 (sym of.2 ∙ on) near.owner
          (subst (λ n. (near.owner ≡ n) ⊎ DependsOn es n near.owner) number near.near)) near.declares)
          (backed.comes name d e)

  pub settles : NativesLive live → IsSettled es live
  settles natives = record {
    sound = record {
      checked = all_checked es live.code live.code base.backed;
      apart = base.apart;
      free = base.free;
      verified = λ name h e.
          let owner = live_owner name live.code h (coded_by (named name) name live h e).1 in
          group_verified natives owner.0 owner.1 owner.2 owner.3 name h owner.4;
    };
    numbered = base.numbered;
    matched = base.matched;
    closed = base.closed;
    backed = base.backed;
  }
