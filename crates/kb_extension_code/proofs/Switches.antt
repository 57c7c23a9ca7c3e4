-- Extensions that are enabled or disabled keep a session settled.
use Rattle.std.proofs.Common.{◌≡◌, ◌∙◌, inl, inr, ⊎_elim, ℕ, zero, suc, Bool, true, false, cond, List}
use Rattle.std.proofs.Common.{[], ◌∷◌, Option, Some, None, refl, sym, ap, subst, arith, find, nat_eq, bytes_eq, map}
use Rattle.std.specs.Prelude.{slice_get, option_map, option_and_then, ◌&&◌, if◌then◌else◌}
use Rattle.std.specs.List.{All}
use Rattle.std.specs.Option.{option_map_or, option_or}
use Rattle.kb_base.specs.ExtensionId.{same_id}
use Rattle.std.proofs.lemmas.Bool.{false≢true}
use Rattle.std.proofs.lemmas.List.Elements.{All-head, All-tail}
use Rattle.kb_base.specs.declared.fault.FaultKind.TheVariants.{CalleeNotLive, NeedsDependency, NeededBy}
use Rattle.kb_code.specs.Face.{declared_among}
use Rattle.kb_code.specs.Handler.{HandlerData, handler_named}
use Rattle.kb_core.specs.Declaration.{Declaration}
use Rattle.kb_files.specs.Enabled.{switched_at}
use Rattle.kb_files.specs.declared.extension_file.Extension.{Extension}
use Rattle.kb_handler_table.specs.Codes.{CodesData}
use Rattle.kb_handler_table.specs.Live.{Group, found_group, handlers_of, switched}
use Rattle.kb_handler_table.proofs.Apart.{switch_stays, switched_all}
use Rattle.kb_extension_code.specs.Verified.{IsVerified}
use Rattle.kb_registry.specs.Live.{Live, with_switched}
use Rattle.kb_registry.specs.Missing.{has_closure, missing_from, missing_in, missing_native, native_missing}
use Rattle.kb_registry.specs.Missing.{native_there, unless_there}
use Rattle.kb_soundness.proofs.Loads.{both_none}
use Rattle.kb_soundness.proofs.Tests.{or_false}
use Rattle.kb_verify.proofs.Listed as verifier
use Rattle.kb_verify.specs.Accepted.{CheckedHandler}
use Rattle.kb_verify.specs.Callable.{Commands}
use Rattle.kb_verify.specs.Provider.{is_needed}
use Rattle.kb_verify.specs.declared.callees.Callee.{Callee}
use Rattle.kb_extension_code.specs.Dependencies.{dependent_on, disabled_of, is_disabled, missing_dependency, needs}
use Rattle.kb_extension_code.specs.Settled.{DependsOn, IsBacked, IsClosed, IsNear, IsSettled}
use Rattle.kb_extension_code.specs.Stays.{DisabledStaysSettled, EnabledStaysSettled}
use Rattle.kb_extension_code.specs.Switching.{disable_refusal, enable_refusal, refused_with}
use Rattle.kb_extension_code.proofs.Places.{all_at, all_from, backed_at, backed_from, changed_was, group_at, its_extension}
use Rattle.kb_extension_code.proofs.Places.{none_from, none_passes, number_at, switched_matched, switched_numbered}
use Rattle.kb_extension_code.proofs.Places.{switched_stays, switched_was, turned}
use Rattle.kb_extension_code.proofs.Settles.{CallsLive, IsBase, NativesLive, called, dependency_enabled, natives_live}
use Rattle.kb_extension_code.proofs.Settles.{settles, unmapped}

-- ---- handlers of an extension

-- a switch changes no extension's handlers
handlers_switched : (owner n : ℕ) (on : Bool) (gs : List Group) →
    handlers_of owner (switched n on gs) ≡ handlers_of owner gs
handlers_switched owner n on [] = refl
handlers_switched owner n on (g ∷ gs) =
    by (nat_eq g.extension n) (handlers_switched owner n on gs)
  where
    head : (b : Bool) →
        option_map_or (λ (c : CodesData). c.handlers) (option_map (λ (g : Group). g.codes)
        (cond b (Some (let x : Group = record g { live = on } in x)) (found_group owner gs))) []
        ≡ option_map_or (λ (c : CodesData). c.handlers) (option_map (λ (g : Group). g.codes)
        (cond b (Some g) (found_group owner gs))) []
    head true = refl
    head false = refl

    later : (b : Bool) → handlers_of owner (switched n on gs) ≡ handlers_of owner gs →
        option_map_or (λ (c : CodesData). c.handlers) (option_map (λ (g : Group). g.codes)
        (cond b (Some g) (found_group owner (switched n on gs)))) []
        ≡ option_map_or (λ (c : CodesData). c.handlers) (option_map (λ (g : Group). g.codes)
        (cond b (Some g) (found_group owner gs))) []
    later true rest = refl
    later false rest = rest

    by : (b : Bool) → handlers_of owner (switched n on gs) ≡ handlers_of owner gs →
        handlers_of owner (cond b (record g { live = on } ∷ gs) (g ∷ switched n on gs)) ≡ handlers_of owner (g ∷ gs)
    by true rest = head (nat_eq g.extension owner)
    by false rest = later (nat_eq g.extension owner) rest

-- ---- both switches

module _ (es : List Extension) (live : Live) (place : ℕ) (e : Extension) (on : Bool)
    (at : slice_get es place ≡ Some e) (settled : IsSettled es live) where
  abbrev then_es : List Extension
  then_es = switched_at place on es

  abbrev then_live : Live
  then_live = with_switched e.number on live

  number_is : e.number ≡ place
  number_is = number_at 0 es place place e settled.numbered at (omega arith)

  depends_then : (number other : ℕ) → DependsOn es number other → DependsOn then_es number other
  depends_then number other d =
      let x = switched_stays place on es number d.extension d.at in
      let y = switched_stays place on es other d.dependency d.there in
      record {
        extension = x.0;
        at = x.1;
        dependency = y.0;
        there = y.1;
        needed = ap (λ id. is_needed id x.0.manifest.dependencies) y.2
            ∙ ap (is_needed d.dependency.manifest.id) x.3 ∙ d.needed;
      }

  near_then : (number : ℕ) (name : List ℕ) (d : Declaration) → IsNear es number live.code name d →
      IsNear then_es number then_live.code name d
  near_then number name d near = record {
    owner = near.owner;
    near = ⊎_elim (λ same. inl same) (λ depends. inr (depends_then number near.owner depends)) near.near;
    declares = ap (λ hs. declared_among hs name) (handlers_switched near.owner e.number on live.code) ∙ near.declares;
  }

  backed_then : (number : ℕ) (codes : CodesData) → IsBacked es number live.code codes →
      IsBacked then_es number then_live.code codes
  backed_then number codes b = record {
    commands = b.commands;
    verified = b.verified;
    are = b.are;
    each = b.each;
    comes = λ name d is. ⊎_elim (λ plain. inl plain) (λ near. inr (near_then number name d near)) (b.comes name d is);
  }

  group_backed : (k : ℕ) (g : Group) → slice_get then_live.code k ≡ Some g →
      IsBacked then_es g.extension then_live.code g.codes
  group_backed k g there = ⊎_elim
      (λ was. subst (λ (g : Group). IsBacked then_es g.extension then_live.code g.codes) (sym was.3)
      (backed_then was.0.extension was.0.codes (backed_at es live.code live.code k was.0 settled.backed was.1)))
      (λ same. backed_then g.extension g.codes (backed_at es live.code live.code k g settled.backed same))
      (changed_was (λ g. record g { live = on }) e.number live.code k g there)

  -- what stays of a settled session, if each extension that is enabled then has its dependencies
  base_then : All (IsClosed then_es) then_es → IsBase then_es then_live
  base_then closed = record {
    apart = switch_stays e.number on live.code then_live.code settled.sound.apart refl;
    free = λ name native is.
        ap (handler_named name) (switched_all e.number on live.code) ∙ settled.sound.free name native is;
    numbered = switched_numbered 0 place on es settled.numbered;
    matched = switched_matched 0 place e.number on es live.code (omega (arith, number_is)) settled.numbered
        settled.matched;
    closed = closed;
    backed = backed_from then_es then_live.code then_live.code group_backed;
  }

  -- a dependency that isn't disabled still isn't
  disabled_then : (id : List ℕ) → disabled_of id es ≡ None → is_disabled id (turned on e) ≡ false →
      disabled_of id then_es ≡ None
  disabled_then id none off =
      ap (option_map (λ (e : Extension). e.manifest.id))
      (none_from (is_disabled id) then_es (λ k x there. ⊎_elim
      (λ is. ap (is_disabled id) is ∙ off)
      (λ was. none_passes (is_disabled id) es k x (unmapped (λ (e : Extension). e.manifest.id) _ none) was)
      (switched_was place on es e k x at there)))

-- ---- what is disabled

-- an enabled extension doesn't need one that may be disabled
abbrev IsUnneeded : List Extension → Extension → Type 0
IsUnneeded es e =
    (k : ℕ) (x : Extension) → slice_get es k ≡ Some x → x.enabled ≡ true →
    is_needed e.manifest.id x.manifest.dependencies ≡ false

module _ (es : List Extension) (live : Live) (place : ℕ) (e : Extension) (at : slice_get es place ≡ Some e)
    (settled : IsSettled es live) where
  enabled_needs : (a b : Bool) → (a && b) ≡ false → a ≡ true → b ≡ false
  enabled_needs true b none is = none
  enabled_needs false b none is = absurd (cc)

  unneeded : disable_refusal e es ≡ None → IsUnneeded es e
  unneeded free k x there on = by e.enabled refl free
    where
      not_both : (b : Bool) → is_needed e.manifest.id x.manifest.dependencies ≡ b → e.enabled ≡ false →
          is_needed e.manifest.id x.manifest.dependencies ≡ false
      not_both false needed is = needed
      not_both true needed is =
          let enabled = dependency_enabled x.manifest.dependencies es place e
          (all_at (IsClosed es) es k x settled.closed there on) at needed in
          absurd (false≢true (sym is ∙ enabled))

      by : (b : Bool) → e.enabled ≡ b →
          (if b then option_map (refused_with NeededBy) (dependent_on e.manifest.id es) else None) ≡ None →
          is_needed e.manifest.id x.manifest.dependencies ≡ false
      by true is free =
          let none = unmapped (λ (e : Extension). e.manifest.id) (find (needs e.manifest.id) es)
          (unmapped (refused_with NeededBy) (dependent_on e.manifest.id es) free) in
          enabled_needs x.enabled (is_needed e.manifest.id x.manifest.dependencies)
          (none_passes (needs e.manifest.id) es k x none there) on
      by false is free = not_both (is_needed e.manifest.id x.manifest.dependencies) refl is

  missing_off : (ids : List (List ℕ)) → missing_dependency ids es ≡ None → is_needed e.manifest.id ids ≡ false →
      missing_dependency ids (switched_at place false es) ≡ None
  missing_off [] none other = refl
  missing_off (id ∷ ids) none other =
      let parts = both_none (disabled_of id es) (missing_dependency ids es) none in
      let others = or_false (same_id e.manifest.id id) (is_needed e.manifest.id ids) other in
      ap (λ o. option_or o (missing_dependency ids (switched_at place false es)))
      (disabled_then es live place e false at settled id parts.0 others.0)
      ∙ missing_off ids parts.1 others.1

  closed_off : IsUnneeded es e → All (IsClosed (switched_at place false es)) (switched_at place false es)
  closed_off none =
      all_from (IsClosed (switched_at place false es)) (switched_at place false es) (λ k x there. ⊎_elim
      (λ is on. absurd (false≢true (sym (ap (λ (e : Extension). e.enabled) is) ∙ on)))
      (λ was on. missing_off x.manifest.dependencies (all_at (IsClosed es) es k x settled.closed was on)
      (none k x was on))
      (switched_was place false es e k x at there))

  natives_off : NativesLive (with_switched e.number false live)
  natives_off k g there on name h found = ⊎_elim
      (λ was. absurd (false≢true (sym (ap (λ (g : Group). g.live) was.3) ∙ on)))
      (λ same. natives_live es live settled k g same on name h found)
      (changed_was (λ g. record g { live = false }) e.number live.code k g there)

  disabled : disable_refusal e es ≡ None →
      IsSettled (switched_at place false es) (with_switched e.number false live)
  disabled free =
      settles (switched_at place false es) (with_switched e.number false live)
      (base_then es live place e false at settled (closed_off (unneeded free))) natives_off

pub disabled_stays_settled : DisabledStaysSettled
disabled_stays_settled es live place e at free settled = disabled es live place e at settled free

-- ---- what is enabled

-- a callee at a position isn't missing if none is
not_missing : (there : Declaration → List ℕ → Bool) (h : HandlerData) (callees : List Callee) (k : ℕ) (c : Callee) →
    missing_in there h callees ≡ None → slice_get callees k ≡ Some c →
    unless_there there c.signature (slice_get h.calls c.index) ≡ None
not_missing there h [] k c none at = absurd (cc)
not_missing there h (x ∷ callees) zero c none at =
    let same : x ≡ c = cc in
    subst (λ (y : Callee). unless_there there y.signature (slice_get h.calls y.index) ≡ None) same
    (both_none (unless_there there x.signature (slice_get h.calls x.index)) (missing_in there h callees) none).0
not_missing there h (x ∷ callees) (suc k) c none at =
    not_missing there h callees k c
    (both_none (unless_there there x.signature (slice_get h.calls x.index)) (missing_in there h callees) none).1 at

-- a verified handler that its name finds, without a missing callee
abbrev IsComplete : (Declaration → List ℕ → Bool) → Commands → HandlerData → Type 0
IsComplete there commands h =
    (v : CheckedHandler) × (v.handler ≡ h) × IsVerified commands v
    × (missing_in there v.handler v.callees ≡ None)

complete : (there : Declaration → List ℕ → Bool) (commands : Commands) (vs : List CheckedHandler) (name : List ℕ)
    (h : HandlerData) → All (IsVerified commands) vs →
    missing_from there (map (λ (v : CheckedHandler). v.handler) vs) (map (λ (v : CheckedHandler). v.callees) vs) ≡ None →
    handler_named name (map (λ (v : CheckedHandler). v.handler) vs) ≡ Some h → IsComplete there commands h
complete there commands [] name h all none found = absurd (cc)
complete there commands (v ∷ vs) name h all none found =
    by (bytes_eq name v.handler.command) found
    (complete there commands vs name h (All-tail (IsVerified commands) v vs all) parts.1)
  where
    parts : (missing_in there v.handler v.callees ≡ None)
        × (missing_from there (map (λ (v : CheckedHandler). v.handler) vs) (map (λ (v : CheckedHandler). v.callees) vs)
        ≡ None)
    parts = both_none (missing_in there v.handler v.callees)
        (missing_from there (map (λ (v : CheckedHandler). v.handler) vs) (map (λ (v : CheckedHandler). v.callees) vs))
        none

    by : (b : Bool) →
        cond b (Some v.handler) (handler_named name (map (λ (v : CheckedHandler). v.handler) vs)) ≡ Some h →
        (handler_named name (map (λ (v : CheckedHandler). v.handler) vs) ≡ Some h → IsComplete there commands h) →
        IsComplete there commands h
    by true e rest =
        let same : v.handler ≡ h = cc in (v, same, All-head (IsVerified commands) v vs all, parts.0)
    by false e rest = rest e

there_is : (there : Bool) (name : List ℕ) → (if there then None else Some name) ≡ None → there ≡ true
there_is true name e = refl
there_is false name e = absurd (cc)

-- the native commands that it calls are live
complete_calls : (live : Live) (commands : Commands) (h : HandlerData) → IsComplete (native_there live) commands h →
    CallsLive live h
complete_calls live commands h whole =
    subst (CallsLive live) whole.1 (λ place index name native calls at is.
    let v = whole.0 in
    let its = called commands v.handler place index whole.2.accepted calls in
    let has = verifier.listed commands v.handler v.callees whole.2.callees place index its.0
    (record { calls = calls; declares = its.1 }) in
    let c : Callee = record { index = index; signature = its.0 } in
    let none = not_missing (native_there live) v.handler v.callees has.0 c whole.3 has.1 in
    sym (ap (λ o. has_closure o live) is)
    ∙ there_is (native_there live its.0 name) name (sym (ap (unless_there (native_there live) its.0) at) ∙ none))

module _ (es : List Extension) (live : Live) (place : ℕ) (e : Extension) (at : slice_get es place ≡ Some e)
    (settled : IsSettled es live) where
  missing_on : (ids : List (List ℕ)) → missing_dependency ids es ≡ None →
      missing_dependency ids (switched_at place true es) ≡ None
  missing_on [] none = refl
  missing_on (id ∷ ids) none =
      let parts = both_none (disabled_of id es) (missing_dependency ids es) none in
      ap (λ o. option_or o (missing_dependency ids (switched_at place true es)))
      (disabled_then es live place e true at settled id parts.0 refl)
      ∙ missing_on ids parts.1

  -- its dependencies are enabled
  needed_on : enable_refusal e es live ≡ None → missing_dependency e.manifest.dependencies es ≡ None
  needed_on free = by e.enabled refl free
    where
      by : (b : Bool) → e.enabled ≡ b →
          (if b then None else option_or (option_map (refused_with NeedsDependency) (missing_dependency e.manifest.dependencies es))
          (option_map (refused_with CalleeNotLive) (native_missing e.number live))) ≡ None →
          missing_dependency e.manifest.dependencies es ≡ None
      by true is free = all_at (IsClosed es) es place e settled.closed at is
      by false is free =
          unmapped (refused_with NeedsDependency) (missing_dependency e.manifest.dependencies es)
          (both_none (option_map (refused_with NeedsDependency) (missing_dependency e.manifest.dependencies es))
          (option_map (refused_with CalleeNotLive) (native_missing e.number live)) free).0

  closed_on : missing_dependency e.manifest.dependencies es ≡ None →
      All (IsClosed (switched_at place true es)) (switched_at place true es)
  closed_on none =
      all_from (IsClosed (switched_at place true es)) (switched_at place true es) (λ k x there. ⊎_elim
      (λ is on.
      ap (λ (x : Extension). missing_dependency x.manifest.dependencies (switched_at place true es)) is
      ∙ missing_on e.manifest.dependencies none)
      (λ was on. missing_on x.manifest.dependencies (all_at (IsClosed es) es k x settled.closed was on))
      (switched_was place true es e k x at there))

  -- the native commands that its handlers call are live
  own_natives : enable_refusal e es live ≡ None → (k : ℕ) (g : Group) → slice_get live.code k ≡ Some g →
      g.extension ≡ e.number → (name : List ℕ) (h : HandlerData) → handler_named name g.codes.handlers ≡ Some h →
      CallsLive live h
  own_natives free k g there of name h found = by e.enabled refl free
    where
      here : g.extension ≡ k
      here = (group_at 0 es live.code k k g settled.numbered settled.matched there (omega arith)).0

      found_is : found_group e.number live.code ≡ Some g
      found_is = (group_at 0 es live.code k e.number g settled.numbered settled.matched there
          (omega (arith, here, of))).1

      on_already : e.enabled ≡ true → CallsLive live h
      on_already is =
          let its = its_extension es live.code k g settled.matched there in
          let number = number_at 0 es place place e settled.numbered at (omega arith) in
          let same_place : k ≡ place = omega (arith, here, of, number) in
          let same : its.0 ≡ e = cc (its.1, ap (slice_get es) same_place, at) in
          natives_live es live settled k g there (its.2 ∙ ap (λ (e : Extension). e.enabled) same ∙ is) name h found

      by : (b : Bool) → e.enabled ≡ b →
          (if b then None else option_or (option_map (refused_with NeedsDependency) (missing_dependency e.manifest.dependencies es))
          (option_map (refused_with CalleeNotLive) (native_missing e.number live))) ≡ None → CallsLive live h
      by true is free = on_already is
      by false is free =
          let none = unmapped (refused_with CalleeNotLive) (native_missing e.number live)
          (both_none (option_map (refused_with NeedsDependency) (missing_dependency e.manifest.dependencies es))
          (option_map (refused_with CalleeNotLive) (native_missing e.number live)) free).1 in
          let backed = backed_at es live.code live.code k g settled.backed there in
          complete_calls live backed.commands h
          (complete (native_there live) backed.commands backed.verified name h backed.each
          (ap (λ c. missing_native c live) (sym backed.are)
          ∙ sym (ap (λ (o : Option Group). option_and_then (λ codes. missing_native codes live)
          (option_map (λ (g : Group). g.codes) o)) found_is) ∙ none)
          (ap (λ (c : CodesData). handler_named name c.handlers) (sym backed.are) ∙ found))

  natives_on : enable_refusal e es live ≡ None → NativesLive (with_switched e.number true live)
  natives_on free k g there on name h found = ⊎_elim
      (λ was. own_natives free k was.0 was.1 was.2 name h
      (ap (λ (g : Group). handler_named name g.codes.handlers) (sym was.3) ∙ found))
      (λ same. natives_live es live settled k g same on name h found)
      (changed_was (λ g. record g { live = true }) e.number live.code k g there)

  enabled : enable_refusal e es live ≡ None →
      IsSettled (switched_at place true es) (with_switched e.number true live)
  enabled free =
      settles (switched_at place true es) (with_switched e.number true live)
      (base_then es live place e true at settled (closed_on (needed_on free))) (natives_on free)

pub enabled_stays_settled : EnabledStaysSettled
enabled_stays_settled es live place e at free settled = enabled es live place e at settled free
