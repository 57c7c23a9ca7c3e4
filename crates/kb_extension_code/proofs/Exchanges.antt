-- Extensions that are updated keep a session settled.
use Rattle.std.proofs.Common.{◌≡◌, ◌∙◌, ◌⊎◌, inl, inr, ⊎_elim, ℕ, Bool, true, false, cond, List, [], ◌∷◌}
use Rattle.std.proofs.Common.{Option, Some, None, refl, sym, ap, subst, arith, nat_eq, is_some}
use Rattle.std.specs.Prelude.{slice_get, option_map, option_and_then}
use Rattle.std.specs.FinMap as map
use Rattle.std.specs.Option.{option_map_or}
use Rattle.kb_code.specs.Face.{declared_among, same_face}
use Rattle.kb_code.specs.Handler.{HandlerData, handler_named}
use Rattle.kb_code.proofs.FaceLemmas.{same_face_declares_the_same}
use Rattle.kb_core.specs.Declaration.{Declaration}
use Rattle.kb_core.specs.Native.{named}
use Rattle.kb_core.specs.declared.native.Native.{Native}
use Rattle.kb_files.specs.declared.extension_file.Extension.{Extension}
use Rattle.kb_handler_table.specs.Codes.{CodesData}
use Rattle.kb_handler_table.specs.Live.{Group, exchanged, found_group, handlers_in, handlers_of}
use Rattle.kb_handler_table.proofs.Apart.{exchange_declares, exchange_stays, face-parts, none-declared, undeclared}
use Rattle.kb_extension_code.specs.Callable.{callable_of}
use Rattle.kb_registry.specs.Live.{Live, is_live, with_exchanged}
use Rattle.kb_soundness.specs.Stays.{AreFree}
use Rattle.kb_verify.specs.Accepted.{IsAccepted}
use Rattle.kb_verify.specs.Callable.{Commands}
use Rattle.kb_extension_code.specs.Settled.{AreMatched, IsBacked, IsNative, IsNear, IsSettled}
use Rattle.kb_extension_code.specs.Stays.{UpdatedStaysSettled}
use Rattle.kb_extension_code.specs.Updating.{is_verified}
use Rattle.kb_extension_code.proofs.Callables.{ComesFrom, apart_found, callable_comes, distinct_apart, none_of_group}
use Rattle.kb_extension_code.proofs.Places.{backed_at, backed_from, changed_was, group_at, its_group, its_verified}
use Rattle.kb_extension_code.proofs.Places.{number_at}
use Rattle.kb_extension_code.proofs.Settles.{CallsLive, NativesLive, called, natives_live, settles}
use Rattle.kb_extension_code.proofs.Verdicts.{IsUpdate, update_is}

-- ---- groups

-- other code changes no number, and makes nothing live
exchanged_matched : (n : ℕ) (codes : CodesData) (es : List Extension) (gs : List Group) → AreMatched es gs →
    AreMatched es (exchanged n codes gs)
exchanged_matched n codes [] [] matched = tt
exchanged_matched n codes [] (g ∷ gs) matched = absurd matched
exchanged_matched n codes (e ∷ es) [] matched = absurd matched
exchanged_matched n codes (e ∷ es) (g ∷ gs) matched =
    by (nat_eq g.extension n) (exchanged_matched n codes es gs matched.2)
  where
    by : (b : Bool) → AreMatched es (exchanged n codes gs) →
        AreMatched (e ∷ es) (cond b (record g { codes = codes } ∷ gs) (g ∷ exchanged n codes gs))
    by true rest = matched
    by false rest = (matched.0, matched.1, rest)

-- what the handlers of a group declare, if there is one
abbrev declared_in : Option Group → List ℕ → Option Declaration
declared_in o name =
    declared_among (option_map_or (λ (c : CodesData). c.handlers) (option_map (λ (g : Group). g.codes) o) []) name

-- other code with the same face declares the same for each extension
handlers_declare : (owner n : ℕ) (codes : CodesData) (gs : List Group) →
    same_face (handlers_of n gs) codes.handlers ≡ true → (name : List ℕ) →
    declared_among (handlers_of owner (exchanged n codes gs)) name ≡ declared_among (handlers_of owner gs) name
handlers_declare owner n codes [] same name = refl
handlers_declare owner n codes (g ∷ gs) same name =
    by (nat_eq g.extension n) same (λ same. handlers_declare owner n codes gs same name)
  where
    head : declared_among codes.handlers name ≡ declared_among g.codes.handlers name → (b : Bool) →
        declared_in (cond b (Some (let x : Group = record g { codes = codes } in x)) (found_group owner gs)) name
        ≡ declared_in (cond b (Some g) (found_group owner gs)) name
    head alike true = alike
    head alike false = refl

    later : declared_among (handlers_of owner (exchanged n codes gs)) name ≡ declared_among (handlers_of owner gs) name →
        (b : Bool) →
        declared_in (cond b (Some g) (found_group owner (exchanged n codes gs))) name
        ≡ declared_in (cond b (Some g) (found_group owner gs)) name
    later rest true = refl
    later rest false = rest

    by : (b : Bool) →
        same_face (option_map_or (λ (c : CodesData). c.handlers) (option_map (λ (g : Group). g.codes)
        (cond b (Some g) (found_group n gs))) []) codes.handlers ≡ true →
        (same_face (handlers_of n gs) codes.handlers ≡ true →
        declared_among (handlers_of owner (exchanged n codes gs)) name ≡ declared_among (handlers_of owner gs) name) →
        declared_among (handlers_of owner (cond b (record g { codes = codes } ∷ gs) (g ∷ exchanged n codes gs))) name
        ≡ declared_among (handlers_of owner (g ∷ gs)) name
    by true same rest =
        head (sym (same_face_declares_the_same g.codes.handlers codes.handlers same name)) (nat_eq g.extension owner)
    by false same rest = later (rest same) (nat_eq g.extension owner)

-- ---- an update

-- what is declared has a handler of the name
declares_some : (hs : List HandlerData) (name : List ℕ) (d : Declaration) → declared_among hs name ≡ Some d →
    handler_named name hs ≡ None → ⊥
declares_some hs name d is none = let nothing = none-declared hs name none in absurd (cc)

module _ (es : List Extension) (live : Live) (place : ℕ) (e : Extension) (codes : CodesData)
    (at : slice_get es place ≡ Some e) (settled : IsSettled es live) (update : IsUpdate e es live codes) where
  abbrev then_live : Live
  then_live = with_exchanged e.number codes live

  abbrev commands : Commands
  commands = callable_of es e.number update.handlers live

  at_number : slice_get es e.number ≡ Some e
  at_number = ap (slice_get es) (number_at 0 es place place e settled.numbered at (omega arith)) ∙ at

  same : same_face (handlers_of e.number live.code) codes.handlers ≡ true
  same = ap (same_face (handlers_of e.number live.code)) update.of ∙ update.same

  -- the commands that the update was verified against
  comes : (name : List ℕ) (d : Declaration) → map.get commands name ≡ Some d →
      ComesFrom es e.number update.handlers live name d
  comes =
      callable_comes es e.number e update.handlers live at_number settled.numbered settled.sound.apart
      (apart_found update.handlers
      (distinct_apart update.handlers (face-parts (handlers_of e.number live.code) update.handlers update.same).0))

  own_declares : (name : List ℕ) (d : Declaration) → declared_among update.handlers name ≡ Some d →
      declared_among (handlers_of e.number live.code) name ≡ Some d
  own_declares name d is =
      same_face_declares_the_same (handlers_of e.number live.code) update.handlers update.same name ∙ is

  near : (name : List ℕ) (d : Declaration) → ComesFrom es e.number update.handlers live name d →
      IsNative name d ⊎ IsNear es e.number live.code name d
  near name d (inl plain) = inl plain.0
  near name d (inr (inl own)) =
      inr (record { owner = e.number; near = inl refl; declares = own_declares name d own })
  near name d (inr (inr needed)) =
      inr (record { owner = needed.0; near = inr needed.1; declares = needed.2 })

  near_then : (number : ℕ) (name : List ℕ) (d : Declaration) → IsNear es number live.code name d →
      IsNear es number then_live.code name d
  near_then number name d near = record {
    owner = near.owner;
    near = near.near;
    declares = handlers_declare near.owner e.number codes live.code same name ∙ near.declares;
  }

  backed_then : (number : ℕ) (c : CodesData) → IsBacked es number live.code c → IsBacked es number then_live.code c
  backed_then number c b = record {
    commands = b.commands;
    verified = b.verified;
    are = b.are;
    each = b.each;
    comes = λ name d is. ⊎_elim (λ plain. inl plain) (λ near. inr (near_then number name d near)) (b.comes name d is);
  }

  own_backed : IsBacked es e.number live.code codes
  own_backed = record {
    commands = commands;
    verified = update.verified;
    are = update.are;
    each = update.each;
    comes = λ name d is. near name d (comes name d is);
  }

  group_backed : (k : ℕ) (g : Group) → slice_get then_live.code k ≡ Some g →
      IsBacked es g.extension then_live.code g.codes
  group_backed k g there = ⊎_elim
      (λ was. subst (λ (g : Group). IsBacked es g.extension then_live.code g.codes) (sym was.3)
      (subst (λ n. IsBacked es n then_live.code codes) (sym was.2) (backed_then e.number codes own_backed)))
      (λ was. backed_then g.extension g.codes (backed_at es live.code live.code k g settled.backed was))
      (changed_was (λ g. record g { codes = codes }) e.number live.code k g there)

  free_then : AreFree then_live.code
  free_then name native is =
      undeclared (handlers_in then_live.code) name
      (exchange_declares e.number codes live.code same name
      ∙ none-declared (handlers_in live.code) name (settled.sound.free name native is))

  -- ---- native commands

  -- a command with a native's name that the update may call is live
  native_live : (name : List ℕ) (native : Native) (d : Declaration) → named name ≡ Some native →
      ComesFrom es e.number update.handlers live name d → is_live native live ≡ true
  native_live name native d is (inl plain) =
      let its : plain.0.native ≡ native = cc (plain.0.is_named, is) in
      ap (λ n. is_live n live) (sym its) ∙ plain.1
  native_live name native d is (inr (inl own)) =
      absurd (declares_some (handlers_of e.number live.code) name d (own_declares name d own)
      (none_of_group e.number live.code name (settled.sound.free name native is)))
  native_live name native d is (inr (inr needed)) =
      absurd (declares_some (handlers_of needed.0 live.code) name d needed.2
      (none_of_group needed.0 live.code name (settled.sound.free name native is)))

  new_calls : (name : List ℕ) (h : HandlerData) → handler_named name codes.handlers ≡ Some h → CallsLive live h
  new_calls name h found place index callee native calls there is =
      let v = its_verified commands update.verified name h update.each
      (ap (λ (c : CodesData). handler_named name c.handlers) (sym update.are) ∙ found) in
      let its = called commands h place index (subst (IsAccepted commands) v.1 v.2.accepted) calls in
      native_live callee native its.0 is
      (comes callee its.0 (sym (ap (option_and_then (map.get commands)) there) ∙ its.1))

  natives_then : NativesLive then_live
  natives_then k g there on name h found = ⊎_elim
      (λ was. new_calls name h (ap (λ (g : Group). handler_named name g.codes.handlers) (sym was.3) ∙ found))
      (λ was. natives_live es live settled k g was on name h found)
      (changed_was (λ g. record g { codes = codes }) e.number live.code k g there)

  updated : IsSettled es then_live
  updated = settles es then_live (record {
    apart = exchange_stays e.number codes live.code then_live.code same settled.sound.apart refl;
    free = free_then;
    numbered = settled.numbered;
    matched = exchanged_matched e.number codes es live.code settled.matched;
    closed = settled.closed;
    backed = backed_from es then_live.code then_live.code group_backed;
  }) natives_then

-- ---- the law

-- the code of each extension of a settled session was verified
code_verified : (es : List Extension) (live : Live) (place : ℕ) (e : Extension) → slice_get es place ≡ Some e →
    IsSettled es live → is_verified e.number live ≡ true
code_verified es live place e at settled =
    let its = its_group es live.code place e settled.matched at in
    let number = number_at 0 es place place e settled.numbered at (omega arith) in
    let found = (group_at 0 es live.code place e.number its.0 settled.numbered settled.matched its.1
    (omega (arith, number))).1 in
    let backed = backed_at es live.code live.code place its.0 settled.backed its.1 in
    ap (λ (o : Option Group). option_map_or (λ (c : CodesData). is_some c.callees) (option_map (λ (g : Group). g.codes) o)
    true) found
    ∙ ap (λ (c : CodesData). is_some c.callees) backed.are

pub updated_stays_settled : UpdatedStaysSettled
updated_stays_settled es live place e bytes codes at is settled =
    updated es live place e codes at settled
    (update_is e es live codes (code_verified es live place e at settled) bytes is)
