-- Switching an extension's code off or on keeps live handlers verified.
use Rattle.std.proofs.Common.{◌≡◌, ◌∙◌, ◌⊎◌, inl, inr, ⊎_elim, ℕ, Bool, true, false, cond, List, [], ◌∷◌}
use Rattle.std.proofs.Common.{◌++◌, Option, Some, None, IfSome, refl, sym, ap, subst, nat_eq, bytes_eq}
use Rattle.std.proofs.Common.{is_some, arith, if◌then◌else◌}
use Rattle.std.specs.Prelude.{option_map}
use Rattle.std.specs.List.{All}
use Rattle.std.specs.Option.{option_map_or}
use Rattle.kb_core.specs.declared.native.Native.{Native}
use Rattle.kb_core.specs.Native.{named}
use Rattle.kb_code.specs.Commands.{Callee, Coded}
use Rattle.kb_code.specs.Handler.{HandlerData, handler_named}
use Rattle.kb_handler_table.specs.Apart.{AreApart}
use Rattle.kb_handler_table.specs.Codes.{CodesData, CalleesAreChecked, checked_in}
use Rattle.kb_handler_table.specs.Live.{Group, found_group, group_of, handlers_in, handlers_of, is_on}
use Rattle.kb_handler_table.specs.Live.{live_in, live_of, switched, without_group}
use Rattle.kb_handler_table.proofs.Apart.{live_after, live_before, live_found, live_whole, switch_stays}
use Rattle.kb_handler_table.proofs.Apart.{switched_all}
use Rattle.kb_registry.specs.Live.{Live, callee_by, table_of, with_switched, without_code}
use Rattle.kb_registry.specs.Missing.{is_there, missing_by, missing_callee}
use Rattle.kb_verify.specs.declared.callees.Callee as verifier
use Rattle.kb_soundness.specs.Stays.{AllChecked, AreFree, IsSound}
use Rattle.kb_soundness.specs.Stays.{CodeSwitchedOffStaysSound, CodeSwitchedOnStaysSound}
use Rattle.kb_soundness.proofs.Found.{found_all}
use Rattle.kb_soundness.proofs.Joins.{all_join}
use Rattle.kb_soundness.proofs.Loads.{MayJoin, joins}
use Rattle.kb_soundness.proofs.Removals.{code_disposed_stays_sound}
use Rattle.kb_soundness.proofs.Stays.{Stays, coded_by, coded_live, verified_stays}

-- ---- both switches

module _ (extension : ℕ) (on : Bool) where
  -- all code stays verified
  checked_switched : (gs : List Group) → AllChecked gs → AllChecked (switched extension on gs)
  checked_switched [] checked = checked
  checked_switched (g ∷ gs) checked = by (nat_eq g.extension extension) (checked_switched gs checked.1)
    where
      by : (b : Bool) → AllChecked (switched extension on gs) →
          AllChecked (cond b (record g { live = on } ∷ gs) (g ∷ switched extension on gs))
      by true rest = checked
      by false rest = (checked.0, rest)

  -- no native's name finds a handler
  free_switched : (gs : List Group) → AreFree gs → AreFree (switched extension on gs)
  free_switched gs free name native is =
      ap (handler_named name) (switched_all extension on gs) ∙ free name native is

  -- the extension's code stays
  code_kept : (gs : List Group) → group_of extension (switched extension on gs) ≡ group_of extension gs
  code_kept [] = refl
  code_kept (g ∷ gs) = by (nat_eq g.extension extension) (code_kept gs)
    where
      head : (b : Bool) →
          option_map (λ (g : Group). g.codes)
          (cond b (Some (let x : Group = record g { live = on } in x)) (found_group extension gs))
          ≡ option_map (λ (g : Group). g.codes) (cond b (Some g) (found_group extension gs))
      head true = refl
      head false = refl

      later : (b : Bool) → group_of extension (switched extension on gs) ≡ group_of extension gs →
          option_map (λ (g : Group). g.codes)
          (cond b (Some g) (found_group extension (switched extension on gs)))
          ≡ option_map (λ (g : Group). g.codes) (cond b (Some g) (found_group extension gs))
      later true rest = refl
      later false rest = rest

      by : (b : Bool) → group_of extension (switched extension on gs) ≡ group_of extension gs →
          group_of extension (cond b (record g { live = on } ∷ gs) (g ∷ switched extension on gs))
          ≡ group_of extension (g ∷ gs)
      by true rest = head (nat_eq g.extension extension)
      by false rest = later (nat_eq g.extension extension) rest

  -- and so do the other groups
  others_kept : (gs : List Group) →
      without_group extension (switched extension on gs) ≡ without_group extension gs
  others_kept [] = refl
  others_kept (g ∷ gs) = by (nat_eq g.extension extension) refl (others_kept gs)
    where
      by : (b : Bool) → nat_eq g.extension extension ≡ b →
          without_group extension (switched extension on gs) ≡ without_group extension gs →
          without_group extension (cond b (record g { live = on } ∷ gs) (g ∷ switched extension on gs))
          ≡ without_group extension (g ∷ gs)
      by true is rest =
          ap (λ b. cond b gs (record g { live = on } ∷ without_group extension gs)) is
          ∙ sym (ap (λ b. cond b gs (g ∷ without_group extension gs)) is)
      by false is rest =
          ap (λ b. cond b (switched extension on gs)
          (g ∷ without_group extension (switched extension on gs))) is
          ∙ ap (λ gs. g ∷ gs) rest
          ∙ sym (ap (λ b. cond b gs (g ∷ without_group extension gs)) is)

  -- without code of the extension nothing changes
  none_switched : (gs : List Group) → group_of extension gs ≡ None → switched extension on gs ≡ gs
  none_switched [] none = refl
  none_switched (g ∷ gs) none = by (nat_eq g.extension extension) none (none_switched gs)
    where
      by : (b : Bool) →
          option_map (λ (g : Group). g.codes) (cond b (Some g) (found_group extension gs)) ≡ None →
          (group_of extension gs ≡ None → switched extension on gs ≡ gs) →
          cond b (record g { live = on } ∷ gs) (g ∷ switched extension on gs) ≡ g ∷ gs
      by true none rest = absurd (cc)
      by false none rest = ap (λ gs. g ∷ gs) (rest none)

  -- code that is there is live then, or isn't
  is_switched : (gs : List Group) (codes : CodesData) → group_of extension gs ≡ Some codes →
      is_on extension (switched extension on gs) ≡ on
  is_switched [] codes there = absurd (cc)
  is_switched (g ∷ gs) codes there = by (nat_eq g.extension extension) refl there (is_switched gs codes)
    where
      by : (b : Bool) → nat_eq g.extension extension ≡ b →
          option_map (λ (g : Group). g.codes) (cond b (Some g) (found_group extension gs)) ≡ Some codes →
          (group_of extension gs ≡ Some codes → is_on extension (switched extension on gs) ≡ on) →
          is_on extension (cond b (record g { live = on } ∷ gs) (g ∷ switched extension on gs)) ≡ on
      by true is there rest =
          ap (λ b. option_map_or (λ (g : Group). g.live)
          (cond b (Some (let x : Group = record g { live = on } in x)) (found_group extension gs)) false) is
      by false is there rest =
          ap (λ b. option_map_or (λ (g : Group). g.live)
          (cond b (Some g) (found_group extension (switched extension on gs))) false) is
          ∙ rest there

-- ---- code that is switched off

-- the handlers that stay live are those without the extension's code
live_off : (extension : ℕ) (gs : List Group) →
    live_in (switched extension false gs) ≡ live_in (without_group extension gs)
live_off extension [] = refl
live_off extension (g ∷ gs) = by (nat_eq g.extension extension) (live_off extension gs)
  where
    by : (b : Bool) → live_in (switched extension false gs) ≡ live_in (without_group extension gs) →
        live_in (cond b (record g { live = false } ∷ gs) (g ∷ switched extension false gs))
        ≡ live_in (cond b gs (g ∷ without_group extension gs))
    by true rest = refl
    by false rest = ap (λ hs. live_of g ++ hs) rest

-- so are the live commands
callee_off : (extension : ℕ) (live : Live) (o : Option Native) (name : List ℕ) →
    callee_by o name (with_switched extension false live) ≡ callee_by o name (without_code extension live)
callee_off extension live (Some n) name = refl
callee_off extension live None name =
    ap (λ hs. option_map Coded (handler_named name hs)) (live_off extension live.code)

pub code_switched_off_stays_sound : CodeSwitchedOffStaysSound
code_switched_off_stays_sound extension live fault sound =
    let removed = code_disposed_stays_sound extension live fault sound in
    record {
      checked = checked_switched extension false live.code sound.checked;
      apart = switch_stays extension false live.code (switched extension false live.code) sound.apart refl;
      free = free_switched extension false live.code sound.free;
      verified = λ name h e.
          verified_stays (table_of (without_code extension live))
          (table_of (with_switched extension false live))
          (λ name c is. callee_off extension live (named name) name ∙ is) h
          (removed.verified name h (sym (callee_off extension live (named name) name) ∙ e));
    }

-- ---- code that is switched on

module _ (extension : ℕ) (codes : CodesData) (gs : List Group) (there : group_of extension gs ≡ Some codes)
    (apart : AreApart (handlers_in gs)) where
  abbrev then_on : List Group
  then_on = switched extension true gs

  apart_on : AreApart (handlers_in then_on)
  apart_on = switch_stays extension true gs then_on apart refl

  own : handlers_of extension gs ≡ codes.handlers
  own = ap (λ o. option_map_or (λ (c : CodesData). c.handlers) o []) there

  own_on : handlers_of extension then_on ≡ codes.handlers
  own_on = ap (λ o. option_map_or (λ (c : CodesData). c.handlers) o []) (code_kept extension true gs ∙ there)

  -- the handlers of the code are live then
  comes : (name : List ℕ) (h : HandlerData) → handler_named name codes.handlers ≡ Some h →
      handler_named name (live_in then_on) ≡ Some h
  comes name h is =
      live_whole extension then_on name h apart_on (is_switched extension true gs codes there)
      (ap (handler_named name) own_on ∙ is)

  -- each handler that is live then was there before
  was_there : (name : List ℕ) (h : HandlerData) → handler_named name (live_in then_on) ≡ Some h →
      handler_named name (handlers_in gs) ≡ Some h
  was_there name h is =
      ap (handler_named name) (sym (switched_all extension true gs)) ∙ live_found then_on name h apart_on is

  -- a live handler stays live
  handler_stays : (name : List ℕ) (h : HandlerData) → handler_named name (live_in gs) ≡ Some h →
      handler_named name (live_in then_on) ≡ Some h
  handler_stays name h is = by (handler_named name codes.handlers) refl
    where
      by : (o : Option HandlerData) → handler_named name codes.handlers ≡ o →
          handler_named name (live_in then_on) ≡ Some h
      by None none =
          live_before extension then_on name h apart_on
          (ap (λ gs. handler_named name (live_in gs)) (others_kept extension true gs)
          ∙ live_after extension gs name h (ap (handler_named name) own ∙ none) is)
      by (Some x) found =
          let new = comes name x found in
          new ∙ sym (was_there name x new) ∙ live_found gs name h apart is

  -- a handler that is live then is one of the code's, or was live
  was_live : (name : List ℕ) (h : HandlerData) → handler_named name (live_in then_on) ≡ Some h →
      (handler_named name codes.handlers ≡ Some h) ⊎ (handler_named name (live_in gs) ≡ Some h)
  was_live name h is = by (handler_named name codes.handlers) refl
    where
      by : (o : Option HandlerData) → handler_named name codes.handlers ≡ o →
          (handler_named name codes.handlers ≡ Some h) ⊎ (handler_named name (live_in gs) ≡ Some h)
      by (Some x) found = inl (found ∙ sym (comes name x found) ∙ is)
      by None none =
          inr (live_before extension gs name h apart
          (ap (λ gs. handler_named name (live_in gs)) (sym (others_kept extension true gs))
          ∙ live_after extension then_on name h (ap (handler_named name) own_on ∙ none) is))

-- the code of an extension is verified if all code is
own_checked : (extension : ℕ) (gs : List Group) (codes : CodesData) → group_of extension gs ≡ Some codes →
    AllChecked gs → checked_in codes ≡ codes.handlers
own_checked extension [] codes there checked = absurd (cc)
own_checked extension (g ∷ gs) codes there checked =
    by (nat_eq g.extension extension) there (λ behind. own_checked extension gs codes behind checked.1)
  where
    by : (b : Bool) →
        option_map (λ (g : Group). g.codes) (cond b (Some g) (found_group extension gs)) ≡ Some codes →
        (group_of extension gs ≡ Some codes → checked_in codes ≡ codes.handlers) →
        checked_in codes ≡ codes.handlers
    by true there rest =
        let same : g.codes ≡ codes = cc in
        subst (λ (c : CodesData). checked_in c ≡ c.handlers) same checked.0
    by false there rest = rest there

-- the handlers of verified code without a missing callee may join
module _ (live : Live) (handlers : List HandlerData) where
  each_joins : (callees : Option (List (List verifier.Callee))) →
      (if is_some callees then handlers else []) ≡ handlers →
      CalleesAreChecked handlers callees → missing_by (is_there handlers live) callees handlers ≡ None →
      All (MayJoin live handlers) handlers
  each_joins None whole checked none =
      subst (λ hs. All (MayJoin live handlers) hs) whole (λ k d lt. absurd (omega (arith, lt)))
  each_joins (Some all) whole checked none = all_join handlers live (Some all) checked none

module _ (extension : ℕ) (codes : CodesData) (live : Live)
    (there : group_of extension live.code ≡ Some codes) (sound : IsSound live) where
  abbrev then_live : Live
  then_live = with_switched extension true live

  each_stays : (o : Option Native) (name : List ℕ) (c : Callee) → callee_by o name live ≡ Some c →
      callee_by o name then_live ≡ Some c
  each_stays (Some n) name c e = e
  each_stays None name c e = by (handler_named name (live_in live.code)) refl e
    where
      by : (o : Option HandlerData) → handler_named name (live_in live.code) ≡ o →
          option_map Coded o ≡ Some c →
          option_map Coded (handler_named name (live_in then_live.code)) ≡ Some c
      by None is e = absurd (cc)
      by (Some h) is e =
          ap (option_map Coded) (handler_stays extension codes live.code there sound.apart name h is) ∙ e

  stays : Stays (table_of live) (table_of then_live)
  stays name c e = each_stays (named name) name c e

  -- a handler that is there has no native's name
  plain : (name : List ℕ) (h : HandlerData) → handler_named name (handlers_in live.code) ≡ Some h →
      (o : Option Native) → named name ≡ o → named name ≡ None
  plain name h found None e = e
  plain name h found (Some native) e = let none = sound.free name native e in absurd (cc)

  comes_live : (name : List ℕ) (h : HandlerData) → handler_named name codes.handlers ≡ Some h →
      table_of then_live name ≡ Some (Coded h)
  comes_live name h is =
      let new = comes extension codes live.code there sound.apart name h is in
      coded_live name then_live h
      (plain name h (was_there extension codes live.code there sound.apart name h new) (named name) refl) new

  -- code whose handlers may join keeps a registry sound
  joined_on : All (MayJoin live codes.handlers) codes.handlers → IsSound then_live
  joined_on all = record {
    checked = checked_switched extension true live.code sound.checked;
    apart = apart_on extension codes live.code there sound.apart;
    free = free_switched extension true live.code sound.free;
    verified = λ name h e.
        let is = coded_by (named name) name then_live h e in
        ⊎_elim
        (λ new. joins live codes.handlers (table_of then_live) stays comes_live h
        (found_all (MayJoin live codes.handlers) (λ g. bytes_eq name g.command) codes.handlers h all new))
        (λ old. verified_stays (table_of live) (table_of then_live) stays h
        (sound.verified name h (coded_live name live h is.0 old)))
        (was_live extension codes live.code there sound.apart name h is.1);
  }

pub code_switched_on_stays_sound : CodeSwitchedOnStaysSound
code_switched_on_stays_sound extension live ready sound = by (group_of extension live.code) refl ready
  where
    by : (o : Option CodesData) → group_of extension live.code ≡ o →
        IfSome o
        (λ codes. CalleesAreChecked codes.handlers codes.callees × (missing_callee codes live ≡ None)) →
        IsSound (with_switched extension true live)
    by None none ready =
        subst (λ gs. IsSound (record live { code = gs }))
        (sym (none_switched extension true live.code none)) sound
    by (Some codes) there ready =
        joined_on extension codes live there sound
        (each_joins live codes.handlers codes.callees
        (own_checked extension live.code codes there sound.checked) ready.0 ready.1)
