-- Added handlers that may join are verified, and keep each live handler verified.
use Rattle.std.proofs.Common.{◌≡◌, ◌⊎◌, ⊎_elim, ℕ, Bool, true, false, cond, List, [], ◌∷◌, ◌++◌, Option}
use Rattle.std.proofs.Common.{Some, None, refl, sym, ap, ◌∙◌, subst, find, is_some, if◌then◌else◌, arith}
use Rattle.std.specs.Prelude.{slice_get, option_map, option_and_then, nat_lt, bytes_eq}
use Rattle.std.specs.List.{All, flat_map}
use Rattle.std.specs.Option.{option_or}
use Rattle.std.proofs.lemmas.Bool.{false≢true}
use Rattle.std.proofs.lemmas.List.Folds.{find-append}
use Rattle.std.proofs.lemmas.Slice.Eq.{bytes_eq-Decides}
use Rattle.kb_core.specs.declared.native.Native.{Native}
use Rattle.kb_core.specs.Declaration.{Declaration}
use Rattle.kb_core.specs.Native.{named}
use Rattle.kb_code.specs.Handler.{HandlerData, handler_named}
use Rattle.kb_code.specs.Commands.{Callee, Coded, Table, declared_by}
use Rattle.kb_handler_table.specs.Apart.{AreApart}
use Rattle.kb_handler_table.specs.Codes.{CodesData, checked_in}
use Rattle.kb_handler_table.specs.Live.{Group, handlers_in, is_reserved, is_taken, has_taken, live_group, live_in}
use Rattle.kb_handler_table.specs.Live.{live_of, with_codes, with_group}
use Rattle.kb_registry.specs.Live.{Live, callee_by, table_of, with_code}
use Rattle.kb_verify.specs.Callable.{Commands}
use Rattle.kb_verify.specs.Accepted.{IsAccepted, IsCallee}
use Rattle.kb_soundness.specs.Sound.{IsVerified, live_declaration_at}
use Rattle.kb_soundness.specs.Stays.{AllChecked, AreFree, IsSound, NoCodeStaysSound}
use Rattle.kb_handler_table.specs.declared.fault.CodesFault.TheVariants.{AlreadyExists}
use Rattle.kb_handler_table.proofs.Apart.{live_found, put_stays}
use Rattle.kb_soundness.proofs.Tests.{or_false}
use Rattle.kb_soundness.proofs.Found.{found_all}
use Rattle.kb_soundness.proofs.Stays.{Stays, declared_stays, verified_stays, coded_by, coded_live}

-- the declaration of the handler, one of these, at an index of a handler's list of calls
abbrev pub declaration_among : List HandlerData → HandlerData → ℕ → Option Declaration
declaration_among handlers h n =
    option_map (λ g. g.signature)
    (option_and_then (λ name. handler_named name handlers) (slice_get h.calls n))

-- the handler was accepted against some commands, and each of its callees declares the same, as a live
-- command or as one of the handlers that are added
pub record MayJoin (live : Live) (handlers : List HandlerData) (h : HandlerData) : Type 0 where
  pub commands : Commands
  pub accepted : IsAccepted commands h
  pub callees : (place index : ℕ) (d : Declaration) → IsCallee commands h place index d →
      (live_declaration_at (table_of live) h index ≡ Some d) ⊎ (declaration_among handlers h index ≡ Some d)

-- an option that isn't some is none
nothing : {X : Type 0} (o : Option X) → is_some o ≡ false → o ≡ None
nothing None e = refl
nothing (Some x) e = absurd (cc)

-- ---- the first of two results

or_none : {X : Type 0} (o : Option X) → option_or o None ≡ o
or_none None = refl
or_none (Some x) = refl

-- if the first of two results is none, both are
pub both_none : {X : Type 0} (a b : Option X) → option_or a b ≡ None → (a ≡ None) × (b ≡ None)
both_none None b e = (refl, e)
both_none (Some x) b e = absurd (cc)

module _ (of : Group → List HandlerData) (p : HandlerData → Bool) (new : Group) where
  -- a group without a result doesn't change the search
  unchanged : (gs : List Group) → find p (of new) ≡ None →
      find p (flat_map of (with_group new gs)) ≡ find p (flat_map of gs)
  unchanged [] none = find-append p (of new) [] ∙ ap (λ o. option_or o None) none
  unchanged (g ∷ gs) none = by (nat_lt new.extension g.extension) (unchanged gs none)
    where
      by : (b : Bool) → find p (flat_map of (with_group new gs)) ≡ find p (flat_map of gs) →
          find p (flat_map of (if b then new ∷ g ∷ gs else g ∷ with_group new gs))
          ≡ find p (flat_map of (g ∷ gs))
      by true rest =
          find-append p (of new) (flat_map of (g ∷ gs))
          ∙ ap (λ o. option_or o (find p (flat_map of (g ∷ gs)))) none
      by false rest =
          find-append p (of g) (flat_map of (with_group new gs))
          ∙ ap (option_or (find p (of g))) rest
          ∙ sym (find-append p (of g) (flat_map of gs))

  -- a result that no group has is found in the added group
  first_found : (gs : List Group) → find p (flat_map of gs) ≡ None →
      find p (flat_map of (with_group new gs)) ≡ find p (of new)
  first_found [] none = find-append p (of new) [] ∙ or_none (find p (of new))
  first_found (g ∷ gs) none =
      let each = both_none (find p (of g)) (find p (flat_map of gs))
      (sym (find-append p (of g) (flat_map of gs)) ∙ none) in
      by (nat_lt new.extension g.extension) each.0 (first_found gs each.1)
    where
      by : (b : Bool) → find p (of g) ≡ None →
          find p (flat_map of (with_group new gs)) ≡ find p (of new) →
          find p (flat_map of (if b then new ∷ g ∷ gs else g ∷ with_group new gs)) ≡ find p (of new)
      by true first rest =
          find-append p (of new) (flat_map of (g ∷ gs))
          ∙ ap (option_or (find p (of new))) none ∙ or_none (find p (of new))
      by false first rest =
          find-append p (of g) (flat_map of (with_group new gs))
          ∙ ap (λ o. option_or o (find p (flat_map of (with_group new gs)))) first ∙ rest

abbrev all_of : Group → List HandlerData
all_of g = g.codes.handlers

-- the same among live handlers, by an added group whose handlers are live
module _ (p : HandlerData → Bool) (extension : ℕ) (codes : CodesData) where
  old_found : (gs : List Group) → find p codes.handlers ≡ None →
      find p (live_in (with_codes extension codes gs)) ≡ find p (live_in gs)
  old_found gs none = unchanged live_of p (live_group extension codes) gs none

  new_found : (gs : List Group) → find p (live_in gs) ≡ None →
      find p (live_in (with_codes extension codes gs)) ≡ find p codes.handlers
  new_found gs none = first_found live_of p (live_group extension codes) gs none

-- ---- free names

-- a handler has another name than those before it
pub free : (above hs : List HandlerData) → has_taken above hs ≡ false → (name : List ℕ) (h : HandlerData) →
    handler_named name above ≡ Some h → handler_named name hs ≡ None
free above [] e name h is = refl
free above (x ∷ hs) e name h is =
    let each = or_false (is_taken above x) (has_taken (above ++ x ∷ []) hs) e in
    by (bytes_eq name x.command) refl (or_false (is_reserved x.command) _ each.0).1
    (free (above ++ x ∷ []) hs each.1 name h
    (find-append (λ g. bytes_eq name g.command) above (x ∷ [])
    ∙ ap (λ o. option_or o (handler_named name (x ∷ []))) is))
  where
    by : (b : Bool) → bytes_eq name x.command ≡ b → is_some (handler_named x.command above) ≡ false →
        handler_named name hs ≡ None → cond b (Some x) (handler_named name hs) ≡ None
    by true same other rest =
        let its : name ≡ x.command = (bytes_eq-Decides name x.command).0 same in
        absurd (false≢true (sym other ∙ ap (λ n. is_some (handler_named n above)) (sym its) ∙ ap is_some is))
    by false same other rest = rest

-- and than each native
pub unreserved : (above hs : List HandlerData) → has_taken above hs ≡ false → (name : List ℕ) (h : HandlerData) →
    handler_named name hs ≡ Some h → named name ≡ None
unreserved above [] e name h is = absurd (cc)
unreserved above (x ∷ hs) e name h is =
    let each = or_false (is_taken above x) (has_taken (above ++ x ∷ []) hs) e in
    by (bytes_eq name x.command) refl (or_false (is_reserved x.command) _ each.0).0
    (unreserved (above ++ x ∷ []) hs each.1 name h) is
  where
    by : (b : Bool) → bytes_eq name x.command ≡ b → is_reserved x.command ≡ false →
        (handler_named name hs ≡ Some h → named name ≡ None) →
        cond b (Some x) (handler_named name hs) ≡ Some h →
        named name ≡ None
    by true same plain rest is =
        let its : name ≡ x.command = (bytes_eq-Decides name x.command).0 same in
        ap named its ∙ nothing (named x.command) (or_false (is_some (named x.command)) _ plain).0
    by false same plain rest is = rest is

-- ---- handlers that become live

-- if live commands stay live and some handlers become live, those that may join are verified then
module _ (live : Live) (handlers : List HandlerData) (new : Table) (stay : Stays (table_of live) new)
    (come : (name : List ℕ) (h : HandlerData) → handler_named name handlers ≡ Some h →
    new name ≡ Some (Coded h)) where
  -- the declaration of one of the handlers is that of the live command afterwards
  declared_comes : (o : Option (List ℕ)) (d : Declaration) →
      option_map (λ (g : HandlerData). g.signature)
      (option_and_then (λ name. handler_named name handlers) o) ≡ Some d →
      option_map declared_by (option_and_then new o) ≡ Some d
  declared_comes None d e = absurd (cc)
  declared_comes (Some name) d e = by (handler_named name handlers) refl e
    where
      by : (o : Option HandlerData) → handler_named name handlers ≡ o →
          option_map (λ (g : HandlerData). g.signature) o ≡ Some d →
          option_map declared_by (new name) ≡ Some d
      by None is e = absurd (cc)
      by (Some h) is e = ap (option_map declared_by) (come name h is) ∙ e

  -- a handler that may join is verified afterwards
  pub joins : (h : HandlerData) → MayJoin live handlers h → IsVerified new h
  joins h may = record {
    commands = may.commands;
    accepted = may.accepted;
    callees = λ p n d c. ⊎_elim
        (declared_stays (table_of live) new (slice_get h.calls n) (λ name c is. stay name c) d)
        (declared_comes (slice_get h.calls n) d) (may.callees p n d c);
  }

-- ---- the live commands after the addition

-- an added handler has another name than those that are there, also those that aren't live
module _ (extension : ℕ) (codes : CodesData) (live : Live)
    (untaken : has_taken (handlers_in live.code) codes.handlers ≡ false) (apart : AreApart (handlers_in live.code)) where
  abbrev then_live : Live
  then_live = with_code extension codes live

  -- a live handler's name is free of added handlers
  others : (name : List ℕ) (h : HandlerData) → handler_named name (live_in live.code) ≡ Some h →
      handler_named name codes.handlers ≡ None
  others name h is =
      free (handlers_in live.code) codes.handlers untaken name h (live_found live.code name h apart is)

  handler_stays : (name : List ℕ) (c : Callee) (o : Option HandlerData) →
      handler_named name (live_in live.code) ≡ o → option_map Coded o ≡ Some c →
      option_map Coded (handler_named name (live_in then_live.code)) ≡ Some c
  handler_stays name c None is e = absurd (cc)
  handler_stays name c (Some h) is e =
      ap (option_map Coded) (old_found (λ g. bytes_eq name g.command) extension codes live.code (others name h is) ∙ is)
      ∙ e

  each_stays : (o : Option Native) (name : List ℕ) (c : Callee) → callee_by o name live ≡ Some c →
      callee_by o name then_live ≡ Some c
  each_stays None name c e = handler_stays name c (handler_named name (live_in live.code)) refl e
  each_stays (Some n) name c e = e

  pub stays : Stays (table_of live) (table_of then_live)
  stays name c e = each_stays (named name) name c e

  -- the name of an added handler was free
  was_free : (name : List ℕ) (h : HandlerData) → handler_named name codes.handlers ≡ Some h →
      (o : Option HandlerData) →
      handler_named name (live_in live.code) ≡ o → o ≡ None
  was_free name h is None before = refl
  was_free name h is (Some g) before = let none = others name g before in absurd (cc)

  comes : (name : List ℕ) (h : HandlerData) → handler_named name codes.handlers ≡ Some h →
      handler_named name (live_in then_live.code) ≡ Some h
  comes name h is =
      new_found (λ g. bytes_eq name g.command) extension codes live.code
      (was_free name h is (handler_named name (live_in live.code)) refl) ∙ is

  pub comes_live : (name : List ℕ) (h : HandlerData) → handler_named name codes.handlers ≡ Some h →
      table_of then_live name ≡ Some (Coded h)
  comes_live name h is =
      coded_live name then_live h (unreserved (handlers_in live.code) codes.handlers untaken name h is)
      (comes name h is)

  -- each live handler is verified afterwards, if the added ones may join
  verified_then : All (MayJoin live codes.handlers) codes.handlers → IsSound live →
      (name : List ℕ) (h : HandlerData) → named name ≡ None →
      handler_named name (live_in then_live.code) ≡ Some h →
      (o : Option HandlerData) → handler_named name codes.handlers ≡ o → IsVerified (table_of then_live) h
  verified_then all sound name h none is None before =
      verified_stays (table_of live) (table_of then_live) stays h
      (sound.verified name h (coded_live name live h none
      (sym (old_found (λ g. bytes_eq name g.command) extension codes live.code before) ∙ is)))
  verified_then all sound name h none is (Some g) before =
      let same : g ≡ h = cc (comes name g before, is) in
      joins live codes.handlers (table_of then_live) stays comes_live h
      (found_all (MayJoin live codes.handlers) (λ g. bytes_eq name g.command) codes.handlers h
      all (before ∙ ap Some same))

-- ---- a registry with more code

-- all code is verified
checked_more : (new : Group) (gs : List Group) → checked_in new.codes ≡ new.codes.handlers → AllChecked gs →
    AllChecked (with_group new gs)
checked_more new [] own checked = (own, tt)
checked_more new (g ∷ gs) own checked = by (nat_lt new.extension g.extension) (checked_more new gs own checked.1)
  where
    by : (b : Bool) → AllChecked (with_group new gs) →
        AllChecked (if b then new ∷ g ∷ gs else g ∷ with_group new gs)
    by true rest = (own, checked)
    by false rest = (checked.0, rest)

-- no native's name finds a handler
free_more : (extension : ℕ) (codes : CodesData) (live : Live) → has_taken (handlers_in live.code) codes.handlers ≡ false →
    AreFree live.code → AreFree (with_code extension codes live).code
free_more extension codes live untaken all name native is =
    by (handler_named name codes.handlers) refl
  where
    by : (o : Option HandlerData) → handler_named name codes.handlers ≡ o →
        handler_named name (handlers_in (with_codes extension codes live.code)) ≡ None
    by None none =
        unchanged all_of (λ g. bytes_eq name g.command) (live_group extension codes) live.code none
        ∙ all name native is
    by (Some h) found =
        let plain = unreserved (handlers_in live.code) codes.handlers untaken name h found in absurd (cc)

-- handlers that may join, with free names, keep a registry sound
pub joined_stays_sound : (extension : ℕ) (codes : CodesData) (live : Live) →
    has_taken (handlers_in live.code) codes.handlers ≡ false → checked_in codes ≡ codes.handlers →
    All (MayJoin live codes.handlers) codes.handlers → IsSound live →
    IsSound (with_code extension codes live)
joined_stays_sound extension codes live untaken own all sound = record {
  checked = checked_more (live_group extension codes) live.code own sound.checked;
  apart = put_stays (live_group extension codes) live.code (with_code extension codes live).code
      (ap (λ b. if b then Some AlreadyExists else None) untaken) sound.apart refl;
  free = free_more extension codes live untaken sound.free;
  verified = λ name h e.
      let is = coded_by (named name) name (with_code extension codes live) h e in
      verified_then extension codes live untaken sound.apart all sound name h is.0 is.1
      (handler_named name codes.handlers) refl;
}

none_checked : (b : Bool) (hs : List HandlerData) → hs ≡ [] → (if b then hs else []) ≡ hs
none_checked true hs none = refl
none_checked false hs none = sym none

-- code without a handler may join
pub no_code_stays_sound : NoCodeStaysSound
no_code_stays_sound extension codes live none =
    joined_stays_sound extension codes live (ap (has_taken (handlers_in live.code)) none)
    (none_checked (is_some codes.callees) codes.handlers none)
    (subst (λ hs. All (MayJoin live hs) hs) (sym none) (λ k d lt. absurd (omega (arith, lt))))
