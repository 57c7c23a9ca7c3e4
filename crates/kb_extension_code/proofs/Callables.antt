-- Where the commands that an extension's handlers may call come from.
use Rattle.std.proofs.Common.{◌≡◌, ◌∙◌, ◌⊎◌, inl, inr, ℕ, suc, Bool, true, false, cond, List, [], ◌∷◌, ◌++◌, Option}
use Rattle.std.proofs.Common.{Some, None, refl, sym, ap, subst, arith, is_some, bytes_eq, nat_eq}
use Rattle.std.proofs.Common.{map as map_list, if◌then◌else◌}
use Rattle.std.specs.Prelude.{slice_get, option_map, not}
use Rattle.std.specs.FinMap as map
use Rattle.std.specs.List.{All}
use Rattle.std.specs.Option.{option_map_or}
use Rattle.std.specs.Ordering.{nat_cmp, eq_by_cmp}
use Rattle.std.specs.Cmp.Lexicographic.{slice_cmp}
use Rattle.std.specs.Cmp.Lexicographic.{nat_list_cmp_total}
use Rattle.std.proofs.lemmas.List.Elements.{All-cons, All-head, All-nil, All-tail, All-weaker}
use Rattle.std.proofs.lemmas.List.Folds.{find-append}
use Rattle.std.proofs.lemmas.Map.Text.{is_eq-slice_cmp}
use Rattle.std.proofs.lemmas.Slice.Eq.{bytes_eq-Decides}
use Rattle.kb_code.specs.Face.{are_distinct, declared_among}
use Rattle.kb_code.specs.Handler.{HandlerData, handler_named}
use Rattle.kb_core.specs.Declaration.{Declaration}
use Rattle.kb_core.specs.Native.{declaration_of, name_of, named, natives}
use Rattle.kb_core.specs.declared.native.Native.{Native}
use Rattle.kb_core.specs.declared.native.Native.TheVariants as n
use Rattle.kb_files.specs.declared.extension_file.Extension.{Extension}
use Rattle.kb_handler_table.specs.Apart.{AreApart}
use Rattle.kb_handler_table.specs.Codes.{CodesData}
use Rattle.kb_handler_table.specs.Live.{Group, found_group, handlers_in, handlers_of}
use Rattle.kb_handler_table.proofs.Apart.{by-head, past-head}
use Rattle.kb_extension_code.specs.Callable.{callable_of, dependencies_of, live_among, provided_by}
use Rattle.kb_registry.specs.Live.{Live, is_live}
use Rattle.kb_soundness.proofs.Loads.{both_none}
use Rattle.kb_soundness.proofs.Tests.{and_true}
use Rattle.kb_verify.specs.Callable.{Commands, with_first}
use Rattle.kb_verify.specs.Provider.{is_needed, with_handlers, with_natives, with_needed}
use Rattle.kb_extension_code.specs.Settled.{AreNumbered, DependsOn, IsNative}
use Rattle.kb_extension_code.proofs.Places.{number_at}

-- ---- handlers with distinct names

none_some : {X : Type 0} (o : Option X) → not (is_some o) ≡ true → o ≡ None
none_some None e = refl
none_some (Some x) e = absurd (cc)

pub distinct_apart : (hs : List HandlerData) → are_distinct hs ≡ true → AreApart hs
distinct_apart [] is = tt
distinct_apart (h ∷ hs) is =
    let parts = and_true (not (is_some (handler_named h.command hs))) (are_distinct hs) is in
    (none_some (handler_named h.command hs) parts.0, distinct_apart hs parts.1)

-- each is found by its name
pub apart_found : (hs : List HandlerData) → AreApart hs → All (λ h. handler_named h.command hs ≡ Some h) hs
apart_found [] apart = All-nil (λ h. handler_named h.command [] ≡ Some h)
apart_found (x ∷ hs) apart =
    All-cons (λ h. handler_named h.command (x ∷ hs) ≡ Some h) x hs
    (by-head x.command x hs true ((bytes_eq-Decides x.command x.command).1 refl))
    (All-weaker (λ h. handler_named h.command hs ≡ Some h) (λ h. handler_named h.command (x ∷ hs) ≡ Some h)
    (λ h is. by-head h.command x hs false (past-head h.command x hs hs h apart.0 is) ∙ is) hs
    (apart_found hs apart.1))

front_apart : (xs ys : List HandlerData) → AreApart (xs ++ ys) → AreApart xs × AreApart ys
front_apart [] ys apart = (tt, apart)
front_apart (x ∷ xs) ys apart =
    let rest = front_apart xs ys apart.1 in
    let none = both_none (handler_named x.command xs) (handler_named x.command ys)
    (sym (find-append (λ (h : HandlerData). bytes_eq x.command h.command) xs ys) ∙ apart.0) in
    ((none.0, rest.0), rest.1)

-- the handlers of an extension have distinct names
pub group_apart : (owner : ℕ) (gs : List Group) → AreApart (handlers_in gs) → AreApart (handlers_of owner gs)
group_apart owner [] apart = tt
group_apart owner (g ∷ gs) apart =
    by (nat_eq g.extension owner) (group_apart owner gs parts.1)
  where
    parts : AreApart g.codes.handlers × AreApart (handlers_in gs)
    parts = front_apart g.codes.handlers (handlers_in gs) apart

    by : (b : Bool) → AreApart (handlers_of owner gs) →
        AreApart (option_map_or (λ (c : CodesData). c.handlers) (option_map (λ (g : Group). g.codes)
        (cond b (Some g) (found_group owner gs))) [])
    by true rest = parts.0
    by false rest = rest

-- a name that no handler has is none of an extension's
pub none_of_group : (owner : ℕ) (gs : List Group) (name : List ℕ) → handler_named name (handlers_in gs) ≡ None →
    handler_named name (handlers_of owner gs) ≡ None
none_of_group owner [] name none = refl
none_of_group owner (g ∷ gs) name none =
    by (nat_eq g.extension owner) (none_of_group owner gs name parts.1)
  where
    parts : (handler_named name g.codes.handlers ≡ None) × (handler_named name (handlers_in gs) ≡ None)
    parts = both_none (handler_named name g.codes.handlers) (handler_named name (handlers_in gs))
        (sym (find-append (λ (h : HandlerData). bytes_eq name h.command) g.codes.handlers (handlers_in gs)) ∙ none)

    by : (b : Bool) → handler_named name (handlers_of owner gs) ≡ None →
        handler_named name (option_map_or (λ (c : CodesData). c.handlers) (option_map (λ (g : Group). g.codes)
        (cond b (Some g) (found_group owner gs))) []) ≡ None
    by true rest = parts.0
    by false rest = rest

-- ---- callable commands

named_name : (native : Native) → named (name_of native) ≡ Some native
named_name n.TypeText = refl
named_name n.DeleteLeft = refl
named_name n.DeleteRight = refl
named_name n.CursorLeft = refl
named_name n.CursorRight = refl
named_name n.BufferClear = refl
named_name n.BufferTop = refl
named_name n.BufferBottom = refl
named_name n.SetContext = refl

module _ (P : List ℕ → Declaration → Type 0) where
  -- each of the commands comes from somewhere
  abbrev Come : Commands → Type 0
  Come commands = (name : List ℕ) (d : Declaration) → map.get commands name ≡ Some d → P name d

  abbrev Comes : HandlerData → Type 0
  Comes h = P h.command h.signature

  none_come : Come map.empty
  none_come name d is =
      let none : ◌≡◌ {A = Option Declaration} (map.get (map.empty {R = slice_cmp nat_cmp}) name) None =
      map.get-empty (slice_cmp nat_cmp) name in
      absurd (cc)

  first_comes : (name : List ℕ) (d : Declaration) (commands : Commands) → P name d → Come commands →
      Come (with_first name d commands)
  first_comes name d commands there come = by (map.contains_key commands name)
    where
      inserted : (q : List ℕ) (e : Declaration) (b : Bool) → eq_by_cmp (slice_cmp nat_cmp) q name ≡ b →
          cond b (Some d) (map.get commands q) ≡ Some e → P q e
      inserted q e true same is =
          let its : q ≡ name = (bytes_eq-Decides q name).0 (sym (is_eq-slice_cmp q name) ∙ same) in
          let what : d ≡ e = cc in
          subst (λ n. P n e) (sym its) (subst (P name) what there)
      inserted q e false same is = come q e is

      by : (b : Bool) → Come (if b then commands else map.insert commands name d)
      by true = come
      by false = λ q e is.
          inserted q e (eq_by_cmp (slice_cmp nat_cmp) q name) refl
          (sym (map.get-insert nat_list_cmp_total commands name d q) ∙ is)

  natives_come : (live : Live) →
      ((native : Native) → is_live native live ≡ true → P (name_of native) (declaration_of native)) →
      (ns : List Native) (commands : Commands) → Come commands → Come (with_natives (live_among ns live) commands)
  natives_come live each [] commands come = come
  natives_come live each (native ∷ ns) commands come =
      by (natives_come live each ns) (is_live native live) refl
    where
      by : ((others : Commands) → Come others → Come (with_natives (live_among ns live) others)) → (b : Bool) →
          is_live native live ≡ b →
          Come (with_natives (if b then native ∷ live_among ns live else live_among ns live) commands)
      by on true is =
          on (with_first (name_of native) (declaration_of native) commands)
          (first_comes (name_of native) (declaration_of native) commands (each native is) come)
      by on false is = on commands come

  handlers_come : (hs : List HandlerData) → All Comes hs → (commands : Commands) → Come commands →
      Come (with_handlers hs commands)
  handlers_come [] all commands come = come
  handlers_come (h ∷ hs) all commands come =
      handlers_come hs (All-tail Comes h hs all) (with_first h.command h.signature commands)
      (first_comes h.command h.signature commands (All-head Comes h hs all) come)

  needed_come : (live : Live) (ids : List (List ℕ)) (es : List Extension) →
      ((k : ℕ) (e : Extension) → slice_get es k ≡ Some e → is_needed e.manifest.id ids ≡ true →
      All Comes (handlers_of e.number live.code)) → (commands : Commands) → Come commands →
      Come (with_needed ids (map_list (provided_by live) es) commands)
  needed_come live ids [] each commands come = come
  needed_come live ids (e ∷ es) each commands come =
      needed_come live ids es (λ k x at. each (suc k) x at) _ (by (is_needed e.manifest.id ids) refl)
    where
      by : (b : Bool) → is_needed e.manifest.id ids ≡ b →
          Come (if b then with_handlers (handlers_of e.number live.code) commands else commands)
      by true is = handlers_come (handlers_of e.number live.code) (each 0 e refl is) commands come
      by false is = come

-- a command is native and live, or one of the handlers, or one of an extension that theirs depends on
abbrev pub ComesFrom : List Extension → ℕ → List HandlerData → Live → List ℕ → Declaration → Type 0
ComesFrom es number hs live name d =
    ((its : IsNative name d) × (is_live its.native live ≡ true))
    ⊎ ((declared_among hs name ≡ Some d)
    ⊎ ((owner : ℕ) × DependsOn es number owner × (declared_among (handlers_of owner live.code) name ≡ Some d)))

module _ (es : List Extension) (number : ℕ) (e : Extension) (hs : List HandlerData) (live : Live)
    (at : slice_get es number ≡ Some e) (numbered : AreNumbered 0 es) (apart : AreApart (handlers_in live.code)) where
  abbrev IsFrom : List ℕ → Declaration → Type 0
  IsFrom = ComesFrom es number hs live

  declares : (hs : List HandlerData) (h : HandlerData) → handler_named h.command hs ≡ Some h →
      declared_among hs h.command ≡ Some h.signature
  declares hs h is = ap (option_map (λ (h : HandlerData). h.signature)) is

  native_from : (native : Native) → is_live native live ≡ true → IsFrom (name_of native) (declaration_of native)
  native_from native is =
      inl (record { native = native; is_named = named_name native; declares = refl }, is)

  needed_from : (k : ℕ) (x : Extension) → slice_get es k ≡ Some x →
      is_needed x.manifest.id (dependencies_of number es) ≡ true →
      All (λ h. IsFrom h.command h.signature) (handlers_of x.number live.code)
  needed_from k x there needed =
      let its : x.number ≡ k = number_at 0 es k k x numbered there (omega arith) in
      let depends : DependsOn es number x.number = record {
        extension = e;
        at = at;
        dependency = x;
        there = ap (slice_get es) its ∙ there;
        needed =
            ap (λ (o : Option Extension). is_needed x.manifest.id
            (option_map_or (λ (e : Extension). e.manifest.dependencies) o [])) (sym at)
            ∙ needed;
      } in
      All-weaker (λ h. handler_named h.command (handlers_of x.number live.code) ≡ Some h)
      (λ h. IsFrom h.command h.signature)
      (λ h is. inr (inr (x.number, depends, declares (handlers_of x.number live.code) h is)))
      (handlers_of x.number live.code)
      (apart_found (handlers_of x.number live.code) (group_apart x.number live.code apart))

  pub callable_comes : All (λ h. handler_named h.command hs ≡ Some h) hs → (name : List ℕ) (d : Declaration) →
      map.get (callable_of es number hs live) name ≡ Some d → ComesFrom es number hs live name d
  callable_comes found =
      handlers_come IsFrom hs
      (All-weaker (λ h. handler_named h.command hs ≡ Some h) (λ h. IsFrom h.command h.signature)
      (λ h is. inr (inl (declares hs h is))) hs found) _
      (needed_come IsFrom live (dependencies_of number es) es needed_from _
      (natives_come IsFrom live native_from natives map.empty (none_come IsFrom)))
