-- The commands that an extension's handlers may call are live or the extension's own, so no callee is
-- missing.
use Rattle.std.proofs.Common.{◌≡◌, ℕ, Bool, true, false, cond, List, [], ◌∷◌, Option, Some, None, refl}
use Rattle.std.proofs.Common.{sym, ap, ◌∙◌}
use Rattle.std.proofs.Common.{map as map_list, if◌then◌else◌}
use Rattle.std.specs.Prelude.{slice_get, option_map, option_and_then}
use Rattle.std.specs.FinMap as map
use Rattle.std.specs.List.{All}
use Rattle.std.specs.Option.{option_or}
use Rattle.std.specs.Ordering.{nat_cmp, eq_by_cmp}
use Rattle.std.specs.Cmp.Lexicographic.{slice_cmp}
use Rattle.std.specs.Cmp.Lexicographic.{nat_list_cmp_total}
use Rattle.std.proofs.lemmas.Map.Text.{is_eq-slice_cmp}
use Rattle.std.proofs.lemmas.List.Elements.{All-head, All-tail, All-weaker}
use Rattle.std.proofs.lemmas.Slice.Eq.{bytes_eq-Decides}
use Rattle.kb_code.specs.Handler.{HandlerData, handler_named}
use Rattle.kb_code.specs.Commands.{Coded, Plain, declared_by}
use Rattle.kb_handler_table.specs.Live.{handlers_in, handlers_of, has_taken}
use Rattle.kb_core.specs.Declaration.{Declaration}
use Rattle.kb_core.specs.Native.{name_of, named, natives, declaration_of}
use Rattle.kb_core.specs.declared.native.Native.{Native}
use Rattle.kb_core.specs.declared.native.Native.TheVariants as n
use Rattle.kb_files.specs.declared.extension_file.Extension.{Extension}
use Rattle.kb_registry.specs.Live.{Live, callee, callee_by, is_live}
use Rattle.kb_registry.specs.Missing.{declared_live, is_there, unless_there}
use Rattle.kb_code.specs.Face.{declares}
use Rattle.kb_registry.specs.Missing.{missing_in, missing_from}
use Rattle.kb_verify.specs.Accepted.{AreDeclared, CheckedHandler}
use Rattle.kb_verify.specs.Callable.{Commands, with_first}
use Rattle.kb_code.specs.Same.{same_declaration}
use Rattle.kb_verify.specs.declared.callees.Callee.{Callee}
use Rattle.kb_code.proofs.SameLemmas.{same_is_equal}
use Rattle.kb_verify.specs.Provider.{is_needed, with_handlers, with_natives, with_needed}
use Rattle.kb_extension_code.specs.Callable.{callable_of, dependencies_of, live_among}
use Rattle.kb_extension_code.specs.Callable.{provided_by}
use Rattle.kb_extension_code.specs.Verified.{IsVerified}
use Rattle.kb_extension_code.proofs.FoundLemmas.{AreFound, all_of_group, found_among}
use Rattle.kb_soundness.proofs.Tests.{or_left, or_right}

same_tested : (d : Declaration) → same_declaration d d ≡ true
same_tested d = (same_is_equal d d).1 refl

named_name : (native : Native) → named (name_of native) ≡ Some native
named_name n.TypeText = refl
named_name n.DeleteLeft = refl
named_name n.DeleteRight = refl
named_name n.CursorLeft = refl
named_name n.CursorRight = refl
named_name n.BufferClear = refl
named_name n.BufferTop = refl
named_name n.BufferBottom = refl
named_name n.SetContext = refl

module _ (own : List HandlerData) (live : Live) where
  abbrev IsThere : HandlerData → Type 0
  IsThere h = is_there own live h.signature h.command ≡ true

  -- each of the commands is live, or one of the handlers
  abbrev pub Backs : Commands → Type 0
  Backs commands =
      (name : List ℕ) (d : Declaration) → map.get commands name ≡ Some d → is_there own live d name ≡ true

  none_backs : Backs map.empty
  none_backs name d is =
      let none : ◌≡◌ {A = Option Declaration} (map.get (map.empty {R = slice_cmp nat_cmp}) name) None =
      map.get-empty (slice_cmp nat_cmp) name in
      absurd (cc)

  -- the same with one more command
  first_backs : (name : List ℕ) (d : Declaration) (commands : Commands) → is_there own live d name ≡ true
      → Backs commands → Backs (with_first name d commands)
  first_backs name d commands there backs = by (map.contains_key commands name)
    where
      inserted : (q : List ℕ) (e : Declaration) (b : Bool) → eq_by_cmp (slice_cmp nat_cmp) q name ≡ b
          → cond b (Some d) (map.get commands q) ≡ Some e → is_there own live e q ≡ true
      inserted q e true same is =
          let its : q ≡ name = (bytes_eq-Decides q name).0 (sym (is_eq-slice_cmp q name) ∙ same) in
          let what : d ≡ e = cc in
          ap (is_there own live e) its ∙ ap (λ x. is_there own live x name) (sym what) ∙ there
      inserted q e false same is = backs q e is

      by : (b : Bool) → Backs (if b then commands else map.insert commands name d)
      by true = backs
      by false = λ q e is.
          inserted q e (eq_by_cmp (slice_cmp nat_cmp) q name) refl
          (sym (map.get-insert nat_list_cmp_total commands name d q) ∙ is)

  -- a live native is there
  native_there : (native : Native) → is_live native live ≡ true
      → is_there own live (declaration_of native) (name_of native) ≡ true
  native_there native is =
      let found : declared_live live (name_of native) ≡ Some (declaration_of native) =
      ap (λ o. option_map declared_by (callee_by o (name_of native) live)) (named_name native)
      ∙ ap (λ b. option_map declared_by (option_map Plain (if b then Some native else None))) is in
      or_left (declares (declared_live live (name_of native)) (declaration_of native)) _
      (ap (λ o. declares o (declaration_of native)) found ∙ same_tested (declaration_of native))

  natives_back : (ns : List Native) (commands : Commands) → Backs commands
      → Backs (with_natives (live_among ns live) commands)
  natives_back [] commands backs = backs
  natives_back (native ∷ ns) commands backs = by (natives_back ns) (is_live native live) refl
    where
      by : ((others : Commands) → Backs others → Backs (with_natives (live_among ns live) others)) → (b : Bool)
          → is_live native live ≡ b
          → Backs (with_natives (if b then native ∷ live_among ns live else live_among ns live) commands)
      by on true is =
          on (with_first (name_of native) (declaration_of native) commands)
          (first_backs (name_of native) (declaration_of native) commands (native_there native is) backs)
      by on false is = on commands backs

  handlers_back : (hs : List HandlerData) → All IsThere hs → (commands : Commands) → Backs commands
      → Backs (with_handlers hs commands)
  handlers_back [] all commands backs = backs
  handlers_back (h ∷ hs) all commands backs =
      handlers_back hs (All-tail IsThere h hs all) (with_first h.command h.signature commands)
      (first_backs h.command h.signature commands (All-head IsThere h hs all) backs)

  -- a live handler that its name finds is there
  live_there : (h : HandlerData) → callee h.command live ≡ Some (Coded h) → IsThere h
  live_there h is =
      or_left (declares (declared_live live h.command) h.signature) _
      (ap (λ o. declares (option_map declared_by o) h.signature) is ∙ same_tested h.signature)

  -- and so is an added handler
  own_there : (h : HandlerData) → handler_named h.command own ≡ Some h → IsThere h
  own_there h is =
      or_right (declares (declared_live live h.command) h.signature) _
      (ap (λ o. declares (option_map (λ (g : HandlerData). g.signature) o) h.signature) is ∙ same_tested h.signature)

  needed_back : AreFound live → (dependencies : List (List ℕ)) (extensions : List Extension) (commands : Commands)
      → Backs commands → Backs (with_needed dependencies (map_list (provided_by live) extensions) commands)
  needed_back found dependencies [] commands backs = backs
  needed_back found dependencies (e ∷ rest) commands backs =
      needed_back found dependencies rest _ (by (is_needed e.manifest.id dependencies))
    where
      all : All IsThere (handlers_of e.number live.code)
      all = All-weaker (λ h. callee h.command live ≡ Some (Coded h)) IsThere live_there (handlers_of e.number live.code)
          (all_of_group (λ h. callee h.command live ≡ Some (Coded h)) e.number live.code found)

      by : (b : Bool) → Backs (if b then with_handlers (handlers_of e.number live.code) commands else commands)
      by true = handlers_back (handlers_of e.number live.code) all commands backs
      by false = backs

  callable_backs : AreFound live → has_taken (handlers_in live.code) own ≡ false → (extensions : List Extension)
      (number : ℕ) → Backs (callable_of extensions number own live)
  callable_backs found untaken extensions number =
      handlers_back own
      (All-weaker (λ h. handler_named h.command own ≡ Some h) IsThere own_there own
      (found_among (handlers_in live.code) own untaken)) _
      (needed_back found (dependencies_of number extensions) extensions _ (natives_back natives map.empty none_backs))

  -- no callee of a handler is missing
  none_missing : (commands : Commands) → Backs commands → (h : HandlerData) (callees : List Callee)
      → AreDeclared commands h callees → missing_in (is_there own live) h callees ≡ None
  none_missing commands backs h [] are = refl
  none_missing commands backs h (c ∷ callees) are =
      ap (λ o. option_or o (missing_in (is_there own live) h callees)) (there (slice_get h.calls c.index) are.0)
      ∙ none_missing commands backs h callees are.1
    where
      there : (o : Option (List ℕ)) → option_and_then (map.get commands) o ≡ Some c.signature
          → unless_there (is_there own live) c.signature o ≡ None
      there None e = refl
      there (Some name) e = ap (λ b. if b then None else Some name) (backs name c.signature e)

  -- nor one of several handlers
  pub none_missing_from : (commands : Commands) → Backs commands → (vs : List CheckedHandler)
      → All (IsVerified commands) vs
      → missing_from (is_there own live) (map_list (λ v. v.handler) vs) (map_list (λ v. v.callees) vs) ≡ None
  none_missing_from commands backs [] all = refl
  none_missing_from commands backs (v ∷ vs) all =
      let its = All-head (IsVerified commands) v vs all in
      ap (λ o. option_or o (missing_from (is_there own live) (map_list (λ v. v.handler) vs) (map_list (λ v. v.callees) vs)))
      (none_missing commands backs v.handler v.callees its.callees.declared)
      ∙ none_missing_from commands backs vs (All-tail (IsVerified commands) v vs all)

  -- verified handlers with free names have no missing callee
  pub lacks_nothing : AreFound live → has_taken (handlers_in live.code) own ≡ false → (extensions : List Extension)
      (number : ℕ) (vs : List CheckedHandler) → All (IsVerified (callable_of extensions number own live)) vs
      → missing_from (is_there own live) (map_list (λ v. v.handler) vs) (map_list (λ v. v.callees) vs) ≡ None
  lacks_nothing found untaken extensions number vs all =
      none_missing_from (callable_of extensions number own live) (callable_backs found untaken extensions number) vs all
