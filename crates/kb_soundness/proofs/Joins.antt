-- Verified code without missing callees keeps live handlers verified when it is added.
use Rattle.std.proofs.Common.{◌≡◌, ◌⊎◌, inl, inr, ⊎_elim, ℕ, zero, suc, Bool, true, false, List, [], ◌∷◌}
use Rattle.std.proofs.Common.{is_some, Option, Some, None, refl, sym, ap, ◌∙◌, subst, if◌then◌else◌, arith}
use Rattle.std.specs.Prelude.{slice_get, option_map, option_and_then}
use Rattle.std.specs.List.{All}
use Rattle.kb_core.specs.Declaration.{Declaration}
use Rattle.kb_code.specs.Handler.{HandlerData, handler_named}
use Rattle.kb_code.specs.Commands.{declared_by}
use Rattle.kb_handler_table.specs.Codes.{HaveCallees}
use Rattle.kb_handler_table.specs.Live.{handlers_in, has_taken}
use Rattle.kb_registry.specs.declared.fault.RegistryFault.TheVariants.{AlreadyExists}
use Rattle.kb_registry.specs.CodeFault.{callee_fault}
use Rattle.kb_registry.specs.Live.{Live, table_of}
use Rattle.kb_registry.specs.Missing.{declared_live, is_there, unless_there}
use Rattle.kb_code.specs.Face.{declares, declared_among}
use Rattle.kb_registry.specs.Missing.{missing_in, missing_from, missing_by, missing_callee}
use Rattle.kb_verify.specs.declared.callees.Callee.{Callee}
use Rattle.kb_verify.specs.Callable.{Commands}
use Rattle.kb_verify.specs.Accepted.{IsChecked, IsCallee, AreCallees, EachChecked}
use Rattle.kb_verify.proofs.Listed as verifier
use Rattle.kb_code.proofs.SameLemmas.{same_is_equal}
use Rattle.kb_soundness.specs.Sound.{live_declaration_at}
use Rattle.kb_soundness.specs.Stays.{CodeStaysSound}
use Rattle.kb_soundness.proofs.Tests.{or_elim}
use Rattle.kb_soundness.proofs.Loads.{MayJoin, declaration_among, both_none, joined_stays_sound}

-- code that isn't refused has no taken name and no missing callee
not_refused : (taken : Bool) (missing : Option (List ℕ)) →
    (if taken then Some AlreadyExists else callee_fault missing) ≡ None → (taken ≡ false) × (missing ≡ None)
not_refused false None e = (refl, refl)
not_refused false (Some name) e = absurd (cc)
not_refused true missing e = absurd (cc)

-- a declaration that `declares` accepts is equal
declares_it : (found : Option Declaration) (d : Declaration) → declares found d ≡ true → found ≡ Some d
declares_it None d is = absurd (cc)
declares_it (Some e) d is = ap Some (sym ((same_is_equal d e).0 is))

-- a name that isn't missing is there
none_missing : (there : Bool) (name : List ℕ) → (if there then None else Some name) ≡ None → there ≡ true
none_missing true name e = refl
none_missing false name e = absurd (cc)

module _ (handlers : List HandlerData) (live : Live) where
  -- a command that is there is live, or one of the handlers
  live_or_among : (d : Declaration) (name : List ℕ) → is_there handlers live d name ≡ true →
      (declared_live live name ≡ Some d) ⊎ (declared_among handlers name ≡ Some d)
  live_or_among d name is = ⊎_elim
      (λ e. inl (declares_it (declared_live live name) d e))
      (λ e. inr (declares_it (declared_among handlers name) d e))
      (or_elim (declares (declared_live live name) d) (declares (declared_among handlers name) d) is)

  -- so is the command at an index that isn't missing
  found_at : (h : HandlerData) (n : ℕ) (d : Declaration) (name : List ℕ) → slice_get h.calls n ≡ Some name →
      unless_there (is_there handlers live) d (slice_get h.calls n) ≡ None →
      (live_declaration_at (table_of live) h n ≡ Some d) ⊎ (declaration_among handlers h n ≡ Some d)
  found_at h n d name at none = ⊎_elim
      (λ e. inl (ap (λ o. option_map declared_by (option_and_then (table_of live) o)) at ∙ e))
      (λ e. inr (ap (λ o. option_map (λ (g : HandlerData). g.signature)
      (option_and_then (λ name. handler_named name handlers) o)) at ∙ e))
      (live_or_among d name (none_missing (is_there handlers live d name) name
      (sym (ap (unless_there (is_there handlers live) d) at) ∙ none)))

  -- if none of a handler's callees is missing, the one at a position isn't
  not_missing : (h : HandlerData) (callees : List Callee) (k : ℕ) (c : Callee) →
      missing_in (is_there handlers live) h callees ≡ None → slice_get callees k ≡ Some c →
      unless_there (is_there handlers live) c.signature (slice_get h.calls c.index) ≡ None
  not_missing h [] k c none at = absurd (cc)
  not_missing h (x ∷ callees) zero c none at =
      let same : x ≡ c = cc in
      subst (λ y. unless_there (is_there handlers live) y.signature (slice_get h.calls y.index) ≡ None) same
      (both_none (unless_there (is_there handlers live) x.signature (slice_get h.calls x.index))
      (missing_in (is_there handlers live) h callees) none).0
  not_missing h (x ∷ callees) (suc k) c none at =
      not_missing h callees k c
      (both_none (unless_there (is_there handlers live) x.signature (slice_get h.calls x.index))
      (missing_in (is_there handlers live) h callees) none).1 at

  -- each callee is listed, has a name, and is there
  callee_there : (commands : Commands) (h : HandlerData) (callees : List Callee) →
      AreCallees commands h callees → missing_in (is_there handlers live) h callees ≡ None →
      (place index : ℕ) (d : Declaration) → IsCallee commands h place index d →
      (live_declaration_at (table_of live) h index ≡ Some d) ⊎ (declaration_among handlers h index ≡ Some d)
  callee_there commands h callees are none place index d is =
      let has = verifier.listed commands h callees are place index d is in
      let c : Callee = record { index = index; signature = d } in
      let its = verifier.named commands h callees are has.0 c has.1 in
      found_at h index d its.name its.named (not_missing h callees has.0 c none has.1)

  -- a verified handler without a missing callee may join
  joins : (h : HandlerData) (callees : List Callee) → IsChecked (record { handler = h; callees = callees }) →
      missing_in (is_there handlers live) h callees ≡ None → MayJoin live handlers h
  joins h callees checked none = record {
    commands = checked.0;
    accepted = checked.1;
    callees = callee_there checked.0 h callees checked.2 none;
  }

  -- so may each of several
  each_joins : (hs : List HandlerData) (all : List (List Callee)) → EachChecked hs all →
      missing_from (is_there handlers live) hs all ≡ None → All (MayJoin live handlers) hs
  each_joins [] all checked none k d lt = absurd (omega (arith, lt))
  each_joins (h ∷ hs) [] checked none k d lt = absurd checked
  each_joins (h ∷ hs) (callees ∷ all) checked none zero d lt =
      joins h callees checked.0
      (both_none (missing_in (is_there handlers live) h callees) (missing_from (is_there handlers live) hs all) none).0
  each_joins (h ∷ hs) (callees ∷ all) checked none (suc k) d lt =
      each_joins hs all checked.1
      (both_none (missing_in (is_there handlers live) h callees) (missing_from (is_there handlers live) hs all) none).1
      k d (omega (arith, lt))

  -- so may all of verified code
  pub all_join : (callees : Option (List (List Callee))) → HaveCallees handlers callees →
      missing_by (is_there handlers live) callees handlers ≡ None → All (MayJoin live handlers) handlers
  all_join None checked none = absurd checked
  all_join (Some all) checked none = each_joins handlers all checked none

-- the handlers of verified code
pub checked_whole : (callees : Option (List (List Callee))) (hs : List HandlerData) → HaveCallees hs callees →
    (if is_some callees then hs else []) ≡ hs
checked_whole None hs checked = absurd checked
checked_whole (Some all) hs checked = refl

-- code that isn't refused has free names, and all its handlers may join
pub code_stays_sound : CodeStaysSound
code_stays_sound extension codes live fault checked =
    let each = not_refused (has_taken (handlers_in live.code) codes.handlers) (missing_callee codes live)
    fault in
    joined_stays_sound extension codes live each.0 (checked_whole codes.callees codes.handlers checked)
    (all_join codes.handlers live codes.callees checked each.1)
