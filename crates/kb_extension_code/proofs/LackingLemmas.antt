-- No load finds a missing callee.
use Rattle.std.proofs.Common.{◌≡◌, ⊎_elim, ℕ, ◌+◌, Bool, true, false, List, [], ◌∷◌, Option, Some, None}
use Rattle.std.proofs.Common.{refl, sym}
use Rattle.std.proofs.Common.{ap, ◌∙◌, subst, map, if◌then◌else◌, arith}
use Rattle.std.specs.Prelude.{Result, Ok, Err, nat_eq}
use Rattle.std.specs.List.{All}
use Rattle.std.proofs.lemmas.List.Elements.{All-nil}
use Rattle.kb_files.specs.Fault.{refused_by}
use Rattle.kb_files.specs.declared.fault.LoadFault.{LoadFault}
use Rattle.kb_files.specs.declared.fault.LoadFile.TheVariants as file
use Rattle.kb_code.specs.Handler.{HandlerData}
use Rattle.kb_code.specs.Commands.{Coded}
use Rattle.kb_handler_table.specs.Codes.{checked}
use Rattle.kb_handler_table.specs.Apart.{AreApart}
use Rattle.kb_handler_table.specs.Live.{handlers_in, has_taken, live_group}
use Rattle.kb_handler_table.specs.declared.fault.CodesFault.TheVariants as codes
use Rattle.kb_handler_table.proofs.Apart.{put_stays}
use Rattle.kb_base.specs.Fault.{fault_number}
use Rattle.kb_base.specs.Refusal.{refusing}
use Rattle.kb_base.specs.declared.failure.Failure.TheVariants.{Fault}
use Rattle.kb_extension_code.specs.declared.verifying.Rejection.{Rejection}
use Rattle.kb_core.specs.declared.native.Native.{Native}
use Rattle.kb_files.specs.declared.extension_file.Extension.{Extension}
use Rattle.kb_registry.specs.CodeFault.{callee_fault}
use Rattle.kb_registry.specs.Fault as registry
use Rattle.kb_registry.specs.Live.{Live, all_registered, callee, fresh, is_live, registered}
use Rattle.kb_registry.specs.Live.{registration_fault}
use Rattle.kb_registry.specs.Live.{unless_fault}
use Rattle.kb_registry.specs.Missing.{missing_callee}
use Rattle.kb_registry.specs.declared.fault.RegistryFault.{RegistryFault}
use Rattle.kb_registry.specs.declared.fault.RegistryFault.TheVariants.{AlreadyExists, Exhausted}
use Rattle.kb_verify.specs.Callable.{Commands}
use Rattle.kb_verify.specs.Fault.{kind_of}
use Rattle.kb_verify.specs.declared.fault.Defect.TheVariants as defect
use Rattle.kb_verify.specs.declared.fault.VerifyFault.{VerifyFault}
use Rattle.kb_verify.specs.declared.fault.VerifyFault.TheVariants.{Wrong, OverBudget, OverDepth}
use Rattle.kb_extension_code.specs.Callable.{callable_of}
use Rattle.kb_extension_code.specs.Checked.{Admits, Bars, JoinAll, Joins, Refuses}
use Rattle.kb_extension_code.specs.Lacking.{NeverLacksCallees}
use Rattle.kb_extension_code.proofs.NativesLemmas.{held_alone}
use Rattle.kb_extension_code.specs.Natives.{natives_held}
use Rattle.kb_extension_code.specs.Verified.{FirstIsRejected, IsVerified}
use Rattle.kb_extension_code.proofs.BackedLemmas.{lacks_nothing}
use Rattle.kb_extension_code.proofs.FoundLemmas.{AreFound, found_with_code}

-- the number of a registry's fault, by which faults are told apart
abbrev number_of : RegistryFault → ℕ
number_of fault = fault_number (registry.kind_of fault)

-- ---- the natives

-- no registration of a closure is refused for a callee
native_number : (native : Native) (live : Live) (fault : RegistryFault)
    → registration_fault native live ≡ Some fault → number_of fault ≡ 74 → ⊥
native_number native live fault is number = by (is_live native live) (nat_eq live.made live.limit) is
  where
    by : (live_is full : Bool)
        → (if live_is then Some AlreadyExists else if full then Some Exhausted else None) ≡ Some fault → ⊥
    by true full e = let its : AlreadyExists ≡ fault = cc in let n = ap number_of its in omega (arith, n, number)
    by false true e = let its : Exhausted ≡ fault = cc in let n = ap number_of its in omega (arith, n, number)
    by false false e = absurd (cc)

natives_number : (ns : List Native) (live : Live) (fault : RegistryFault) → all_registered ns live ≡ Err fault
    → number_of fault ≡ 74 → ⊥
natives_number [] live fault e number = absurd (cc)
natives_number (native ∷ ns) live fault e number =
    by (registration_fault native live) refl (λ e. natives_number ns (registered native live) fault e number) e
  where
    by : (o : Option RegistryFault) → registration_fault native live ≡ o
        → (all_registered ns (registered native live) ≡ Err fault → ⊥)
        → unless_fault o (all_registered ns (registered native live)) ≡ Err fault → ⊥
    by None is later e = later e
    by (Some other) is later e =
        let its : other ≡ fault = cc in native_number native live fault (is ∙ ap Some its) number

-- and none adds a handler
held_number : (r : Result Live RegistryFault) (fault : LoadFault)
    → ((f : RegistryFault) → r ≡ Err f → number_of f ≡ 74 → ⊥)
    → refused_by file.Natives (refusing registry.kind_of r) ≡ Err fault → fault_number fault.refusal.kind ≡ 74 → ⊥
held_number (Ok live) fault never e number = absurd (cc)
held_number (Err f) fault never e number =
    never f refl (ap (λ (r : Result Live LoadFault). number_in r) e ∙ number)
  where
    number_in : Result Live LoadFault → ℕ
    number_in (Ok live) = 0
    number_in (Err fault) = fault_number fault.refusal.kind

first_found : (ns : List Native) (live : Live) → natives_held ns ≡ Ok live → AreFound live
first_found ns live held =
    let none = held_alone ns live held in
    subst (λ gs. All (λ h. callee h.command live ≡ Some (Coded h)) (handlers_in gs)) (sym none)
    (All-nil (λ h. callee h.command live ≡ Some (Coded h)))

-- ---- the handlers

verify_number : (fault : VerifyFault) → fault_number (kind_of fault) ≡ 74 → ⊥
verify_number (Wrong defect.MissingOperand place) e = omega (arith, e)
verify_number (Wrong defect.WrongOperand place) e = omega (arith, e)
verify_number (Wrong defect.UnknownCommand place) e = omega (arith, e)
verify_number (Wrong defect.WrongArgument place) e = omega (arith, e)
verify_number (Wrong defect.BadJump place) e = omega (arith, e)
verify_number (Wrong defect.FallsOff place) e = omega (arith, e)
verify_number (Wrong defect.ShapesDiffer place) e = omega (arith, e)
verify_number (Wrong defect.TooHigh place) e = omega (arith, e)
verify_number (OverBudget path) e = omega (arith, e)
verify_number (OverDepth place) e = omega (arith, e)

refused_number : (commands : Commands) (hs : List HandlerData) (r : Rejection)
    → FirstIsRejected commands hs r → fault_number r.kind ≡ 74 → ⊥
refused_number commands [] r first number = first
refused_number commands (h ∷ hs) r first number = ⊎_elim
    (λ is. verify_number is.0 (sym (ap (λ (r : Rejection). fault_number r.kind) is.2) ∙ number))
    (λ later. refused_number commands hs r later.1 number) first

module _ (extensions : List Extension) (extension : ℕ) (handlers : List HandlerData) (live : Live) where
  refuses_number : (fault : LoadFault) → Refuses extensions extension handlers live fault
      → fault_number fault.refusal.kind ≡ 74 → ⊥
  refuses_number fault refuses number =
      refused_number (callable_of extensions extension handlers live) handlers refuses.rejection refuses.first
      (sym (ap (λ (f : LoadFault). fault_number f.refusal.kind) refuses.is) ∙ number)

  bars_number : (fault : LoadFault) → AreFound live → Bars extensions extension handlers live fault
      → fault_number fault.refusal.kind ≡ 74 → ⊥
  bars_number fault found bars number =
      by (has_taken (handlers_in live.code) (map (λ v. v.handler) bars.verified)) refl bars.because
    where
      its : number_of bars.why ≡ 74
      its = sym (ap (λ (f : LoadFault). fault_number f.refusal.kind) bars.is) ∙ number

      by : (taken : Bool) → has_taken (handlers_in live.code) (map (λ v. v.handler) bars.verified) ≡ taken
          → (if taken then Some AlreadyExists else callee_fault (missing_callee (checked bars.verified) live))
          ≡ Some bars.why → ⊥
      by true is e = let why : AlreadyExists ≡ bars.why = cc in let n = ap number_of why in omega (arith, n, its)
      by false is e =
          let own = map (λ v. v.handler) bars.verified in
          let each = subst (λ hs. All (IsVerified (callable_of extensions extension hs live)) bars.verified)
          (sym bars.are.same) bars.are.each in
          let none = lacks_nothing own live found is extensions extension bars.verified each in
          let calm : callee_fault (missing_callee (checked bars.verified) live) ≡ None = ap callee_fault none in
          absurd (cc)

  untaken : (next : Live) (admits : Admits extensions extension handlers live next)
      → has_taken (handlers_in live.code) (map (λ v. v.handler) admits.verified) ≡ false
  untaken next admits =
      by (has_taken (handlers_in live.code) (map (λ v. v.handler) admits.verified)) refl admits.free
    where
      by : (taken : Bool) → has_taken (handlers_in live.code) (map (λ v. v.handler) admits.verified) ≡ taken
          → (if taken then Some AlreadyExists else callee_fault (missing_callee (checked admits.verified) live)) ≡ None
          → has_taken (handlers_in live.code) (map (λ v. v.handler) admits.verified) ≡ false
      by true is e = absurd (cc)
      by false is e = is

  admits_found : (next : Live) → AreFound live → AreApart (handlers_in live.code)
      → Admits extensions extension handlers live next → AreFound next
  admits_found next found apart admits =
      subst AreFound (sym admits.then)
      (found_with_code extension (checked admits.verified) live (untaken next admits) apart found)

  admits_apart : (next : Live) → AreApart (handlers_in live.code) → Admits extensions extension handlers live next
      → AreApart (handlers_in next.code)
  admits_apart next apart admits =
      put_stays (live_group extension (checked admits.verified)) live.code next.code
      (ap (λ b. if b then Some codes.AlreadyExists else None) (untaken next admits)) apart
      (ap (λ (l : Live). l.code) admits.then)

joins_number : (extensions : List Extension) (extension : ℕ) (all : List (List HandlerData)) (live : Live)
    (fault : LoadFault) → AreFound live → AreApart (handlers_in live.code)
    → JoinAll extensions extension all live (Err (Fault fault)) → fault_number fault.refusal.kind ≡ 74 → ⊥
joins_number extensions extension [] live fault found apart joins number = absurd (cc)
joins_number extensions extension (handlers ∷ rest) live fault found apart joins number = ⊎_elim
    (λ stops.
    let its : stops.failure ≡ Fault fault = cc (stops.is) in
    ⊎_elim (λ r. refuses_number extensions extension handlers live fault r number)
    (λ b. bars_number extensions extension handlers live fault found b number)
    (subst (λ f. Joins extensions extension handlers live (Err f)) its stops.joins))
    (λ on. joins_number extensions (extension + 1) rest on.next fault
    (admits_found extensions extension handlers live on.next found apart on.admits)
    (admits_apart extensions extension handlers live on.next apart on.admits) on.rest number) joins

pub never_lacks_callees : NeverLacksCallees
never_lacks_callees natives extensions handlers fault failed kind = ⊎_elim
    (λ fails. held_number (all_registered natives (fresh 1000000)) fault
    (λ f e n. natives_number natives (fresh 1000000) f e n) fails (ap fault_number kind))
    (λ begins. joins_number extensions 0 handlers begins.live fault
    (first_found natives begins.live begins.held)
    (subst (λ gs. AreApart (handlers_in gs)) (sym (held_alone natives begins.live begins.held)) tt) begins.join
    (ap fault_number kind))
    failed
