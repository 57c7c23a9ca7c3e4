-- A loaded session is settled.
use Rattle.std.proofs.Common.{◌≡◌, ◌∙◌, ◌⊎◌, inl, inr, ⊎_elim, ℕ, zero, suc, ◌+◌, ◌<◌, Bool, true, false, cond}
use Rattle.std.proofs.Common.{List, [], ◌∷◌, ◌++◌, length, length-append, map, Option, Some, None, refl, sym, ap}
use Rattle.std.proofs.Common.{subst, arith, nat_eq, nat_lt, if◌then◌else◌}
use Rattle.std.specs.Prelude.{⊤, slice_get, option_map, Result, Ok, Err, IfOk, not, ◌&&◌}
use Rattle.std.specs.List.{All}
use Rattle.std.specs.Option.{option_map_or, option_or}
use Rattle.kb_base.specs.ExtensionId.{same_id}
use Rattle.std.proofs.lemmas.Bool.{ltb-true}
use Rattle.std.proofs.lemmas.Bool.Decides.{Decides-eqb}
use Rattle.std.proofs.lemmas.List.Elements.{All-head, All-tail}
use Rattle.std.proofs.lemmas.List.Folds.{find-append}
use Rattle.kb_base.specs.Refusal.{refusing}
use Rattle.kb_code.specs.Face.{declared_among}
use Rattle.kb_code.specs.Handler.{HandlerData}
use Rattle.kb_core.specs.Declaration.{Declaration}
use Rattle.kb_core.specs.declared.native.Native.{Native}
use Rattle.kb_files.specs.Fault.{refused_by}
use Rattle.kb_files.specs.declared.extension_file.Extension.{Extension}
use Rattle.kb_files.specs.declared.fault.LoadFile.TheVariants as file
use Rattle.kb_handler_table.specs.Codes.{CodesData, checked}
use Rattle.kb_handler_table.specs.Live.{Group, found_group, handlers_in, handlers_of, has_taken, live_group}
use Rattle.kb_handler_table.specs.Live.{with_codes}
use Rattle.kb_extension_code.specs.Checked.{Admits, JoinAll}
use Rattle.kb_extension_code.specs.Natives.{natives_held}
use Rattle.kb_extension_code.specs.Verified.{IsVerified}
use Rattle.kb_extension_code.proofs.FoundLemmas.{found_among}
use Rattle.kb_extension_code.proofs.NativesLemmas.{held_alone}
use Rattle.kb_extension_code.specs.Callable.{callable_of}
use Rattle.kb_registry.specs.CodeFault.{callee_fault}
use Rattle.kb_registry.specs.Fault as registry
use Rattle.kb_registry.specs.Live.{Live, all_registered, fresh, registered, registration_fault, unless_fault}
use Rattle.kb_registry.specs.Missing.{missing_callee}
use Rattle.kb_registry.specs.declared.fault.RegistryFault.{RegistryFault}
use Rattle.kb_registry.specs.declared.fault.RegistryFault.TheVariants.{AlreadyExists}
use Rattle.kb_soundness.specs.Stays.{IsSound}
use Rattle.kb_soundness.proofs.Joins.{code_stays_sound}
use Rattle.kb_soundness.proofs.Stays.{fresh_is_sound, registered_stays_sound}
use Rattle.kb_verify.specs.Accepted.{CheckedHandler, EachChecked}
use Rattle.kb_verify.specs.Callable.{Commands}
use Rattle.kb_extension_code.specs.Dependencies.{is_disabled, missing_dependency}
use Rattle.kb_extension_code.specs.Settled.{AreBacked, AreMatched, AreNumbered, IsBacked, IsClosed, IsNative, IsNear}
use Rattle.kb_extension_code.specs.Stays.{LoadedIsSettled}
use Rattle.kb_extension_code.proofs.Callables.{ComesFrom, callable_comes}
use Rattle.kb_extension_code.proofs.Places.{all_at, all_from, equal_number, none_from}

-- ---- closures

one_registered : (fault : Option RegistryFault) (next : Result Live RegistryFault) → IfOk next IsSound →
    IfOk (unless_fault fault next) IsSound
one_registered None next sound = sound
one_registered (Some fault) next sound = tt

registered_sound : (natives : List Native) (live : Live) → IsSound live → IfOk (all_registered natives live) IsSound
registered_sound [] live sound = sound
registered_sound (native ∷ rest) live sound =
    one_registered (registration_fault native live) (all_registered rest (registered native live))
    (registered_sound rest (registered native live) (registered_stays_sound native live sound))

held_of : (r : Result Live RegistryFault) (live : Live) →
    refused_by file.Natives (refusing registry.kind_of r) ≡ Ok live → r ≡ Ok live
held_of (Ok x) live is = cc is
held_of (Err fault) live is = absurd (cc is)

natives_sound : (natives : List Native) (live : Live) → natives_held natives ≡ Ok live → IsSound live
natives_sound natives live is =
    let all = held_of (all_registered natives (fresh 1000000)) live is in
    subst (λ (r : Result Live RegistryFault). IfOk r IsSound) all
    (registered_sound natives (fresh 1000000) (fresh_is_sound 1000000))

-- ---- one extension

each_checked : (commands : Commands) (verified : List CheckedHandler) → All (IsVerified commands) verified →
    EachChecked (map (λ (v : CheckedHandler). v.handler) verified) (map (λ (v : CheckedHandler). v.callees) verified)
each_checked commands [] all = tt
each_checked commands (v ∷ rest) all =
    let first = All-head (IsVerified commands) v rest all in (
      (commands, first.accepted, first.callees),
      each_checked commands rest (All-tail (IsVerified commands) v rest all),
    )

admits_sound : (es : List Extension) (number : ℕ) (handlers : List HandlerData) (live next : Live) →
    Admits es number handlers live next → IsSound live → IsSound next
admits_sound es number handlers live next admits sound =
    subst IsSound (sym admits.then)
    (code_stays_sound number (checked admits.verified) live admits.free
    (each_checked _ admits.verified admits.are.each) sound)

not_taken : (taken : Bool) (missing : Option (List ℕ)) →
    (if taken then Some AlreadyExists else callee_fault missing) ≡ None → taken ≡ false
not_taken false missing e = refl
not_taken true missing e = absurd (cc)

-- its handlers have names that were free
untaken : (es : List Extension) (number : ℕ) (handlers : List HandlerData) (live next : Live) →
    Admits es number handlers live next → has_taken (handlers_in live.code) handlers ≡ false
untaken es number handlers live next admits =
    ap (has_taken (handlers_in live.code)) (sym admits.are.same)
    ∙ not_taken (has_taken (handlers_in live.code) (map (λ (v : CheckedHandler). v.handler) admits.verified))
    (missing_callee (checked admits.verified) live) admits.free

-- ---- groups in a row

-- groups with live handlers, numbered from a number on
abbrev AreRow : ℕ → List Group → Type 0
AreRow number [] = ⊤
AreRow number (g ∷ gs) = (g.extension ≡ number) × (g.live ≡ true) × AreRow (number + 1) gs

-- the next group joins at the end
row_more : (number n : ℕ) (codes : CodesData) (gs : List Group) → AreRow number gs → number + length gs ≡ n →
    AreRow number (gs ++ live_group n codes ∷ [])
row_more number n codes [] row is = (omega (arith, is), refl, tt)
row_more number n codes (g ∷ gs) row is =
    (row.0, row.1, row_more (number + 1) n codes gs row.2 (omega (arith, is)))

row_end : (number n : ℕ) (codes : CodesData) (gs : List Group) → AreRow number gs → number + length gs ≡ n →
    with_codes n codes gs ≡ gs ++ live_group n codes ∷ []
row_end number n codes [] row is = refl
row_end number n codes (g ∷ gs) row is =
    by (nat_lt n g.extension) refl (row_end (number + 1) n codes gs row.2 (omega (arith, is)))
  where
    by : (b : Bool) → nat_lt n g.extension ≡ b → with_codes n codes gs ≡ gs ++ live_group n codes ∷ [] →
        cond b (live_group n codes ∷ g ∷ gs) (g ∷ with_codes n codes gs) ≡ g ∷ (gs ++ live_group n codes ∷ [])
    by true less rest =
        let first = row.0 in
        let below : n < g.extension = ltb-true n g.extension less in absurd (omega (arith, first, below, is))
    by false more rest = ap (λ (gs : List Group). g ∷ gs) rest

-- and is found there
row_new : (number n : ℕ) (codes : CodesData) (gs : List Group) → AreRow number gs → number + length gs ≡ n →
    found_group n (gs ++ live_group n codes ∷ []) ≡ Some (live_group n codes)
row_new number n codes [] row is =
    ap (λ b. cond b (Some (live_group n codes)) None) (equal_number n n refl)
row_new number n codes (g ∷ gs) row is =
    by (nat_eq g.extension n) refl (row_new (number + 1) n codes gs row.2 (omega (arith, is)))
  where
    by : (b : Bool) → nat_eq g.extension n ≡ b →
        found_group n (gs ++ live_group n codes ∷ []) ≡ Some (live_group n codes) →
        cond b (Some g) (found_group n (gs ++ live_group n codes ∷ [])) ≡ Some (live_group n codes)
    by true same rest =
        let first = row.0 in
        let its : g.extension ≡ n = (Decides-eqb g.extension n).0 same in absurd (omega (arith, first, its, is))
    by false other rest = rest

row_matched : (number : ℕ) (es : List Extension) (gs : List Group) → AreRow number gs → AreNumbered number es →
    All (λ e. e.enabled ≡ true) es → length gs ≡ length es → AreMatched es gs
row_matched number [] [] row numbered on same = tt
row_matched number [] (g ∷ gs) row numbered on same = absurd (omega (arith, same))
row_matched number (e ∷ es) [] row numbered on same = absurd (omega (arith, same))
row_matched number (e ∷ es) (g ∷ gs) row numbered on same = (
  row.0 ∙ sym numbered.0,
  row.1 ∙ sym (All-head (λ (e : Extension). e.enabled ≡ true) e es on),
  row_matched (number + 1) es gs row.2 numbered.1 (All-tail (λ (e : Extension). e.enabled ≡ true) e es on)
      (omega (arith, same)),
)

-- ---- code that is backed stays so

abbrev handlers_by : Option Group → List HandlerData
handlers_by o = option_map_or (λ (c : CodesData). c.handlers) (option_map (λ (g : Group). g.codes) o) []

-- what an extension's handlers declare, they declare beside one more group
more_declares : (owner : ℕ) (gs : List Group) (x : Group) (name : List ℕ) (d : Declaration) →
    declared_among (handlers_of owner gs) name ≡ Some d →
    declared_among (handlers_of owner (gs ++ x ∷ [])) name ≡ Some d
more_declares owner gs x name d is =
    ap (λ o. declared_among (handlers_by o) name) (find-append (λ (g : Group). nat_eq g.extension owner) gs (x ∷ []))
    ∙ by (found_group owner gs) is
  where
    by : (o : Option Group) → declared_among (handlers_by o) name ≡ Some d →
        declared_among (handlers_by (option_or o (found_group owner (x ∷ [])))) name ≡ Some d
    by None e = absurd (cc e)
    by (Some g) e = e

backed_more : (es : List Extension) (number : ℕ) (gs : List Group) (x : Group) (codes : CodesData) →
    IsBacked es number gs codes → IsBacked es number (gs ++ x ∷ []) codes
backed_more es number gs x codes b = record {
  commands = b.commands;
  verified = b.verified;
  are = b.are;
  each = b.each;
  comes = λ name d is. ⊎_elim (λ plain. inl plain) (λ near. inr (record {
    owner = near.owner;
    near = near.near;
    declares = more_declares near.owner gs x name d near.declares;
  })) (b.comes name d is);
}

all_backed_more : (es : List Extension) (code gs : List Group) (x : Group) → AreBacked es code gs →
    IsBacked es x.extension (code ++ x ∷ []) x.codes → AreBacked es (code ++ x ∷ []) (gs ++ x ∷ [])
all_backed_more es code [] x backed own = (own, tt)
all_backed_more es code (g ∷ gs) x backed own =
    (backed_more es g.extension code x g.codes backed.0, all_backed_more es code gs x backed.1 own)

-- ---- the load

-- the extensions below a number are loaded
record IsLoaded (es : List Extension) (number : ℕ) (live : Live) : Type 0 where
  sound : IsSound live
  row : AreRow 0 live.code
  size : length live.code ≡ number
  backed : AreBacked es live.code live.code

there_is : {X : Type 0} (xs : List X) (k : ℕ) → k < length xs → (x : X) × (slice_get xs k ≡ Some x)
there_is [] k below = absurd (omega (arith, below))
there_is (x ∷ xs) zero below = (x, refl)
there_is (x ∷ xs) (suc k) below = there_is xs k (omega (arith, below))

module _ (es : List Extension) (numbered : AreNumbered 0 es) where
  module _ (number : ℕ) (handlers : List HandlerData) (live next : Live) (below : number < length es)
      (loaded : IsLoaded es number live) (admits : Admits es number handlers live next) where
    abbrev its_group : Group
    its_group = live_group number (checked admits.verified)

    code_is : next.code ≡ live.code ++ its_group ∷ []
    code_is =
        let size = loaded.size in
        ap (λ (l : Live). l.code) admits.then
        ∙ row_end 0 number (checked admits.verified) live.code loaded.row (omega (arith, size))

    own_declares : (name : List ℕ) (d : Declaration) → declared_among handlers name ≡ Some d →
        declared_among (handlers_of number (live.code ++ its_group ∷ [])) name ≡ Some d
    own_declares name d is =
        let size = loaded.size in
        ap (λ o. declared_among (handlers_by o) name)
        (row_new 0 number (checked admits.verified) live.code loaded.row (omega (arith, size)))
        ∙ ap (λ hs. declared_among hs name) admits.are.same ∙ is

    near : (name : List ℕ) (d : Declaration) → ComesFrom es number handlers live name d →
        IsNative name d ⊎ IsNear es number (live.code ++ its_group ∷ []) name d
    near name d (inl plain) = inl plain.0
    near name d (inr (inl own)) =
        inr (record { owner = number; near = inl refl; declares = own_declares name d own })
    near name d (inr (inr needed)) = inr (record {
      owner = needed.0;
      near = inr needed.1;
      declares = more_declares needed.0 live.code its_group name d needed.2;
    })

    own_backed : IsBacked es number (live.code ++ its_group ∷ []) (checked admits.verified)
    own_backed =
        let e = there_is es number below in record {
          commands = callable_of es number handlers live;
          verified = admits.verified;
          are = refl;
          each = admits.are.each;
          comes = λ name d is. near name d
              (callable_comes es number e.0 handlers live e.1 numbered loaded.sound.apart
              (found_among (handlers_in live.code) handlers (untaken es number handlers live next admits)) name d is);
        }

    one_more : IsLoaded es (number + 1) next
    one_more =
        let size = loaded.size in record {
          sound = admits_sound es number handlers live next admits loaded.sound;
          row = subst (AreRow 0) (sym code_is)
              (row_more 0 number (checked admits.verified) live.code loaded.row (omega (arith, size)));
          size =
              let more = ap (λ (gs : List Group). length gs) code_is in
              let one = length-append live.code (its_group ∷ []) in omega (arith, size, more, one);
          backed = subst (λ gs. AreBacked es gs gs) (sym code_is)
              (all_backed_more es live.code live.code its_group loaded.backed own_backed);
        }

  all_loaded : (number : ℕ) (all : List (List HandlerData)) (live last : Live) →
      JoinAll es number all live (Ok last) → number + length all ≡ length es → IsLoaded es number live →
      IsLoaded es (length es) last
  all_loaded number [] live last is same loaded =
      let its : last ≡ live = cc is in
      subst (λ n. IsLoaded es n last) (omega (arith, same)) (subst (IsLoaded es number) (sym its) loaded)
  all_loaded number (handlers ∷ rest) live last (inl stops) same loaded = absurd (cc stops.is)
  all_loaded number (handlers ∷ rest) live last (inr joins) same loaded =
      all_loaded (number + 1) rest joins.next last joins.rest (omega (arith, same))
      (one_more number handlers live joins.next (omega (arith, same)) loaded joins.admits)

-- no dependency is missing where all are enabled
none_missing : (es : List Extension) → All (λ e. e.enabled ≡ true) es → (ids : List (List ℕ)) →
    missing_dependency ids es ≡ None
none_missing es on [] = refl
none_missing es on (id ∷ ids) =
    ap (λ o. option_or (option_map (λ (e : Extension). e.manifest.id) o) (missing_dependency ids es))
    (none_from (is_disabled id) es (λ k x at.
    ap (λ b. not b && same_id x.manifest.id id)
    (all_at (λ (e : Extension). e.enabled ≡ true) es k x on at)))
    ∙ none_missing es on ids

first_loaded : (es : List Extension) (natives : List Native) (live : Live) → natives_held natives ≡ Ok live →
    IsLoaded es 0 live
first_loaded es natives live held =
    let none = held_alone natives live held in record {
      sound = natives_sound natives live held;
      row = subst (AreRow 0) (sym none) tt;
      size = ap (λ (gs : List Group). length gs) none;
      backed = subst (λ gs. AreBacked es gs gs) (sym none) tt;
    }

pub loaded_is_settled : LoadedIsSettled
loaded_is_settled natives es handlers live (inl fails) numbered on same = absurd fails
loaded_is_settled natives es handlers live (inr begins) numbered on same =
    let loaded = all_loaded es numbered 0 handlers begins.live live begins.join (omega (arith, same))
    (first_loaded es natives begins.live begins.held) in
    record {
      sound = loaded.sound;
      numbered = numbered;
      matched = row_matched 0 es live.code loaded.row numbered on loaded.size;
      closed = all_from (IsClosed es) es (λ k x at is. none_missing es on x.manifest.dependencies);
      backed = loaded.backed;
    }
