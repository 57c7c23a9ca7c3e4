-- The first closure for a native on a shelf, and stops that lose no closure.
use Rattle.std.proofs.Common.{◌≡◌, ℕ, ◌<◌, Bool, true, false, cond, List, [], ◌∷◌, map, length, get_or}
use Rattle.std.proofs.Common.{remove}
use Rattle.std.proofs.Common.{zero, suc, refl, sym, ap, subst, ◌++◌, ◌∙◌, arith}
use denote.Enum.Bare.{same_true}
use Rattle.std.specs.Prelude.{Some, None, ◌||◌}
use Rattle.std.specs.List.{position, list_any}
use Rattle.std.specs.List.Sorted.{IsPermutation}
use Rattle.std.proofs.lemmas.Bool.{ltb-false, false≢true}
use Rattle.std.proofs.lemmas.List.{map-append}
use Rattle.std.proofs.lemmas.List.Folds.{list_any_none}
use Rattle.std.proofs.lemmas.List.Quantifiers.{position-Some}
use Rattle.std.proofs.lemmas.List.Sorted.{IsPermutation-append_comm, IsPermutation-append_right}
use Rattle.std.proofs.lemmas.List.Sorted.{IsPermutation-refl}
use Rattle.std.proofs.lemmas.List.Sums.{fails_before_first}
use Rattle.kb_core.specs.contracts.native.Native.{the_type}
use Rattle.kb_core.specs.declared.native.Native.{Native}
use Rattle.kb_handler_table.specs.Live.{same_native}
use Rattle.kb_script.proofs.LineLemmas.{position_none}
use Rattle.kb_script.specs.Shelf.{Stand, stand, Halts, on_shelf, without_first}
use Rattle.kb_session.specs.Session as session
use Rattle.kb_session.proofs.Runs.{halts_at}
use Rattle.kb_session.specs.Session.{halt, half_done, FailsAt}
use Rattle.kb_session.specs.State.{State, Told}
use Rattle.kb_session.specs.declared.fault.SessionFault.{SessionFault}
use Rattle.kb_session.specs.declared.fault.SessionFault.TheVariants as fault
use Rattle.kb_stream.specs.Fold.{Traced}

-- natives that `==` accepts are equal
pub same_native-true : (a b : Native) → same_native a b ≡ true → a ≡ b
same_native-true a b h = same_true the_type tt a b h

module _ {C : Type 0} (stands_for : C → Native) (native : Native) where
  abbrev test : C → Bool
  test command = same_native native (stands_for command)

  abbrev seen : List C → List Native
  seen commands = map stands_for commands

  -- the shelf without its first closure for the native, by whether the first closure is one
  abbrev without : Bool → C → List C → List Native
  without here c cs = cond here (seen cs) (stands_for c ∷ without_first native (seen cs))

  on_shelf-map : (cs : List C) → on_shelf native (seen cs) ≡ list_any test cs
  on_shelf-map [] = refl
  on_shelf-map (c ∷ cs) = ap (λ (b : Bool). test c || b) (on_shelf-map cs)

  taken_at : (cs : List C) (i : ℕ) (d : C) → i < length cs → test (get_or cs i d) ≡ true
      → ((k : ℕ) → k < i → test (get_or cs k d) ≡ false)
      → (on_shelf native (seen cs) ≡ true) × (seen (remove cs i) ≡ without_first native (seen cs))
  taken_at [] i d lt is none = absurd (omega arith)
  taken_at (c ∷ cs) zero d lt is none = (
    ap (λ (b : Bool). b || on_shelf native (seen cs)) is,
    sym (ap (λ (b : Bool). without b c cs) is),
  )
  taken_at (c ∷ cs) (suc i) d lt is none =
      let p = taken_at cs i d (omega arith) is (λ k h. none (suc k) (omega arith)) in
      let not_here : test c ≡ false = none 0 (omega arith) in (
        ap (λ (b : Bool). b || on_shelf native (seen cs)) not_here ∙ p.0,
        ap (λ (l : List Native). stands_for c ∷ l) p.1 ∙ sym (ap (λ (b : Bool). without b c cs) not_here),
      )

  -- the closure that is taken
  pub taken : (cs : List C) (i : ℕ) (command : C) → position test cs ≡ Some i → command ≡ get_or cs i command
      → (stands_for command ≡ native) × (on_shelf native (seen cs) ≡ true)
      × (seen (remove cs i) ≡ without_first native (seen cs))
  taken cs i command e is =
      let p = position-Some test cs i command e in
      let q = taken_at cs i command p.0 p.1 p.2 in
      (sym (same_native-true native (stands_for command) (ap test is ∙ p.1)), q.0, q.1)

  -- no closure is there
  pub none_taken : (cs : List C) → position test cs ≡ None → on_shelf native (seen cs) ≡ false
  none_taken cs e =
      let past = ltb-false _ _ (position_none _ _ e) in
      on_shelf-map cs ∙ list_any_none test cs (λ k d h. fails_before_first test cs k d (omega arith))

-- the shelf with its first closure for a native moved to the end, by whether the first closure is one
abbrev back_at_end : Native → Native → List Native → Bool → List Native
back_at_end native n ns here = cond here ns (n ∷ without_first native ns) ++ native ∷ []

-- a closure is taken and put at the end
rotated : (native : Native) (shelf : List Native) → on_shelf native shelf ≡ true
    → IsPermutation shelf (without_first native shelf ++ native ∷ [])
rotated native [] h = absurd (cc)
rotated native (n ∷ ns) h = by (λ k. rotated native ns k) (same_native native n) refl
  where
    by : (on_shelf native ns ≡ true → IsPermutation ns (without_first native ns ++ native ∷ []))
        → (b : Bool) → same_native native n ≡ b
        → IsPermutation (n ∷ ns) (without_first native (n ∷ ns) ++ native ∷ [])
    by rest true e =
        let same : native ≡ n = same_native-true native n e in
        subst (λ (l : List Native). IsPermutation (n ∷ ns) l)
        (ap (λ (m : Native). ns ++ m ∷ []) (sym same) ∙ sym (ap (back_at_end native n ns) e))
        (IsPermutation-append_comm (n ∷ []) ns)
    by rest false e =
        subst (λ (l : List Native). IsPermutation (n ∷ ns) l) (sym (ap (back_at_end native n ns) e))
        (IsPermutation-append_right (n ∷ []) ns (without_first native ns ++ native ∷ [])
        (rest (sym (ap (λ (b : Bool). b || on_shelf native ns) e) ∙ h)))

-- a stop that leaves the shelf unchanged
pub halts_same : (old new : Stand) → old.state.stopped ≡ false → session.Halts old.state new.state
    → new.shelf ≡ old.shelf → Halts old new
halts_same old new running h e = record {
  running = running;
  session = h;
  shelf = subst (λ (l : List Native). IsPermutation old.shelf l) (sym e) (IsPermutation-refl old.shelf);
}

-- a stop that put a closure back
pub halts_rotated : (old new : Stand) (native : Native) → old.state.stopped ≡ false
    → session.Halts old.state new.state
    → on_shelf native old.shelf ≡ true → new.shelf ≡ without_first native old.shelf ++ native ∷ []
    → Halts old new
halts_rotated old new native running h there e = record {
  running = running;
  session = h;
  shelf = subst (λ (l : List Native). IsPermutation old.shelf l) (sym e) (rotated native old.shelf there);
}

-- refused memory halts a running session
pub halted : (old new : Traced State) → new ≡ halt old → session.Halts old.state new.state
halted old new is =
    ap (λ s. s.state) is ∙ ap (λ s. half_done s.state.core s.state.pressed old.state) (sym is)

fails_at : (fault : SessionFault) (told : Told) (old new : Traced State) → old.state.stopped ≡ false
    → FailsAt fault told old new → session.Halts old.state new.state × (new.trace ≡ old.trace)
fails_at (fault.Refused r) told old new running fails = absurd fails
fails_at fault.NoMemory told old new running fails = halts_at told old new fails.1
fails_at fault.Stopped told old new running fails = absurd (false≢true (sym running ∙ fails.0))

pub fails_state : (fault : SessionFault) (told : Told) (old new : Traced State) → old.state.stopped ≡ false
    → FailsAt fault told old new → session.Halts old.state new.state
fails_state fault told old new running fails = (fails_at fault told old new running fails).0

pub fails_trace : (fault : SessionFault) (told : Told) (old new : Traced State) → old.state.stopped ≡ false
    → FailsAt fault told old new → new.trace ≡ old.trace
fails_trace fault told old new running fails = (fails_at fault told old new running fails).1

pub ruleset halting = (halts_same, halts_rotated, fails_state, fails_trace, halted)

-- memory was refused to a registration, and the closure was put back
pub put_back : {C : Type 0} (stands_for : C → Native) (native : Native) (before taken after : List C)
    (command back : C) (old new : Traced State)
    → (stands_for command ≡ native) × (on_shelf native (map stands_for before) ≡ true)
    × (map stands_for taken ≡ without_first native (map stands_for before))
    → back ≡ command → after ≡ taken ++ back ∷ [] → old.state.stopped ≡ false → new ≡ halt old
    → Halts (stand old.state (map stands_for before)) (stand new.state (map stands_for after))
put_back stands_for native before taken after command back old new h same is running stops =
    halts_rotated _ _ native running (halted old new stops) h.1
    (ap (map stands_for) is ∙ map-append stands_for taken (back ∷ [])
    ∙ ap (λ (l : List Native). l ++ stands_for back ∷ []) h.2
    ∙ ap (λ (n : Native). without_first native (map stands_for before) ++ n ∷ []) (ap stands_for same ∙ h.0))
