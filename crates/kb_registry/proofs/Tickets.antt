-- Lemmas on tickets: they are distinct, and none is used again.
use Rattle.std.proofs.Common.{◌≡◌, ◌∙◌, ℕ, ◌+◌, ◌≤◌, Bool, true, false, cond, List, [], ◌∷◌, ◌++◌, find}
use Rattle.std.proofs.Common.{Some, None}
use Rattle.std.proofs.Common.{option_map, nat_eq, refl, sym, ap, subst, arith}
use Rattle.std.proofs.lemmas.Bool.Decides.{Decides-eqb}
use Rattle.kb_core.specs.declared.native.Native.{Native}
use Rattle.kb_registry.specs.Live.{Live, Registered, AreNumbered, holder, holder_in, registered, without}

differs : (n t : ℕ) → (n ≡ t → ⊥) → nat_eq n t ≡ false
differs n t ne = by (nat_eq n t) refl
  where
    by : (b : Bool) → nat_eq n t ≡ b → nat_eq n t ≡ false
    by true e = absurd (ne ((Decides-eqb n t).0 e))
    by false e = e

-- the holder of a ticket, by whether the first closure has it
holder_by : (t : ℕ) (c : Registered) (cs : List Registered) (b : Bool) → nat_eq c.ticket t ≡ b
    → holder_in t (c ∷ cs) ≡ cond b (Some c.native) (holder_in t cs)
holder_by t c cs true h =
    ap (λ b. option_map (λ c. c.native) (cond b (Some c) (find (λ c. nat_eq c.ticket t) cs))) h
holder_by t c cs false h =
    ap (λ b. option_map (λ c. c.native) (cond b (Some c) (find (λ c. nat_eq c.ticket t) cs))) h

without_by : (t : ℕ) (c : Registered) (cs : List Registered) (b : Bool) → nat_eq c.ticket t ≡ b
    → without t (c ∷ cs) ≡ cond b cs (c ∷ without t cs)
without_by t c cs b h = ap (λ b. cond b cs (c ∷ without t cs)) h

-- a new closure with another ticket changes no holder
pub holder_behind : (t : ℕ) (cs : List Registered) (new : Registered) → nat_eq new.ticket t ≡ false
    → holder_in t (cs ++ new ∷ []) ≡ holder_in t cs
holder_behind t [] new other = holder_by t new [] false other
holder_behind t (c ∷ cs) new other = by (nat_eq c.ticket t) refl (holder_behind t cs new other)
  where
    by : (b : Bool) → nat_eq c.ticket t ≡ b → holder_in t (cs ++ new ∷ []) ≡ holder_in t cs
        → holder_in t (c ∷ (cs ++ new ∷ [])) ≡ holder_in t (c ∷ cs)
    by true h rest = holder_by t c (cs ++ new ∷ []) true h ∙ sym (holder_by t c cs true h)
    by false h rest = holder_by t c (cs ++ new ∷ []) false h ∙ rest ∙ sym (holder_by t c cs false h)

-- a registration changes no holder of an earlier ticket
pub holder_lasts : (native : Native) (live : Live) (t : ℕ) → t ≤ live.made
    → holder t (registered native live) ≡ holder t live
holder_lasts native live t given =
    holder_behind t live.commands (record { native = native; ticket = live.made + 1 })
    (differs (live.made + 1) t (λ same. omega (arith, same, given)))

-- a removal changes no holder of another ticket
pub holder_of_another : (t u : ℕ) (cs : List Registered) → (u ≡ t → ⊥) → holder_in u (without t cs) ≡ holder_in u cs
holder_of_another t u [] other = refl
holder_of_another t u (c ∷ cs) other = by (nat_eq c.ticket t) refl (holder_of_another t u cs other)
  where
    kept : (b : Bool) → nat_eq c.ticket u ≡ b → holder_in u (without t cs) ≡ holder_in u cs
        → holder_in u (c ∷ without t cs) ≡ holder_in u (c ∷ cs)
    kept true h rest = holder_by u c (without t cs) true h ∙ sym (holder_by u c cs true h)
    kept false h rest = holder_by u c (without t cs) false h ∙ rest ∙ sym (holder_by u c cs false h)

    by : (b : Bool) → nat_eq c.ticket t ≡ b → holder_in u (without t cs) ≡ holder_in u cs
        → holder_in u (without t (c ∷ cs)) ≡ holder_in u (c ∷ cs)
    by true h rest =
        let its : c.ticket ≡ t = (Decides-eqb c.ticket t).0 h in
        ap (holder_in u) (without_by t c cs true h)
        ∙ sym (holder_by u c cs false (differs c.ticket u (λ same. other (sym same ∙ its))))
    by false h rest = ap (holder_in u) (without_by t c cs false h) ∙ kept (nat_eq c.ticket u) refl rest

-- a removed ticket has no holder
pub holder_gone : (made t : ℕ) (cs : List Registered) → AreNumbered made cs → holder_in t (without t cs) ≡ None
holder_gone made t [] numbered = refl
holder_gone made t (c ∷ cs) numbered = by (nat_eq c.ticket t) refl (holder_gone made t cs numbered.2)
  where
    by : (b : Bool) → nat_eq c.ticket t ≡ b → holder_in t (without t cs) ≡ None
        → holder_in t (without t (c ∷ cs)) ≡ None
    by true h rest =
        ap (holder_in t) (without_by t c cs true h)
        ∙ subst (λ n. holder_in n cs ≡ None) ((Decides-eqb c.ticket t).0 h) numbered.1
    by false h rest = ap (holder_in t) (without_by t c cs false h) ∙ holder_by t c (without t cs) false h ∙ rest

-- the numbering stays right after a removal
pub numbered_without : (made t : ℕ) (cs : List Registered) → AreNumbered made cs → AreNumbered made (without t cs)
numbered_without made t [] numbered = tt
numbered_without made t (c ∷ cs) numbered =
    by (nat_eq c.ticket t) refl (numbered_without made t cs numbered.2)
  where
    apart : nat_eq c.ticket t ≡ false → c.ticket ≡ t → ⊥
    apart h same = let h' : nat_eq c.ticket t ≡ true = (Decides-eqb c.ticket t).1 same in cc

    by : (b : Bool) → nat_eq c.ticket t ≡ b → AreNumbered made (without t cs)
        → AreNumbered made (without t (c ∷ cs))
    by true h rest = subst (AreNumbered made) (sym (without_by t c cs true h)) numbered.2
    by false h rest =
        subst (AreNumbered made) (sym (without_by t c cs false h))
        (numbered.0, holder_of_another t c.ticket cs (apart h) ∙ numbered.1, rest)

-- and after a registration, whose ticket is the next number
pub numbered_more : (made : ℕ) (native : Native) (cs : List Registered) → AreNumbered made cs
    → AreNumbered (made + 1) (cs ++ record { native = native; ticket = made + 1 } ∷ [])
numbered_more made native [] numbered = (omega arith, refl, tt)
numbered_more made native (c ∷ cs) numbered =
    let below = numbered.0 in (
      omega (arith, below),
      holder_behind c.ticket cs (record { native = native; ticket = made + 1 })
          (differs (made + 1) c.ticket (λ same. omega (arith, same, below))) ∙ numbered.1,
      numbered_more made native cs numbered.2,
    )
