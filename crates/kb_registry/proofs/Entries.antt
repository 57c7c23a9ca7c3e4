-- Lemmas on the plain view of a registry's entries.
use Rattle.std.proofs.Common.{◌≡◌, ◌∙◌, ℕ, Bool, true, false, cond, List, [], ◌∷◌, ◌++◌, find, Option}
use Rattle.std.proofs.Common.{Some, None, IfSome, IfNone, is_some, option_map, nat_eq, refl, sym, ap}
use Rattle.std.proofs.Common.{zero, suc}
use Rattle.std.proofs.Common.{slice_get, remove, length, option_copied, Bor, arith}
use Rattle.std.proofs.lemmas.List.{map-append}
use Rattle.std.proofs.lemmas.Bool.Decides.{Decides-eqb}
use Rattle.std.proofs.lemmas.Map.Made.{is_some-lookup}
use Rattle.std.specs.List.{list_any}
use Rattle.std.specs.Map.{keys_of, lookup}
use Rattle.indexmap.specs.IndexMap.{IndexMap, get, insert_entry, Updates, IsUnchanged}
use Rattle.indexmap.proofs.CallerLemmas.{insert_entry-new}
use Rattle.kb_core.specs.declared.native.Native.{Native}
use Rattle.kb_handler_table.specs.Live.{Group, same_native}
use Rattle.kb_registry.specs.Live.{natives_of, is_live, without}
use Rattle.kb_registry.specs.Place.{NoneBelow}
use Rattle.kb_registry.specs.Sound.{plain_entries}

module _ {E : Type 0} (ticket : E → ℕ) where
  -- the live natives are the keys of the table
  pub natives-plain : (es : List (Native × E)) → natives_of (plain_entries ticket es) ≡ keys_of es
  natives-plain [] = refl
  natives-plain (e ∷ es) = ap (λ natives. e.0 ∷ natives) (natives-plain es)

  -- a native is live exactly if the table has an entry for it
  pub live-get : {S : Type 0} (limit made : ℕ) (code : List Group) (m : IndexMap Native E S) (native : Native)
      → is_live native
      (record { limit = limit; made = made; commands = plain_entries ticket m.entries; code = code })
      ≡ is_some (get same_native m native)
  live-get limit made code m native =
      ap (list_any (same_native native)) (natives-plain m.entries)
      ∙ sym (is_some-lookup (same_native native) m.entries)

  -- a new entry goes last
  pub plain_entries-push : (es : List (Native × E)) (native : Native) (e : E) → plain_entries ticket (es ++ (native, e) ∷ [])
      ≡ plain_entries ticket es ++ record { native = native; ticket = ticket e } ∷ []
  plain_entries-push es native e = map-append (λ e. record { native = e.0; ticket = ticket e.1 }) es ((native, e) ∷ [])

none_from_is_some : {X : Type 0} (o : Option X) → is_some o ≡ false → o ≡ None
none_from_is_some None h = refl
none_from_is_some (Some x) h = cc

-- the entries after a registration
pub registered-entries : {E S : Type 0} (ticket : E → ℕ) (m : IndexMap Native E S) (after : List (Native × E))
    (native : Native) (e : E) → is_some (get same_native m native) ≡ false
    → after ≡ insert_entry same_native m.entries native e
    → plain_entries ticket after ≡ plain_entries ticket m.entries ++ record { native = native; ticket = ticket e } ∷ []
registered-entries ticket m after native e none put =
    ap (plain_entries ticket)
    (put ∙ insert_entry-new same_native m native e (none_from_is_some (get same_native m native) none))
    ∙ plain_entries-push ticket m.entries native e

module _ {E : Type 0} (ticket : E → ℕ) (t : ℕ) where
  -- the entries after the first
  tail_none : (e : Native × E) (es : List (Native × E)) (i : ℕ) → NoneBelow ticket (e ∷ es) t (suc i)
      → NoneBelow ticket es t i
  tail_none e es i none k h = none (suc k) (omega arith)

  differs : (n : ℕ) → (n ≡ t → ⊥) → nat_eq n t ≡ false
  differs n ne = by (nat_eq n t) refl
    where
      by : (b : Bool) → nat_eq n t ≡ b → nat_eq n t ≡ false
      by true e = absurd (ne ((Decides-eqb n t).0 e))
      by false e = e

  head_none : (e : Native × E) (es : List (Native × E)) (i : ℕ) → NoneBelow ticket (e ∷ es) t (suc i)
      → nat_eq (ticket e.1) t ≡ false
  head_none e es i none = differs (ticket e.1) (none 0 (omega arith) e refl)

  abbrev holder_in : List (Native × E) → Option Native
  holder_in es = option_map (λ c. c.native) (find (λ c. nat_eq c.ticket t) (plain_entries ticket es))

  -- the holder of the ticket, by whether the first entry has it
  holder_by : (e : Native × E) (es : List (Native × E)) (b : Bool) → nat_eq (ticket e.1) t ≡ b
      → holder_in (e ∷ es) ≡ cond b (Some e.0) (holder_in es)
  holder_by e es true h =
      ap (λ b. option_map (λ c. c.native) (cond b (Some (record { native = e.0; ticket = ticket e.1 }))
      (find (λ c. nat_eq c.ticket t) (plain_entries ticket es)))) h
  holder_by e es false h =
      ap (λ b. option_map (λ c. c.native) (cond b (Some (record { native = e.0; ticket = ticket e.1 }))
      (find (λ c. nat_eq c.ticket t) (plain_entries ticket es)))) h

  -- the native of the first entry with the ticket
  pub holder-at : (es : List (Native × E)) (i : ℕ) (e : Native × E) → NoneBelow ticket es t i → slice_get es i ≡ Some e
      → ticket e.1 ≡ t → holder_in es ≡ Some e.0
  holder-at [] i e none at is = cc
  holder-at (x ∷ es) zero e none at is =
      let same : x ≡ e = cc in
      holder_by x es true ((Decides-eqb (ticket x.1) t).1 (ap (λ p. ticket p.1) same ∙ is)) ∙ ap (λ p. Some p.0) same
  holder-at (x ∷ es) (suc i) e none at is =
      holder_by x es false (head_none x es i none) ∙ holder-at es i e (tail_none x es i none) at is

  -- no entry has the ticket
  pub holder-none : (es : List (Native × E)) → NoneBelow ticket es t (length es) → holder_in es ≡ None
  holder-none [] none = refl
  holder-none (x ∷ es) none =
      holder_by x es false (head_none x es (length es) none) ∙ holder-none es (tail_none x es (length es) none)

  -- the entries without the first that has the ticket
  pub without-at : (es : List (Native × E)) (i : ℕ) (e : Native × E) → NoneBelow ticket es t i → slice_get es i ≡ Some e
      → ticket e.1 ≡ t → plain_entries ticket (remove es i) ≡ without t (plain_entries ticket es)
  without-at [] i e none at is = cc
  without-at (x ∷ es) zero e none at is =
      let same : x ≡ e = cc in
      let h : nat_eq (ticket x.1) t ≡ true = (Decides-eqb (ticket x.1) t).1 (ap (λ p. ticket p.1) same ∙ is) in
      sym (ap (λ b. cond b (plain_entries ticket es)
      (record { native = x.0; ticket = ticket x.1 } ∷ without t (plain_entries ticket es))) h)
  without-at (x ∷ es) (suc i) e none at is =
      ap (λ l. record { native = x.0; ticket = ticket x.1 } ∷ l) (without-at es i e (tail_none x es i none) at is)
      ∙ sym (ap (λ b. cond b (plain_entries ticket es)
      (record { native = x.0; ticket = ticket x.1 } ∷ without t (plain_entries ticket es))) (head_none x es i none))

-- what a table has after a removal, it had before
kept : {E S : Type 0} (m n : IndexMap Native E S) (k : Native) → Updates same_native m n k None
    → (q : Native) (e : E) → get same_native n q ≡ Some e → get same_native m q ≡ Some e
kept m n k u q e h = by (same_native k q) refl
  where
    by : (b : Bool) → same_native k q ≡ b → get same_native m q ≡ Some e
    by true is = let gone : get same_native n q ≡ None = u.0 q ∙ ap (λ b. cond b None (get same_native m q)) is in cc
    by false is = sym (u.0 q ∙ ap (λ b. cond b None (get same_native m q)) is) ∙ h

-- the same for any removed entry
pub kept_after : {E S : Type 0} (m n : IndexMap Native E S) (r : Option (Native × E))
    → IfSome r (λ p. Updates same_native m n p.0 None) → IfNone r (IsUnchanged m n)
    → (q : Native) (e : E) → get same_native n q ≡ Some e → get same_native m q ≡ Some e
kept_after m n None u same q e h = sym (ap (lookup (same_native q)) same) ∙ h
kept_after m n (Some p) u same q e h = kept m n p.0 u q e h

-- a borrowed option has a value exactly if the option has one
pub is_some-lent : {X : Type 0} (r : Option (Bor X)) → is_some (option_copied r) ≡ is_some r
is_some-lent None = refl
is_some-lent (Some x) = refl

-- a property of an option's value holds for the borrowed value
pub holds_lent : {X : Type 0} {P : X → Type 0} (r : Option (Bor X)) (o : Option X) → option_copied r ≡ o
    → ((x : X) → o ≡ Some x → P x) → IfSome r (λ x. P x.now)
holds_lent None o is holds = tt
holds_lent (Some x) o is holds = holds x.now (sym is)
