-- The invariant of a registry's fields is preserved.
use Rattle.std.proofs.Common.{◌≡◌, ◌∙◌, ℕ, ◌+◌, ◌<◌, Bool, true, false, cond, [], ◌∷◌, ◌++◌, Option}
use Rattle.std.proofs.Common.{Some, None, IfSome, IfNone}
use Rattle.std.proofs.Common.{refl, sym, ap, subst, arith}
use denote.Enum.Bare.{same_true}
use Rattle.indexmap.specs.IndexMap.{IndexMap, get, Updates, IsUnchanged}
use Rattle.kb_core.specs.contracts.native.Native.{the_type}
use Rattle.kb_core.specs.declared.native.Native.{Native}
use Rattle.kb_core.specs.Declaration.{Declaration}
use Rattle.kb_core.specs.Native.{declaration_of}
use Rattle.kb_handler_table.specs.Live.{same_native}
use Rattle.kb_registry.specs.Live.{AreNumbered, without}
use Rattle.kb_registry.specs.Sound.{Sound, plain_entries}
use Rattle.kb_registry.proofs.Entries.{kept_after}
use Rattle.kb_registry.proofs.Tickets.{numbered_more, numbered_without}

module _ {E S : Type 0} (native : E → Native) (declares : E → Declaration) (ticket : E → ℕ) (limit made : ℕ)
    (m n : IndexMap Native E S) where
  -- by a registration
  pub sound_inserted : (k : Native) (e : E) → Sound native declares ticket limit made m → native e ≡ k
      → declares e ≡ declaration_of k → made < limit → Updates same_native m n k (Some e)
      → plain_entries ticket n.entries ≡ plain_entries ticket m.entries ++ record { native = k; ticket = made + 1 } ∷ []
      → Sound native declares ticket limit (made + 1) n
  sound_inserted k e s is says room u behind = record {
    keyed = λ q x h. keyed q x h (same_native k q) refl;
    declared = λ q x h. declared q x h (same_native k q) refl;
    within = omega (arith, room);
    numbered = subst (AreNumbered (made + 1)) (sym behind) (numbered_more made k (plain_entries ticket m.entries) s.numbered);
  }
    where
      found : (q : Native) (b : Bool) → same_native k q ≡ b
          → get same_native n q ≡ cond b (Some e) (get same_native m q)
      found q b t = u.0 q ∙ ap (λ b. cond b (Some e) (get same_native m q)) t

      put : (q : Native) (x : E) → get same_native n q ≡ Some x → same_native k q ≡ true → x ≡ e
      put q x h t = let v = found q true t in cc

      keyed : (q : Native) (x : E) → get same_native n q ≡ Some x → (b : Bool) → same_native k q ≡ b → native x ≡ q
      keyed q x h true t = ap native (put q x h t) ∙ is ∙ same_true the_type tt k q t
      keyed q x h false t = s.keyed q x (sym (found q false t) ∙ h)

      declared : (q : Native) (x : E) → get same_native n q ≡ Some x → (b : Bool) → same_native k q ≡ b
          → declares x ≡ declaration_of q
      declared q x h true t =
          ap declares (put q x h t) ∙ says ∙ ap declaration_of (same_true the_type tt k q t)
      declared q x h false t = s.declared q x (sym (found q false t) ∙ h)

  -- by a removal
  pub sound_removed : (t : ℕ) (r : Option (Native × E)) → Sound native declares ticket limit made m
      → IfSome r (λ p. Updates same_native m n p.0 None) → IfNone r (IsUnchanged m n)
      → plain_entries ticket n.entries ≡ without t (plain_entries ticket m.entries) → Sound native declares ticket limit made n
  sound_removed t r s u same left = record {
    keyed = λ q e h. s.keyed q e (kept_after m n r u same q e h);
    declared = λ q e h. s.declared q e (kept_after m n r u same q e h);
    within = s.within;
    numbered = subst (AreNumbered made) (sym left) (numbered_without made t (plain_entries ticket m.entries) s.numbered);
  }

  -- where nothing changes
  pub sound_same : Sound native declares ticket limit made m → IsUnchanged m n → Sound native declares ticket limit made n
  sound_same s same = record {
    keyed = λ q e h. s.keyed q e (kept_after m n None tt same q e h);
    declared = λ q e h. s.declared q e (kept_after m n None tt same q e h);
    within = s.within;
    numbered = subst (AreNumbered made) (sym (ap (plain_entries ticket) same)) s.numbered;
  }
