-- The invariant of a registry's fields.
use Rattle.std.specs.Prelude.{◌≡◌, ℕ, ◌≤◌, List, Some, map}
use Rattle.indexmap.specs.IndexMap.{IndexMap, get}
use Rattle.kb_core.specs.declared.native.Native.{Native}
use Rattle.kb_core.specs.Declaration.{Declaration}
use Rattle.kb_core.specs.Native.{declaration_of}
use Rattle.kb_handler_table.specs.Live.{same_native}
use Rattle.kb_registry.specs.Live.{Registered, AreNumbered}

-- the entries as plain data
abbrev pub plain_entries : {E : Type 0} → (E → ℕ) → List (Native × E) → List Registered
plain_entries ticket es = map (λ e. record { native = e.0; ticket = ticket e.1 }) es

-- each entry has the native of its command as key, with its declaration; the number of registrations is
-- within the limit, and tickets are distinct
pub record Sound {E S : Type 0} (native : E → Native) (declares : E → Declaration) (ticket : E → ℕ)
    (limit made : ℕ) (table : IndexMap Native E S) : Type 0 where
  pub keyed : (k : Native) (e : E) → get same_native table k ≡ Some e → native e ≡ k
  pub declared : (k : Native) (e : E) → get same_native table k ≡ Some e → declares e ≡ declaration_of k
  pub within : made ≤ limit
  pub numbered : AreNumbered made (plain_entries ticket table.entries)
