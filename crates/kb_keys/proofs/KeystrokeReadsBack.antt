-- The canonical text of a keystroke is parsed as that keystroke: for each set of modifiers, one
-- computation over the table.
use Rattle.std.proofs.Common.{◌≡◌, ℕ, ◌<◌, Bool, true, false, ◌&&◌, Result, Ok, Err, refl, ap, not, List}
use Rattle.std.proofs.Common.{◌==◌}
use Rattle.std.specs.List.{list_all}
use Rattle.kb_keys.specs.declared.key_fault.KeyFault.{KeyFault}
use Rattle.kb_keys.specs.declared.keystroke.Keystroke.{Keystroke}
use Rattle.kb_keys.specs.declared.modifiers.Modifiers.{Modifiers}
use Rattle.kb_keys.specs.KeyName.{names, key_named}
use Rattle.kb_keys.specs.Keystroke.{keystroke_of, split_of, spelling, same_stroke}
use Rattle.kb_keys.proofs.KeyNameLemmas.{all_below, all_below-at, and_both}
use Rattle.kb_keys.proofs.KeystrokeLemmas.{same_stroke-Decides}

abbrev is_read : Keystroke → Result Keystroke KeyFault → Bool
is_read stroke (Err fault) = false
is_read stroke (Ok s) = same_stroke s stroke

is_read-true : (stroke : Keystroke) (r : Result Keystroke KeyFault) → is_read stroke r ≡ true → r ≡ Ok stroke
is_read-true stroke (Err fault) h = absurd (cc)
is_read-true stroke (Ok s) h =
    ap (λ (k : Keystroke). let read : Result Keystroke KeyFault = Ok k in read)
    ((same_stroke-Decides s stroke).0 h)

-- no byte is a space
abbrev pub no_space : List ℕ → Bool
no_space bytes = list_all (λ byte. not (byte == 32)) bytes

-- a spelling is read back, and holds no space
pub record IsCanonical (s : Keystroke) : Type 0 where
  pub read : keystroke_of (spelling s) ≡ Ok s
  pub spaceless : no_space (spelling s) ≡ true

abbrev held : Bool → Bool → Bool → Bool → Modifiers
held ctrl shift alt meta = record { ctrl = ctrl; shift = shift; alt = alt; meta = meta }

abbrev stroke_of : Modifiers → ℕ → Keystroke
stroke_of mods k = record { mods = mods; key = k }

-- whether a name with these modifiers is canonical
unfoldable reads_back : Modifiers → ℕ → Bool
reads_back mods k = is_read (stroke_of mods k) (keystroke_of (spelling (stroke_of mods k)))
    && no_space (spelling (stroke_of mods k))

from_table : (mods : Modifiers) → all_below 99 (reads_back mods) ≡ true → (k : ℕ) → k < 99
    → IsCanonical (stroke_of mods k)
unfolding reads_back
from_table mods all k h =
    let both : (is_read (stroke_of mods k) (keystroke_of (spelling (stroke_of mods k))) ≡ true)
    × (no_space (spelling (stroke_of mods k)) ≡ true) =
    and_both _ _ (all_below-at 99 (reads_back mods) all k h) in
    record { read = is_read-true (stroke_of mods k) _ both.0; spaceless = both.1 }

-- each `refl` reads the 99 names with one set of modifiers
canonical : (ctrl shift alt meta : Bool) (k : ℕ) → k < 99
    → IsCanonical (stroke_of (held ctrl shift alt meta) k)
unfolding reads_back keystroke_of split_of spelling key_named names
canonical true true true true k h = from_table (held true true true true) refl k h
canonical true true true false k h = from_table (held true true true false) refl k h
canonical true true false true k h = from_table (held true true false true) refl k h
canonical true true false false k h = from_table (held true true false false) refl k h
canonical true false true true k h = from_table (held true false true true) refl k h
canonical true false true false k h = from_table (held true false true false) refl k h
canonical true false false true k h = from_table (held true false false true) refl k h
canonical true false false false k h = from_table (held true false false false) refl k h
canonical false true true true k h = from_table (held false true true true) refl k h
canonical false true true false k h = from_table (held false true true false) refl k h
canonical false true false true k h = from_table (held false true false true) refl k h
canonical false true false false k h = from_table (held false true false false) refl k h
canonical false false true true k h = from_table (held false false true true) refl k h
canonical false false true false k h = from_table (held false false true false) refl k h
canonical false false false true k h = from_table (held false false false true) refl k h
canonical false false false false k h = from_table (held false false false false) refl k h

pub spelling-IsCanonical : (s : Keystroke) → s.key < 99 → IsCanonical s
spelling-IsCanonical s h = canonical s.mods.ctrl s.mods.shift s.mods.alt s.mods.meta s.key h
