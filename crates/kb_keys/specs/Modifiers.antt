-- Sets of modifiers, and their canonical text.
use Rattle.std.specs.Prelude.{ℕ, ◌+◌, ◌*◌, List, [], ◌++◌, Bool, true, false, cond, ◌&&◌, codes}
use Rattle.std.proofs.Math.Bool.{beq}
use Rattle.kb_keys.specs.declared.modifier.Modifier.{Modifier}
use Rattle.kb_keys.specs.declared.modifier.Modifier.TheVariants.{Ctrl, Shift, Alt, Meta}
use Rattle.kb_keys.specs.declared.modifiers.Modifiers.{Modifiers}

-- no modifier is held
abbrev pub no_modifiers : Modifiers
no_modifiers = record { ctrl = false; shift = false; alt = false; meta = false }

-- the modifiers and one more
abbrev pub with_modifier : Modifier → Modifiers → Modifiers
with_modifier Ctrl m = record m { ctrl = true }
with_modifier Shift m = record m { shift = true }
with_modifier Alt m = record m { alt = true }
with_modifier Meta m = record m { meta = true }

-- the word, if its modifier is held
abbrev pub spelled_if : Bool → List ℕ → List ℕ
spelled_if held word = cond held word []

-- the held modifiers in a fixed order, each followed by `+`
abbrev pub spelled : Modifiers → List ℕ
spelled m =
    spelled_if m.ctrl (codes "ctrl+")
    ++ (spelled_if m.shift (codes "shift+")
    ++ (spelled_if m.alt (codes "alt+")
    ++ spelled_if m.meta (codes "meta+")))

-- whether the same modifiers are held
abbrev pub same_modifiers : Modifiers → Modifiers → Bool
same_modifiers a b =
    beq a.ctrl b.ctrl && (beq a.shift b.shift && (beq a.alt b.alt && beq a.meta b.meta))

-- 1 if a modifier is held
abbrev pub bit : Bool → ℕ
bit true = 1
bit false = 0

-- the number of a set, below 16: a bit for each modifier
abbrev pub set_number : Modifiers → ℕ
set_number m = ((bit m.ctrl * 2 + bit m.shift) * 2 + bit m.alt) * 2 + bit m.meta
