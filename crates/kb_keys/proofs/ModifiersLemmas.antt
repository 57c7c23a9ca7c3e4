-- Lemmas on sets of modifiers.
use Rattle.std.proofs.Common.{◌≡◌, ◌≤◌, ◌∙◌, ℕ, List, [], ◌∷◌, Bool, true, false, ◌||◌, refl, ap, sym, arith, map, get_or}
use Rattle.std.proofs.Common.{length, codes, Bor}
use Rattle.std.proofs.Math.ListN.{get_or-map}
use Rattle.kb_keys.specs.declared.modifier.Modifier.{Modifier}
use Rattle.kb_keys.specs.declared.modifier.Modifier.TheVariants.{Ctrl, Shift, Alt, Meta}
use Rattle.kb_keys.specs.declared.modifiers.Modifiers.{Modifiers}
use Rattle.kb_keys.specs.Modifiers.{no_modifiers, with_modifier, set_number, spelled}

-- the modifiers of either
abbrev pub union : Modifiers → Modifiers → Modifiers
union a b = record {
  ctrl = a.ctrl || b.ctrl;
  shift = a.shift || b.shift;
  alt = a.alt || b.alt;
  meta = a.meta || b.meta;
}

or-true : (a b : Bool) → (true || b) ≡ (a || true)
or-true true b = refl
or-true false b = refl

pub union-with : (m : Modifier) (a b : Modifiers) → union (with_modifier m a) b ≡ union a (with_modifier m b)
union-with Ctrl a b = ap
    (λ (v : Bool). let r : Modifiers =
    record { ctrl = v; shift = a.shift || b.shift; alt = a.alt || b.alt; meta = a.meta || b.meta } in
    r) (or-true a.ctrl b.ctrl)
union-with Shift a b =
    ap (λ (v : Bool). let r : Modifiers =
    record { ctrl = a.ctrl || b.ctrl; shift = v; alt = a.alt || b.alt; meta = a.meta || b.meta } in
    r) (or-true a.shift b.shift)
union-with Alt a b = ap
    (λ (v : Bool). let r : Modifiers =
    record { ctrl = a.ctrl || b.ctrl; shift = a.shift || b.shift; alt = v; meta = a.meta || b.meta } in
    r) (or-true a.alt b.alt)
union-with Meta a b = ap
    (λ (v : Bool). let r : Modifiers =
    record { ctrl = a.ctrl || b.ctrl; shift = a.shift || b.shift; alt = a.alt || b.alt; meta = v } in
    r) (or-true a.meta b.meta)

or-false : (a : Bool) → (a || false) ≡ a
or-false true = refl
or-false false = refl

pub union-none : (a : Modifiers) → union a no_modifiers ≡ a
union-none a = rw (or-false a.ctrl, or-false a.shift, or-false a.alt, or-false a.meta) refl

-- the canonical texts of all sets, by number
unfoldable pub prefixes : List (List ℕ)
prefixes =
    codes "" ∷ codes "meta+" ∷ codes "alt+" ∷ codes "alt+meta+" ∷
    codes "shift+" ∷ codes "shift+meta+" ∷ codes "shift+alt+" ∷ codes "shift+alt+meta+" ∷
    codes "ctrl+" ∷ codes "ctrl+meta+" ∷ codes "ctrl+alt+" ∷ codes "ctrl+alt+meta+" ∷
    codes "ctrl+shift+" ∷ codes "ctrl+shift+meta+" ∷ codes "ctrl+shift+alt+" ∷ codes "ctrl+shift+alt+meta+" ∷ []

-- the set of these modifiers
abbrev held : Bool → Bool → Bool → Bool → Modifiers
held ctrl shift alt meta = record { ctrl = ctrl; shift = shift; alt = alt; meta = meta }

prefix_of : (ctrl shift alt meta : Bool)
    → get_or prefixes (set_number (held ctrl shift alt meta)) [] ≡ spelled (held ctrl shift alt meta)
unfolding prefixes
prefix_of true true true true = refl
prefix_of true true true false = refl
prefix_of true true false true = refl
prefix_of true true false false = refl
prefix_of true false true true = refl
prefix_of true false true false = refl
prefix_of true false false true = refl
prefix_of true false false false = refl
prefix_of false true true true = refl
prefix_of false true true false = refl
prefix_of false true false true = refl
prefix_of false true false false = refl
prefix_of false false true true = refl
prefix_of false false true false = refl
prefix_of false false false true = refl
prefix_of false false false false = refl

short_of : (ctrl shift alt meta : Bool) → length (spelled (held ctrl shift alt meta)) ≤ 20
short_of true true true true = omega arith
short_of true true true false = omega arith
short_of true true false true = omega arith
short_of true true false false = omega arith
short_of true false true true = omega arith
short_of true false true false = omega arith
short_of true false false true = omega arith
short_of true false false false = omega arith
short_of false true true true = omega arith
short_of false true true false = omega arith
short_of false true false true = omega arith
short_of false true false false = omega arith
short_of false false true true = omega arith
short_of false false true false = omega arith
short_of false false false true = omega arith
short_of false false false false = omega arith

pub prefix-short : (m : Modifiers) → length (spelled m) ≤ 20
prefix-short m = short_of m.ctrl m.shift m.alt m.meta

-- a read of a table of these texts
pub prefix_read : (table : List (Bor (List ℕ))) (m : Modifiers) → map (λ prefix. prefix.now) table ≡ prefixes
    → (get_or table (set_number m) (record { ref_ptr = (0, 0); now = [] })).now ≡ spelled m
prefix_read table m same =
    sym
    (get_or-map (λ (prefix : Bor (List ℕ)). prefix.now) table (set_number m) (record { ref_ptr = (0, 0); now = [] }))
    ∙ ap (λ (all : List (List ℕ)). get_or all (set_number m) []) same
    ∙ prefix_of m.ctrl m.shift m.alt m.meta
