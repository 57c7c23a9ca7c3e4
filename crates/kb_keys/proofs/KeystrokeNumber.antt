-- Different keystrokes have different numbers.
use Rattle.std.proofs.Common.{◌≡◌, ◌<◌, Bool, true, false, refl, arith}
use Rattle.kb_keys.specs.declared.keystroke.Keystroke.{Keystroke}
use Rattle.kb_keys.specs.declared.modifiers.Modifiers.{Modifiers}
use Rattle.kb_keys.specs.KeyName.{key_count}
use Rattle.kb_keys.specs.Keystroke.{number, stroke_count}
use Rattle.kb_keys.specs.Modifiers.{bit, set_number}

bit-below : (b : Bool) → bit b < 2
bit-below true = omega arith
bit-below false = omega arith

bit-one : (a b : Bool) → bit a ≡ bit b → a ≡ b
bit-one true true e = refl
bit-one true false e = absurd (omega arith)
bit-one false true e = absurd (omega arith)
bit-one false false e = refl

-- different sets of modifiers have different numbers
set-one : (a b : Modifiers) → set_number a ≡ set_number b → a ≡ b
set-one a b e =
    let ca = bit-below a.ctrl in
    let cb = bit-below b.ctrl in
    let sa = bit-below a.shift in
    let sb = bit-below b.shift in
    let la = bit-below a.alt in
    let lb = bit-below b.alt in
    let ma = bit-below a.meta in
    let mb = bit-below b.meta in
    let meta : a.meta ≡ b.meta = bit-one a.meta b.meta (omega arith) in
    let alt : a.alt ≡ b.alt = bit-one a.alt b.alt (omega arith) in
    let shift : a.shift ≡ b.shift = bit-one a.shift b.shift (omega arith) in
    let ctrl : a.ctrl ≡ b.ctrl = bit-one a.ctrl b.ctrl (omega arith) in
    λ i. record { ctrl = ctrl i; shift = shift i; alt = alt i; meta = meta i }

-- different keystrokes have different numbers
pub number_apart : (a b : Keystroke) → a.key < key_count → b.key < key_count → number a ≡ number b → a ≡ b
number_apart a b ka kb e =
    let mods : a.mods ≡ b.mods = set-one a.mods b.mods (omega arith) in
    let key : a.key ≡ b.key = omega arith in
    λ i. record { mods = mods i; key = key i }

-- each number of a key in the table is below the number of keystrokes
pub number-below : (s : Keystroke) → s.key < key_count → number s < stroke_count
number-below s k =
    let c = bit-below s.mods.ctrl in
    let h = bit-below s.mods.shift in
    let l = bit-below s.mods.alt in
    let m = bit-below s.mods.meta in
    omega arith
