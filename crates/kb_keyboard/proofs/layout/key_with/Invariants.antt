use Rattle.std.proofs.Common.{◌≡◌, drop}
use Rattle.std.specs.Prelude.{find}
use Rattle.kb_keyboard.specs.Layout.{has_code}
use Rattle.kb_keyboard.proofs.layout.key_with.Given as goal

-- the first of those that are left is that of all
abbrev pub invariant-loop-key : goal.invariant-loop-key
invariant-loop-key l = find (has_code l.code) (drop l.key-index l.keys) ≡ find (has_code l.code) l.keys
