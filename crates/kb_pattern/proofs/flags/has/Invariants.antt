use Rattle.std.proofs.Common.{◌≡◌, drop}
use Rattle.std.specs.Prelude.{nat_eq}
use Rattle.std.specs.List.{list_any}
use Rattle.kb_pattern.proofs.flags.has.Given as goal

-- those that are left give the same
abbrev pub invariant-loop-other : goal.invariant-loop-other
invariant-loop-other l =
    list_any (nat_eq l.letter) (drop l.other-index l.letters) ≡ list_any (nat_eq l.letter) l.letters
