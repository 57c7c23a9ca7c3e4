use Rattle.std.proofs.Common.{◌≡◌, drop, map}
use Rattle.kb_lookup.specs.Starting.{has_chord}
use Rattle.kb_lookup.proofs.starting.has_chord.Given as goal

-- those that are left give the same
abbrev pub invariant-loop-rule : goal.invariant-loop-rule
invariant-loop-rule l =
    has_chord (map (λ r. r.now) (drop l.rule-index l.made)) l.chord
    ≡ has_chord (map (λ r. r.now) l.fn.made) l.chord
