use Rattle.std.proofs.Common.{◌≡◌, ◌++◌, drop, map, string_bytes}
use Rattle.kb_engine.specs.Lookups.{keys_lines}
use Rattle.kb_engine.proofs.lookups.keys_text.Given as goal

-- with the lines of those that are left there are all
abbrev pub invariant-loop-rule : goal.invariant-loop-rule
invariant-loop-rule l =
    string_bytes l.text ++ keys_lines (map (λ r. r.now) (drop l.rule-index l.rule-items))
    ≡ keys_lines (map (λ r. r.now) l.rule-items)
