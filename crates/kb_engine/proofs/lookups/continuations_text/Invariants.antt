use Rattle.std.proofs.Common.{◌≡◌, ◌++◌, drop, string_bytes}
use Rattle.kb_engine.specs.Lookups.{next_lines}
use Rattle.kb_engine.proofs.lookups.continuations_text.Given as goal

-- with the lines of those that are left there are all
abbrev pub invariant-loop-key : goal.invariant-loop-key
invariant-loop-key l =
    string_bytes l.text ++ next_lines (drop l.key-index l.key-items) ≡ next_lines l.key-items
