use Rattle.std.proofs.Common.{◌≡◌, ◌++◌, drop}
use Rattle.kb_base.specs.declared.note.Part.TheVariants.{Keybindings}
use Rattle.kb_when.specs.Placed.{placed}
use Rattle.kb_rules.proofs.rule_list.push_unread.Given as goal

-- the patterns so far, and then those that are left
abbrev pub invariant-loop-pattern : goal.invariant-loop-pattern
invariant-loop-pattern l =
    l.unread ++ placed l.origin Keybindings l.place (drop l.pattern-index l.patterns)
    ≡ l.fn.unread ++ placed l.origin Keybindings l.place l.fn.patterns
