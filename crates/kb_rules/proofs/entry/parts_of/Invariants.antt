use Rattle.serde_json.specs.View.{members_view}
use Rattle.kb_rules.proofs.EntryLemmas.{Keeps}
use Rattle.kb_rules.proofs.entry.parts_of.Given as goal

-- what is kept, with the members that are left
abbrev pub invariant-loop-name : goal.invariant-loop-name
invariant-loop-name l =
    Keeps l.fn.platform l.parts (members_view l.name-iterator) (members_view l.fn.members.entries)
