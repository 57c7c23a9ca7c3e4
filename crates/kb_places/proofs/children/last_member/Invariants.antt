use Rattle.std.proofs.Common.{◌≡◌, find, reverse}
use Rattle.std.specs.Slice.Iter.{iter_rest}
use Rattle.std.specs.Iterator.Adapters.{rev_source}
use Rattle.kb_places.specs.Children.{has_name}
use Rattle.kb_places.proofs.children.last_member.Given as goal

-- the last of those that are left is the last of all
abbrev pub invariant-loop-member : goal.invariant-loop-member
invariant-loop-member l =
    find (has_name l.text l.name) (reverse (iter_rest (rev_source l.member-iterator)))
    ≡ find (has_name l.text l.name) (reverse l.fn.members)
