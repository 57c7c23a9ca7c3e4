use Rattle.std.proofs.Common.{◌≤◌, sym, length, arith}
use Rattle.std.proofs.lemmas.List.{take_all}
use Rattle.kb_stream.proofs.LinesLemmas.{hold, fewer_are, fewer_seen}
use Rattle.kb_stream.proofs.lines.Lines.truncate.Goals as goal

pub start_of-end-requires : goal.start_of-end-requires
start_of-end-requires c =
    let h = hold _ _ _ c.self.invariant c.self.view_is in omega (arith, h.count)

pub invariant_of-self : goal.invariant_of-self
invariant_of-self c =
    let h = hold _ _ _ c.self.invariant c.self.view_is in
    rw (c.truncate.ensures.items, c.truncate-then-len.ensures.items)
    (fewer_are _ _ _ c.args.len _ h c.start_of-end.ensures.start)

pub returns-then-len : goal.returns-then-len
returns-then-len c =
    let h = hold _ _ _ c.self.invariant c.self.view_is in
    rw (c.truncate.ensures.items, c.truncate-then-len.ensures.items)
    (fewer_seen _ _ _ c.args.len _ h c.start_of-end.ensures.start)

pub returns-else-len : goal.returns-else-len
returns-else-len c =
    let h = hold _ _ _ c.self.invariant c.self.view_is in
    let all : length c.args.self.now ≤ c.args.len = omega (arith, h.count) in sym (take_all _ _ all)
