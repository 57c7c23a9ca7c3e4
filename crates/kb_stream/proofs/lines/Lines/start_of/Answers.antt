use Rattle.std.proofs.Common.{◌≡◌, ◌+◌, ◌-◌, ◌∙◌, ap, length, take, arith, ◌<◌}
use Rattle.kb_stream.specs.Writing.{text_of_lines}
use Rattle.kb_stream.proofs.LinesLemmas.{hold, held_start, start_within}
use Rattle.kb_stream.proofs.lines.Lines.start_of.Goals as goal

pub index-requires : goal.index-requires
index-requires c =
    let h = hold _ _ _ c.self.invariant c.self.view_is in omega (arith, h.count)

pub returns-clause-start : goal.returns-clause-start
returns-clause-start c =
    let h = hold _ _ _ c.self.invariant c.self.view_is in
    let some : c.args.place - 1 < length c.self.inside.ends.items = omega (arith, h.count) in
    let next : c.args.place - 1 + 1 ≡ c.args.place = omega arith in
    c.index.ensures ∙ held_start _ _ _ _ _ h some
    ∙ ap (λ n. length (text_of_lines (take n c.args.self.now))) next

pub returns-clause-within : goal.returns-clause-within
returns-clause-within c =
    let h = hold _ _ _ c.self.invariant c.self.view_is in
    let some : c.args.place - 1 < length c.self.inside.ends.items = omega (arith, h.count) in
    let is = c.index.ensures ∙ held_start _ _ _ _ _ h some in
    omega (arith, is, start_within (c.args.place - 1 + 1) c.args.self.now)
