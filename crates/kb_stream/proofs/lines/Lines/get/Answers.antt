use Rattle.std.proofs.Common.{◌<◌, ◌∙◌, ◌-◌, sym, ap, subst, length, take, drop, arith}
use Rattle.std.specs.Prelude.{Some}
use Rattle.std.specs.Str.{IsUtf8}
use Rattle.std.proofs.lemmas.List.Elements.{All-get_or}
use Rattle.kb_stream.proofs.LinesLemmas.{line_at}
use Rattle.kb_stream.proofs.lines.Lines.get.Goals as goal

pub line_between-line-requires-clause-some : goal.line_between-line-requires-clause-some
line_between-line-requires-clause-some c =
    let some : c.args.place < length c.args.self.now = omega (arith, c.len.ensures) in
    (line_at _ _ _ _ some c.start_of.ensures.start c.start_of-2.ensures.start).some

pub unreachable-requires : goal.unreachable-requires
unreachable-requires c =
    let some : c.args.place < length c.args.self.now = omega (arith, c.len.ensures) in
    let at = line_at _ _ _ _ some c.start_of.ensures.start c.start_of-2.ensures.start in
    let is = c.line_between-line.ensures
    ∙ ap (λ t. take (c.start_of-2.result - 1 - c.start_of.result) (drop c.start_of.result t))
    c.text.ensures.text ∙ at.line in
    c.in-Err.ensures.cases.0 (subst IsUtf8 (sym is) (All-get_or IsUtf8 _ _ _ some c.text.ensures.utf8))

pub returns : goal.returns
returns c =
    let some : c.args.place < length c.args.self.now = omega (arith, c.len.ensures) in
    let at = line_at _ _ _ _ some c.start_of.ensures.start c.start_of-2.ensures.start in
    ap Some (c.in-Ok.ensures.cases.0 ∙ c.line_between-line.ensures
    ∙ ap (λ t. take (c.start_of-2.result - 1 - c.start_of.result) (drop c.start_of.result t))
    c.text.ensures.text ∙ at.line) ∙ sym at.found
