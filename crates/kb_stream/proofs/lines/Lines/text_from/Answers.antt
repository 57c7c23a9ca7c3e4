use Rattle.std.proofs.Common.{◌-◌, length, drop, arith}
use Rattle.std.proofs.lemmas.List.{take_all, length-drop}
use Rattle.kb_stream.proofs.LinesLemmas.{text_behind}
use Rattle.kb_stream.proofs.lines.Lines.text_from.Goals as goal

pub returns : goal.returns
returns c =
    let all = take_all (length c.text.result.now - c.start_of-start.result)
    (drop c.start_of-start.result c.text.result.now)
    (simp length-drop (omega arith)) in
    rw (all, c.text.ensures.text, c.start_of-start.ensures.start) (text_behind c.args.place c.args.self.now)
