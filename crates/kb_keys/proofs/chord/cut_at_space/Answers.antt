use Rattle.std.proofs.Common.{lit<, Some, None}
use Rattle.std.proofs.lemmas.Str.Pattern.{split_once_first}
use Rattle.kb_keys.proofs.ChordLemmas.{steps_of-cut, steps_of-last}
use Rattle.kb_keys.proofs.chord.cut_at_space.Goals as goal

pub returns-in-Some-clause-steps : goal.returns-in-Some-clause-steps
returns-in-Some-clause-steps c =
    let h = split_once_first 32 c.args.text.now
    (Some (c.in-Some.step, c.in-Some.after)) c.in-Some.ensures.cases (lit< tt) in
    rw (h.1, h.2) (steps_of-cut c.args.text.now h.0)

pub returns-in-None-clause-steps : goal.returns-in-None-clause-steps
returns-in-None-clause-steps c =
    let h = split_once_first 32 c.args.text.now None c.in-None.ensures.cases (lit< tt) in
    steps_of-last c.args.text.now h
