use Rattle.std.proofs.Common.{sym}
use Rattle.std.proofs.lemmas.List.{take_rest}
use Rattle.kb_jsonc.proofs.PassLemmas.{open_string, past_string}
use Rattle.kb_jsonc.proofs.scan.pass_string.Goals as goal

pub returns-in_default-clause-err : goal.returns-in_default-clause-err
returns-in_default-clause-err c =
    open_string c.args.bytes.now c.args.scan c.requires.within c.requires.first
    (simp take_rest at (sym c.in_default.ensures.value))

pub returns-clause-ok : goal.returns-clause-ok
returns-clause-ok c = past_string c.in-Some.len c.requires.stands c.requires.within c.requires.first
    (simp take_rest at (sym c.in-Some.ensures.value)) (simp take_rest at c.in-Some.ensures.within)
