use Rattle.std.proofs.Common.{map, subst, sym}
use Rattle.std.proofs.lemmas.Result.{err_from_is_err_and}
use Rattle.std.specs.Prelude.{IfErr}
use Rattle.kb_keycheck.specs.Ends.{IsLineFault}
use Rattle.kb_keycheck.proofs.RunLemmas.{refused_line}
use Rattle.kb_keycheck.proofs.running.obey_texts.Goals as goal

pub returns-in_err-matches-clause-refused : goal.returns-in_err-matches-clause-refused
returns-in_err-matches-clause-refused g c =
    let words = map (λ text. text.now) c.args.texts.now in
    let p = err_from_is_err_and c.from_residual.result c.from_residual.ensures.1 in
    subst (λ r. IfErr r (IsLineFault words)) (sym p.1)
    (refused_line words c.in_err-matches.field-0.0 p.0 c.in_err-matches.ensures p.2)
