use Rattle.std.proofs.Common.{sym, ap, ◌∙◌, arith}
use Rattle.std.specs.Prelude.{bytes_eq}
use Rattle.std.proofs.lemmas.Slice.Eq.{bytes_eq-Decides}
use Rattle.kb_assembly.proofs.WideLemmas.{not_parsed, not_spelled, number_spelled}
use Rattle.kb_assembly.proofs.names.wide_in.Goals as goal

pub returns-then-eq : goal.returns-then-eq
returns-then-eq c =
    number_spelled c.args.text.now c.in-Ok.number (let p = c.in-Ok.ensures.value.0 in let q = p.0.1 in let r = p.1 in omega (arith, q, r))
    (sym c.format.ensures.text ∙ (bytes_eq-Decides c.format.result.now c.args.text.now).0 (sym c.eq.ensures ∙ c.if-eq.true))

pub returns-else-eq : goal.returns-else-eq
returns-else-eq c =
    not_spelled c.args.text.now c.parse.result c.in-Ok.number c.parse.ensures.value.0 c.in-Ok.is
    (ap (λ t. bytes_eq t c.args.text.now) (sym c.format.ensures.text) ∙ sym c.eq.ensures ∙ c.if-eq.false)

pub returns-in-Err : goal.returns-in-Err
returns-in-Err c = not_parsed c.args.text.now c.parse.result c.in-Err.field-0 c.parse.ensures.value.0 c.in-Err.is
