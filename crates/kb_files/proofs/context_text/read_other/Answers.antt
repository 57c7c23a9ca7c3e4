use Rattle.std.proofs.Common.{ap, sym, ◌∙◌, Ok, w64}
use Rattle.std.proofs.Math.Facts.{to_z-of_z}
use Rattle.kb_context.specs.declared.value.ContextValue.TheVariants.{Number}
use Rattle.kb_files.proofs.PlainValueLemmas.{number_read}
use Rattle.kb_files.proofs.context_text.read_other.Goals as goal

pub returns-in-Some : goal.returns-in-Some
returns-in-Some c =
    number_read c.args.text.now c.in-Some.number c.in-Some.ensures.spelled c.in-Some.ensures.within c.utf8.text
    ∙ ap (λ z. Ok (Number z)) (sym (to_z-of_z {w = w64} {z = c.in-Some.number} search))
