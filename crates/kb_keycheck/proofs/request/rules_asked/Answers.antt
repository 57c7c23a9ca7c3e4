use Rattle.std.proofs.Common.{◌≡◌, ◌∙◌, true, false, sym}
use Rattle.std.specs.Prelude.{codes}
use Rattle.clap.proofs.WalkLemmas.{one_text-rows}
use Rattle.clap.specs.Words.{found_of}
use Rattle.kb_keycheck.proofs.request.rules_asked.Goals as goal

pub returns-then-get_flag : goal.returns-then-get_flag
returns-then-get_flag c = λ is.
    let off = c.get_flag.ensures.other (one_text-rows (found_of c.args.matches.now) (codes "unbound") ∙ is) in
    let no : true ≡ false = sym c.if-get_flag.true ∙ off in absurd cc

pub returns : goal.returns
returns c = (
  λ is.
      let on = c.get_flag.ensures.value (one_text-rows (found_of c.args.matches.now) (codes "unbound") ∙ is) in
      let no : true ≡ false = sym on ∙ c.if-get_flag.false in absurd cc,
  c.text_given.ensures,
  c.text_given-2.ensures,
)
