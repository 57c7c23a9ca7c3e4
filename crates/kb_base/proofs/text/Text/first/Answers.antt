use Rattle.std.proofs.Common.{length, ap, sym, ◌∙◌}
use Rattle.kb_base.proofs.TextLemmas.{only_first-past, HasNone-empty}
use Rattle.kb_base.proofs.text.Text.first.Goals as goal

pub returns-in-Some : goal.returns-in-Some
returns-in-Some c =
    let whole = c.as_str.ensures.value ∙ c.self.view_is in
    let all = c.chars-rest.ensures.rest ∙ whole in
    let u = rw whole at c.as_str.utf8 in
    only_first-past _ _ c.in-Some.character u (sym all ∙ c.in-Some.ensures.steps.0)

pub returns-in-None : goal.returns-in-None
returns-in-None c =
    let all = c.chars-rest.ensures.rest ∙ c.as_str.ensures.value ∙ c.self.view_is in
    let n = HasNone-empty c.args.self.now (ap length (sym all) ∙ c.in-None.ensures.steps.0.0) in
    (n.no_first, n.same_first)
