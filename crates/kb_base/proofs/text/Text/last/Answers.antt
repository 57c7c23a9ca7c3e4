use Rattle.std.proofs.Common.{length, ap, sym, ◌∙◌}
use Rattle.kb_base.proofs.TextLemmas.{only_last-push, HasNone-empty}
use Rattle.kb_base.proofs.text.Text.last.Goals as goal

pub returns-in-Some : goal.returns-in-Some
returns-in-Some c =
    let whole = c.as_str.ensures.value ∙ c.self.view_is in
    let all = c.chars-rest.ensures.rest ∙ whole in
    let u = rw whole at c.as_str.utf8 in
    let v = rw c.as_str-front.ensures at c.as_str-front.utf8 in
    only_last-push _ _ c.in-Some.character (sym all ∙ c.in-Some.ensures.steps) u v

pub returns-in-None : goal.returns-in-None
returns-in-None c =
    let all = c.chars-rest.ensures.rest ∙ c.as_str.ensures.value ∙ c.self.view_is in
    let n = HasNone-empty c.args.self.now (ap length (sym all) ∙ c.in-None.ensures.steps.0) in
    (n.no_last, n.same_last)
