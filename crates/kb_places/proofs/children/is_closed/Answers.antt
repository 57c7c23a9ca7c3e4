use Rattle.std.proofs.Common.{sym, ◌∙◌, ◌∷◌, [], ◌&&◌}
use Rattle.std.specs.Str.{bytes_eq}
use Rattle.kb_places.proofs.ChildrenLemmas.{eq_parts, too_short}
use Rattle.kb_places.proofs.children.is_closed.Goals as goal

pub returns-then-text-name : goal.returns-then-text-name
returns-then-text-name c = sym (too_short c.args.text.now c.args.name.now c.if-text-name.true)

pub returns : goal.returns
returns c =
    c.are_name_and_quote.ensures
    ∙ (λ i. bytes_eq (c.split_at.ensures.front i) c.args.name.now && bytes_eq (c.split_at.ensures.back i) (34 ∷ []))
    ∙ sym (eq_parts c.args.text.now c.args.name.now)
