use Rattle.std.proofs.Common.{◌≡◌, ◌++◌, ◌∙◌, map, ap, arith}
use Rattle.std.specs.List.{flat_map}
use Rattle.std.proofs.lemmas.Grind.{common_steps}
use Rattle.kb_rules.specs.RemovalIndex.{left_in}
use Rattle.kb_rules.proofs.RemovalIndexLemmas.{all_left}
use Rattle.kb_rules.proofs.rule_set.rules_of.Goals as goal

pub returns : goal.returns
returns c =
    let lists = map (λ l. l.now) c.args.lists.now in
    let index = c.in_ok-index.index in
    let kept : map (λ r. r.value) c.share_all.new.list
    ≡ flat_map (λ list. left_in index list.rules) lists ++ c.args.user.now.rules =
    grind (arith, common_steps) in
    kept ∙ ap (λ rules. rules ++ c.args.user.now.rules) (all_left index lists _ c.in_ok-index.ensures)
