use Rattle.std.proofs.Common.{◌≡◌, ◌++◌, ◌∷◌, [], ◌+◌, arith, rules, subst, sym, take}
use Rattle.kb_explain_report.specs.RulePlaces.{ArePlacedInAll}
use Rattle.kb_explain_report.proofs.RulePlacesLemmas.{all_next}
use Rattle.kb_explain_report.proofs.rule_places.positions_of_all.Goals as goal

pub loop-source-preserved : goal.loop-source-preserved
loop-source-preserved c =
    let sources = c.args.sources.now in
    let i = c.loop-source.source-index in
    let before = c.loop-source.all.items in
    let one = c.in_ok-positions.positions in
    let more : c.push.new.self.items ≡ before ++ one ∷ [] = search rules in
    subst (ArePlacedInAll (take (i + 1) sources)) (sym more)
    (all_next sources i _ before one (omega arith) c.loop-source.invariant c.in_ok-positions.ensures)
