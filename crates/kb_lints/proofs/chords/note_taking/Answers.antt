use Rattle.std.proofs.Common.{rules, ◌≡◌, ◌++◌, ◌∷◌, [], All, Some, IsTrue, true, map, slice_get, subst, sym}
use Rattle.std.proofs.lemmas.List.Elements.{All-push}
use Rattle.kb_resolve.specs.Enablements.{enablement_in}
use Rattle.kb_lints.specs.CutOff.{IsTaking, TakesAll}
use Rattle.kb_lints.proofs.chords.note_taking.Goals as goal

pub returns-in_ok-push : goal.returns-in_ok-push
returns-in_ok-push c = λ all.
    let enablement = enablement_in c.args.enablements.now in
    let in_force = map (λ r. r.value) c.args.rules.now in
    let rule = c.in-Some.rule.now in
    let at : slice_get in_force c.args.position ≡ Some rule = search rules in
    let yes : IsTrue true = search rules in
    let takes : TakesAll enablement in_force c.args.position rule = c.if-takes_all.ensures yes in
    let one : IsTaking enablement in_force c.args.position =
    record { lower = rule; at = at; takes_all = takes } in
    let items : c.push.new.self.items ≡ c.args.taking.now.positions.items ++ c.args.position ∷ [] = search rules in
    subst (All (IsTaking enablement in_force)) (sym items)
    (All-push (IsTaking enablement in_force) c.args.taking.now.positions.items c.args.position all one)
