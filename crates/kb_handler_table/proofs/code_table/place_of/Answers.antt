use Rattle.std.proofs.Common.{◌≡◌, ◌∙◌, ◌++◌, ap, sym, take, set}
use Rattle.std.proofs.lemmas.Bool.Decides.{Decides-eqb}
use Rattle.kb_handler_table.specs.Live.{Group}
use Rattle.kb_handler_table.proofs.Groups.{read_there, set_there, stands_at}
use Rattle.kb_handler_table.proofs.code_table.place_of.Goals as goal

pub returns-then-extension : goal.returns-then-extension
returns-then-extension c =
    let groups = c.args.groups.now in
    let i = c.loop-place.place in
    let g = c.index-groups-place.result in
    let same : g.extension ≡ c.args.extension = sym c.extension.ensures ∙ c.if-extension.true in
    let at = stands_at c.args.extension groups i g c.loop-place-test.true c.index-groups-place.is
    ((Decides-eqb g.extension c.args.extension).1 same) in
    record {
      within = c.loop-place-test.true;
      its = c.loop-place.invariant.0 ∙ at.0;
      others = c.loop-place.invariant.1 ∙ ap (λ gs. take i groups ++ gs) at.1;
      change = λ change other is.
          let its : g ≡ other = read_there groups i g other c.loop-place-test.true c.index-groups-place.is is in
          c.loop-place.invariant.2 change ∙ ap (λ gs. take i groups ++ gs) (at.2 change)
          ∙ set_there groups i (change g) c.loop-place-test.true
          ∙ ap (λ (g : Group). set groups i (change g)) its;
    }
