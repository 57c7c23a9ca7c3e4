use Rattle.std.proofs.Common.{◌<◌, arith, refl, sym, ◌∙◌}
use Rattle.std.proofs.lemmas.Option.{slice_get_read}
use Rattle.kb_context.proofs.SeatLemmas.{seat_on, seat_none}
use Rattle.kb_context.proofs.ScopesLemmas.{parent_before}
use Rattle.kb_context.proofs.scope_tree.find_seat.Goals as goal

pub loop-scope-smaller : goal.loop-scope-smaller
loop-scope-smaller c =
    parent_before c.args.scopes.now c.loop-scope.at c.index-scopes-at.result c.in-Some.parent c.requires.rooted
    (slice_get_read _ _ _ _ refl c.loop-scope.invariant.inside c.index-scopes-at.is) c.in-Some.is

pub loop-scope-preserved : goal.loop-scope-preserved
loop-scope-preserved c =
    let found = slice_get_read _ _ _ _ refl c.loop-scope.invariant.inside c.index-scopes-at.is in
    let lt : c.in-Some.parent < c.loop-scope.at =
    parent_before c.args.scopes.now c.loop-scope.at c.index-scopes-at.result c.in-Some.parent
    c.requires.rooted found c.in-Some.is in
    record {
      inside = omega arith;
      search = seat_on c.args.scopes.now c.loop-scope.at c.index-scopes-at.result found c.args.key.now _
          c.in-Some.parent (sym c.contains_key.ensures ∙ c.if-contains_key.false) c.in-Some.is lt
          c.loop-scope.invariant.search;
    }

pub returns-in-None : goal.returns-in-None
returns-in-None c = sym
    (seat_none c.args.scopes.now c.loop-scope.at c.index-scopes-at.result
    (slice_get_read _ _ _ _ refl c.loop-scope.invariant.inside c.index-scopes-at.is) c.args.key.now _
    (sym c.contains_key.ensures ∙ c.if-contains_key.false) c.in-None.is c.loop-scope.invariant.search)
