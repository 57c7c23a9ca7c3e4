use Rattle.std.proofs.Common.{rules, ◌≡◌, ◌<◌, ◌≤◌, length, Some, slice_get, slice_set, sym, subst, ap, ◌∙◌}
use Rattle.std.proofs.Common.{refl}
use Rattle.std.specs.FinMap.{remove, len}
use Rattle.kb_context.specs.Scopes.{key_limit}
use Rattle.kb_context.specs.Scopes.{ScopesData, place_of, without_value_at}
use Rattle.kb_context.proofs.ScopesLemmas.{placed_within, found_by, keeps, seen_after, len_le-key_count}
use Rattle.kb_context.proofs.ScopesLemmas.{few-remove, unset_changes, changes_in}
use Rattle.kb_context.proofs.scope_tree.ScopeTree.unset.Goals as goal
use Rattle.kb_context.proofs.scope_tree.ScopeTree.unset.Goals.{After-remove}

pub index_mut-scope-requires : goal.index_mut-scope-requires
index_mut-scope-requires c =
    let within : c.in-Some.field-0.now < length c.self.inside.scopes.items =
    placed_within c.args.scope.now c.self.inside.scopes.items c.self.inside.places _
    (c.self.invariant.placed c.args.scope.now) c.in-Some.ensures in
    search rules

-- the scope that is written
found : (c : After-remove)
    → slice_get c.self.inside.scopes.items c.in-Some.field-0.now ≡ Some c.index_mut-scope.result.now
found c = found_by c.args.scope.now c.self.inside.scopes.items c.self.inside.places _
    c.index_mut-scope.result.now
    (c.self.invariant.placed c.args.scope.now) c.in-Some.ensures c.index_mut-scope.ensures.value

within : (c : After-remove) → len c.index_mut-scope.result.now.keys ≤ c.self.inside.keys
within c = subst (λ n. len c.index_mut-scope.result.now.keys ≤ n) (sym c.self.invariant.counted)
    (len_le-key_count _ _ _ (found c))

-- what is seen afterwards, by the scope's place
seen : (c : After-remove)
    → ◌≡◌ {A = ScopesData}
    (record {
      scopes = slice_set c.self.inside.scopes.items c.in-Some.field-0.now
          (record {
            name = c.index_mut-scope.result.now.name;
            parent = c.index_mut-scope.result.now.parent;
            keys
                = c.remove.new.self;
          });
      focus = c.self.inside.focus;
    }) (without_value_at c.args.self.now c.in-Some.field-0.now c.args.key.now)
seen c =
    seen_after (λ m. remove m c.args.key.now) c.in-Some.field-0.now c.self.inside.scopes.items
    c.index_mut-scope.result.now c.self.inside.focus c.remove.new.self (found c) c.remove.ensures
    ∙ ap (λ (s : ScopesData). without_value_at s c.in-Some.field-0.now c.args.key.now) c.self.view_is

place : (c : After-remove) → place_of c.args.scope.now c.args.self.now.scopes ≡ Some c.in-Some.field-0.now
place c =
    ap (λ (s : ScopesData). place_of c.args.scope.now s.scopes) (sym c.self.view_is)
    ∙ sym (c.self.invariant.placed c.args.scope.now) ∙ sym c.in-Some.ensures

pub overflow_sub-self : goal.overflow_sub-self
overflow_sub-self c = subst (λ n. n ≤ c.self.inside.keys) (sym c.len-before.ensures.len) (within c)

pub invariant_of-self : goal.invariant_of-self
invariant_of-self c =
    let d : After-remove = (goal.at.invariant_of-self c).After-remove in
    keeps (λ m. remove m c.args.key.now) c.in-Some.field-0.now c.self.inside.scopes.items
    c.index_mut-scope.result.now c.self.inside.places c.self.inside.focus c.self.inside.keys
    c.remove.new.self c.len-before.result c.len.result c.self.invariant
    (found d) c.remove.ensures c.len-before.ensures.len c.len.ensures.len
    (few-remove c.index_mut-scope.result.now.keys c.args.key.now key_limit c.self.inside.keys
    c.self.invariant.few (within d))

pub returns-clause-known : goal.returns-clause-known
returns-clause-known c = rw (place (goal.at.returns-clause-known c).After-remove) refl

pub returns-clause-ok : goal.returns-clause-ok
returns-clause-ok c = let d : After-remove = (goal.at.returns-clause-ok c).After-remove in
    seen d ∙ rw (place d) refl

pub returns-clause-change : goal.returns-clause-change
returns-clause-change c =
    let d : After-remove = (goal.at.returns-clause-change c).After-remove in
    let inside : c.in-Some.field-0.now < length c.args.self.now.scopes =
    subst (λ (s : ScopesData). c.in-Some.field-0.now < length s.scopes) c.self.view_is
    (placed_within c.args.scope.now c.self.inside.scopes.items c.self.inside.places _
    (c.self.invariant.placed c.args.scope.now) c.in-Some.ensures) in
    changes_in c.args.self.now _ c.args.scope.now c.in-Some.field-0.now c.args.key.now _ (place d)
    (unset_changes c.args.self.now _ c.in-Some.field-0.now c.args.key.now (seen d) inside)
