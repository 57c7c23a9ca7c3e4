use Rattle.std.proofs.Common.{◌≡◌, ◌<◌, ◌≤◌, ◌||◌, nat_lt, true, length, Some, slice_get, sym}
use Rattle.std.proofs.Common.{subst, ap, ◌∙◌, refl}
use Rattle.std.specs.FinMap.{insert, contains_key, len}
use Rattle.std.proofs.lemmas.Option.{slice_get_read}
use Rattle.kb_context.specs.Scopes.{ScopesData, has_room, with_value_at}
use Rattle.kb_context.specs.Scopes.{key_limit}
use Rattle.kb_context.proofs.ScopesLemmas.{keeps, seen_after, len_le-key_count, few-insert, room_at}
use Rattle.kb_context.proofs.scope_tree.ScopeTree.put_at.Goals as goal
use Rattle.kb_context.proofs.scope_tree.ScopeTree.put_at.Goals.{In_ok-set}

-- the scope that is written
found : (c : In_ok-set) → slice_get c.self.inside.scopes.items c.args.at ≡ Some c.index_mut-scope.result.now
found c = slice_get_read _ _ _ _ refl
    (subst (λ (s : ScopesData). c.args.at < length s.scopes) (sym c.self.view_is) c.requires.inside)
    c.index_mut-scope.ensures.value

-- there is room, or the key stands
room : (c : In_ok-set)
    → (nat_lt c.self.inside.keys key_limit || contains_key c.index_mut-scope.result.now.keys c.args.key.now)
    ≡ true
room c =
    let old : ScopesData = record { scopes = c.self.inside.scopes.items; focus = c.self.inside.focus } in
    room_at old c.args.at c.args.key.now c.index_mut-scope.result.now c.self.inside.keys
    c.self.invariant.counted (found c)
    ∙ ap (λ (s : ScopesData). has_room s c.args.at c.args.key.now) c.self.view_is ∙ c.requires.room

within : (c : In_ok-set) → len c.index_mut-scope.result.now.keys ≤ c.self.inside.keys
within c = subst (λ n. len c.index_mut-scope.result.now.keys ≤ n) (sym c.self.invariant.counted)
    (len_le-key_count _ _ _ (found c))

pub overflow_sub-self : goal.overflow_sub-self
overflow_sub-self c = subst (λ n. n ≤ c.self.inside.keys) (sym c.len-before.ensures.len) (within c)

pub invariant_of-self-2 : goal.invariant_of-self-2
invariant_of-self-2 c =
    let d : In_ok-set = (goal.at.invariant_of-self-2 c).In_ok-set in
    keeps (λ m. insert m c.args.key.now c.args.value) c.args.at c.self.inside.scopes.items
    c.index_mut-scope.result.now c.self.inside.places c.self.inside.focus c.self.inside.keys
    c.set.new.self c.len-before.result c.len.result c.self.invariant
    (found d) c.in_ok-set.ensures.ok c.len-before.ensures.len c.len.ensures.len
    (few-insert c.index_mut-scope.result.now.keys c.args.key.now c.args.value key_limit c.self.inside.keys
    (room d) c.self.invariant.few (within d))

pub returns-clause-ok : goal.returns-clause-ok
returns-clause-ok c =
    let d : In_ok-set = (goal.at.returns-clause-ok c).In_ok-set in
    seen_after (λ m. insert m c.args.key.now c.args.value) c.args.at c.self.inside.scopes.items
    c.index_mut-scope.result.now c.self.inside.focus c.set.new.self (found d) c.in_ok-set.ensures.ok
    ∙ ap (λ (s : ScopesData). with_value_at s c.args.at c.args.key.now c.args.value) c.self.view_is
