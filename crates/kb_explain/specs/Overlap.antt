-- Whether two clauses can hold at once.
use Rattle.std.specs.Prelude.{◌≡◌, true, false, Bool, List, [], ◌∷◌, Option}
use Rattle.kb_context.specs.Scopes.{Keys}
use Rattle.kb_explain.specs.Cause.{agrees}
use Rattle.kb_explain.specs.declared.cause.Literal.{Literal}
use Rattle.kb_when.specs.Leaf.{marked_of_leaf}
use Rattle.kb_when.specs.Marked.{Marked, marked_value}
use Rattle.kb_when.specs.Marks.{MarkedClause, when_holds}
use Rattle.kb_when.specs.declared.leaf.Leaf.{Leaf}
use Rattle.kb_when.specs.declared.leaf.Leaf.TheVariants.{Key, Equals, Compare, Matches, Member}

-- in no context both hold
abbrev pub NeverTogether : Option MarkedClause → Option MarkedClause → Type 0
NeverTogether one other = (keys : Keys) → when_holds keys one ≡ true → when_holds keys other ≡ true → ⊥

-- ---- for private functions

abbrev pub is_match : Leaf → Bool
is_match (Key k) = false
is_match (Equals k v) = false
is_match (Compare k o n) = false
is_match (Matches k p) = true
is_match (Member k other) = false

abbrev pub literal_holds : Keys → Literal → Bool
literal_holds keys l = agrees l.wanted (marked_value keys (marked_of_leaf l.atom.now))

-- the literal holds wherever the clause does
abbrev pub IsNeeded : Option MarkedClause → Literal → Type 0
IsNeeded clause l = (keys : Keys) → when_holds keys clause ≡ true → literal_holds keys l ≡ true

-- the literal doesn't hold where the clause does
abbrev pub Excludes : Literal → Option MarkedClause → Type 0
Excludes l clause = (keys : Keys) → literal_holds keys l ≡ true → when_holds keys clause ≡ true → ⊥

-- the tree has the wanted value wherever the clause holds
abbrev pub FollowsFrom : Option MarkedClause → Bool → Marked → Type 0
FollowsFrom clause wanted m =
    (keys : Keys) → when_holds keys clause ≡ true → agrees wanted (marked_value keys m) ≡ true

-- so have all of these
abbrev pub AllFollow : Option MarkedClause → Bool → List Marked → Type 0
AllFollow clause wanted [] = Unit {0}
AllFollow clause wanted (m ∷ ms) = FollowsFrom clause wanted m × AllFollow clause wanted ms
