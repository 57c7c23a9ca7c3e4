use Rattle.std.proofs.Common.{◌+◌, ◌*◌, length, map}
use Rattle.kb_when.specs.Tree.{clause_of}
use Rattle.kb_when.proofs.DescentLemmas.{AllSoFar, AnySoFar}
use Rattle.kb_when.proofs.parser.+descent.Given as goal

abbrev pub decreases-operand : goal.decreases-operand
decreases-operand l = 4 * length l.tokens.now + 1

abbrev pub decreases-negated : goal.decreases-negated
decreases-negated l = 4 * length l.rest.now + 4

abbrev pub decreases-enclosed : goal.decreases-enclosed
decreases-enclosed l = 4 * length l.rest.now + 4

abbrev pub decreases-conjunction : goal.decreases-conjunction
decreases-conjunction l = 4 * length l.tokens.now + 2

abbrev pub decreases-disjunction : goal.decreases-disjunction
decreases-disjunction l = 4 * length l.tokens.now + 3

abbrev pub invariant-conjunction-loop-trees : goal.invariant-conjunction-loop-trees
invariant-conjunction-loop-trees l = AllSoFar l.depth l.tokens (map clause_of l.trees.items) l.rest

abbrev pub decreases-conjunction-loop-trees : goal.decreases-conjunction-loop-trees
decreases-conjunction-loop-trees l = length l.rest

abbrev pub invariant-disjunction-loop-trees : goal.invariant-disjunction-loop-trees
invariant-disjunction-loop-trees l = AnySoFar l.depth l.tokens (map clause_of l.trees.items) l.rest

abbrev pub decreases-disjunction-loop-trees : goal.decreases-disjunction-loop-trees
decreases-disjunction-loop-trees l = length l.rest
