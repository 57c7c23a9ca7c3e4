use Rattle.std.specs.Bool.{one_answer}
use Rattle.kb_when.proofs.SameLemmas.{same-Decides}
use Rattle.kb_rules.proofs.removal.fits_clause.Goals as goal

pub returns-in-Some-Some : goal.returns-in-Some-Some
returns-in-Some-Some c =
    rw (c.in-Some-Some.is-0, c.in-Some-Some.is-1)
    (one_answer c.same_tree.result _ c.same_tree.ensures (same-Decides _ _))
