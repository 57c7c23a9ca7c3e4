use Rattle.std.proofs.Common.{sym, subst}
use Rattle.std.specs.Prelude.{All, option_copied}
use Rattle.std.proofs.lemmas.List.Elements.{All-nil}
use Rattle.kb_explain.specs.Overlap.{IsNeeded}
use Rattle.kb_explain.proofs.overlap.literals_of.Goals as goal

pub returns-in-None : goal.returns-in-None
returns-in-None c =
    subst (All (IsNeeded (option_copied c.args.clause))) (sym c.new.ensures.items)
    (All-nil (IsNeeded (option_copied c.args.clause)))
