use Rattle.std.proofs.Common.{◌≡◌, ◌++◌, drop}
use Rattle.kb_exchange.specs.Renewal.{exchanges_of}
use Rattle.kb_exchange.proofs.renewal.exchanges_of.Given as goal

-- the exchanges so far, and those of the parts that are left, are all
abbrev pub invariant-loop-part : goal.invariant-loop-part
invariant-loop-part g l =
    l.made.items ++ exchanges_of (g.R.Renewal.renewed l.renewal) l.text (drop l.part-index l.parts)
    ≡ exchanges_of (g.R.Renewal.renewed l.renewal) l.text l.parts
