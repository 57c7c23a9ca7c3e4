use Rattle.std.proofs.Common.{◌≡◌, length}
use Rattle.kb_problems.specs.Opened.{ArePackages}
use Rattle.kb_problems.proofs.opened.open_packages.Given as goal

abbrev pub invariant-loop-number : goal.invariant-loop-number
invariant-loop-number l = record {
  opened : ArePackages l.extensions l.packages.items;
  count : length l.packages.items ≡ l.number;
}
