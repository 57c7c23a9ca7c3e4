use Rattle.std.proofs.Common.{◌-◌}
use Rattle.kb_golden_code.proofs.verifier.+add_path.Given as goal

abbrev pub decreases-add_path : goal.decreases-add_path
decreases-add_path l = 8 - l.nested
