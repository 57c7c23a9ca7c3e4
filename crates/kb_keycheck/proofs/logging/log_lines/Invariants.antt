use Rattle.std.specs.Prelude.{◌+◌, length}
use Rattle.std.specs.Option.{option_map_or}
use Rattle.kb_keycheck.specs.declared.logging.Rest.{Rest}
use Rattle.kb_keycheck.proofs.logging.log_lines.Given as goal

abbrev pub decreases-loop-left : goal.decreases-loop-left
decreases-loop-left g l = option_map_or (λ (rest : Rest). length rest.bytes.now + 1) l.left 0
