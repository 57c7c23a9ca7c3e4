use Rattle.std.proofs.Common.{◌≡◌, length, ◌-◌}
use Rattle.kb_jsonc.specs.Text.{plain_text}
use Rattle.kb_jsonc.specs.Scan.{StandsIn, outcome}
use Rattle.kb_jsonc.proofs.scan.make_plain.Given as goal

abbrev pub invariant-loop-scan : goal.invariant-loop-scan
invariant-loop-scan l = record {
  stands : StandsIn l.bytes l.scan;
  length : length l.bytes ≡ length l.initial.bytes;
  same : outcome l.bytes l.scan ≡ plain_text l.initial.bytes;
}

abbrev pub decreases-loop-scan : goal.decreases-loop-scan
decreases-loop-scan l = length l.initial.bytes - l.scan.at
