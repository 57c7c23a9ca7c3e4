use Rattle.std.proofs.Common.{get_or, arith}
use Rattle.std.proofs.lemmas.List.{get_or_default}
use Rattle.std.proofs.lemmas.List.Edits.{map_over_more}
use Rattle.kb_jsonc.specs.Bytes.{blanked}
use Rattle.kb_jsonc.proofs.bytes.blank.Goals as goal

pub loop-byte-preserved : goal.loop-byte-preserved
loop-byte-preserved c =
    let ys = c.loop-byte.bytes in
    let b = get_or ys c.loop-byte.byte-index 0 in
    rw c.blanked.ensures
    (map_over_more blanked c.args.bytes.now ys c.loop-byte.byte-index b c.loop-byte-test.true
    c.loop-byte.invariant (get_or_default ys c.loop-byte.byte-index 0 b (omega arith)))
