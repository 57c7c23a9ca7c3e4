use Rattle.std.proofs.Common.{◌≡◌, ◌+◌, ◌∷◌, ◌++◌, [], take, string_bytes, arith}
use Rattle.std.proofs.lemmas.Grind.{common_steps}
use Rattle.kb_keys.specs.Keystroke.{spelling}
use Rattle.kb_keys.proofs.ChordReadsBack.{Writes-push}
use Rattle.kb_keys.proofs.chord.write_more.Goals as goal

pub loop-stroke-preserved : goal.loop-stroke-preserved
loop-stroke-preserved c =
    let e : string_bytes c.write_to.new.line
    ≡ string_bytes c.loop-stroke.line ++ (32 ∷ spelling c.stroke-item.result) =
    grind (arith, common_steps) in
    let t : take (c.loop-stroke.stroke-index + 1) c.args.more.now
    ≡ take c.loop-stroke.stroke-index c.args.more.now ++ c.stroke-item.result ∷ [] =
    grind (arith, common_steps) in
    rw t (Writes-push _ _ _ _ _ c.loop-stroke.invariant e c.write_to.ensures.known)
