use Rattle.std.proofs.Common.{◌≡◌, ◌++◌, length, take}
use Rattle.kb_stream.proofs.lines.Lines.append.Given as goal

abbrev pub invariant-loop-place : goal.invariant-loop-place
invariant-loop-place l =
    (l.self ≡ l.fn.self ++ take l.place l.more) × (l.mark ≡ length l.fn.self)
