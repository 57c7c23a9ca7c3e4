use Rattle.std.proofs.Common.{◌≡◌, ◌++◌, map, take}
use Rattle.kb_assembly.specs.Write.{text_line}
use Rattle.kb_assembly.proofs.write.push_texts.Given as goal

abbrev pub invariant-loop-text : goal.invariant-loop-text
invariant-loop-text l = l.lines ≡ l.fn.lines ++ map text_line (take l.text-index l.texts)
