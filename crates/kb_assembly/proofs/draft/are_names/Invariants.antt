use Rattle.std.proofs.Common.{◌≡◌, true, take}
use Rattle.kb_assembly.specs.Draft.{names_of}
use Rattle.kb_assembly.specs.Text.{are_utf8}
use Rattle.kb_assembly.proofs.draft.are_names.Given as goal

abbrev pub invariant-loop-param : goal.invariant-loop-param
invariant-loop-param l = are_utf8 (names_of (take l.param-index l.params)) ≡ true
