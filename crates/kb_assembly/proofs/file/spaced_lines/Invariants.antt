use Rattle.std.proofs.Common.{◌≡◌, true, take}
use Rattle.std.specs.List.{list_all}
use Rattle.kb_assembly.specs.Draft.{has_texts, has_limits}
use Rattle.kb_assembly.specs.File.{has_code}
use Rattle.kb_assembly.specs.Write.{spaced_lines}
use Rattle.kb_assembly.proofs.file.spaced_lines.Given as goal

abbrev pub invariant-loop-draft : goal.invariant-loop-draft
invariant-loop-draft l = record {
  told : l.lines ≡ spaced_lines (take l.draft-index l.drafts);
  texts : list_all has_texts (take l.draft-index l.drafts) ≡ true;
  limits : list_all has_limits (take l.draft-index l.drafts) ≡ true;
  code : list_all has_code (take l.draft-index l.drafts) ≡ true;
}
