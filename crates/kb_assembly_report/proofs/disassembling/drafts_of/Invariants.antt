use Rattle.std.proofs.Common.{◌≡◌, map, take}
use Rattle.kb_assembly.specs.Draft.{handler_draft}
use Rattle.kb_assembly_report.proofs.disassembling.drafts_of.Given as goal

abbrev pub invariant-loop-handler : goal.invariant-loop-handler
invariant-loop-handler l = l.drafts ≡ map handler_draft (take l.handler-index l.handlers)
