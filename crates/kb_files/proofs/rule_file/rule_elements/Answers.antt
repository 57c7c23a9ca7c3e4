use Rattle.std.proofs.Common.{sym, ap, ◌∙◌, map, Some, List, Option}
use Rattle.serde_json.specs.Data.{Data}
use Rattle.serde_json.specs.View.{view}
use Rattle.kb_base.specs.Reading.{or_fault}
use Rattle.kb_base.specs.Refusal.{refusing}
use Rattle.kb_jsonc.specs.declared.file_fault.FileFault.TheVariants.{WrongShape}
use Rattle.kb_jsonc.specs.FileFault.{kind_of}
use Rattle.kb_files.proofs.Elements.{elements_view}
use Rattle.kb_files.proofs.rule_file.rule_elements.Goals as goal

pub returns-in-Some : goal.returns-in-Some
returns-in-Some c =
    ap (λ (found : Option (List Data)). refusing kind_of (or_fault WrongShape found))
    (ap Some (sym (elements_view (map view c.in-Some.elements.items))) ∙ c.in-Some.ensures)
