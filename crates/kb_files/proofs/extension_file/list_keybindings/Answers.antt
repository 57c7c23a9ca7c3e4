use Rattle.std.proofs.Common.{◌≡◌, sym, subst, map, Some, List, IfOk}
use Rattle.serde_json.specs.Data.{Data}
use Rattle.serde_json.specs.View.{view}
use Rattle.kb_rules.specs.RuleList.{Listed, listed}
use Rattle.kb_base.specs.declared.note.Origin.TheVariants.{Extension}
use Rattle.kb_files.proofs.Elements.{elements_view}
use Rattle.kb_files.proofs.extension_file.list_keybindings.Goals as goal

pub returns-clause-read : goal.returns-clause-read
returns-clause-read c =
    subst (λ (ds : List Data). IfOk c.read_list.result (λ (list : Listed).
    list ≡ listed list.unread (Extension c.args.number) (Some c.args.platform) ds))
    (sym (elements_view (map view c.args.entries.items))) c.read_list.ensures.read
