use Rattle.std.proofs.Common.{option_map, ap, ◌∙◌}
use Rattle.serde_json.specs.Find.{get_member}
use Rattle.serde_json.specs.View.{view, members_view}
use Rattle.serde_json.proofs.Views.{view-lookup}
use Rattle.kb_jsonc.proofs.PartsLemmas.{others_stay, rest_left}
use Rattle.kb_jsonc.proofs.parts.take_member.Goals as goal

pub returns-clause-member : goal.returns-clause-member
returns-clause-member c =
    ap (option_map view) c.remove.ensures.value ∙ view-lookup c.args.name.now c.args.members.now.entries

pub returns-clause-others : goal.returns-clause-others
returns-clause-others c = λ other differ.
    ap (λ es. get_member other (members_view es)) c.remove.ensures.entries
    ∙ others_stay c.args.name.now other c.args.members.now.entries differ

pub returns-clause-rest : goal.returns-clause-rest
returns-clause-rest c =
    ap members_view c.remove.ensures.entries ∙ rest_left c.args.name.now c.args.members.now.entries
