use Rattle.std.proofs.Common.{option_map, ◌∙◌}
use Rattle.std.proofs.lemmas.List.{map-id}
use Rattle.serde_json.specs.View.{view}
use Rattle.kb_core.proofs.ReadFits.{fits_read}
use Rattle.kb_core.proofs.signature.Signature.read_args.Goals as goal

pub returns-clause-fits : goal.returns-clause-fits
returns-clause-fits c =
    fits_read c.arguments_for.result c.args.self.now.params _ (option_map (λ v. view v.now) c.args.value)
    (map-id c.params.result.now ∙ c.params.ensures.params) c.arguments_for.ensures
