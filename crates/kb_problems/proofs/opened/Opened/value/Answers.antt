use Rattle.std.proofs.Common.{◌≡◌, ◌∙◌, ap, map}
use Rattle.std.specs.Prelude.{option_map}
use Rattle.serde_json.specs.View.{view}
use Rattle.kb_places.specs.Place.{at_path, step_data}
use Rattle.kb_problems.specs.Placed.{list_in, steps_in}
use Rattle.kb_problems.proofs.PlacedLemmas.{entry_read}
use Rattle.kb_problems.proofs.opened.Opened.value.Goals as goal

pub returns : goal.returns
returns c =
    let names = list_in c.args.self.now.file c.args.part in
    let steps = ap (map step_data) c.as_slice.ensures.value ∙ c.in_ok-path.ensures in
    let found = c.value_at.ensures ∙ ap (λ v. at_path c.as_slice.result.now (view v)) c.value.ensures in
    entry_read names (view c.args.self.now.source.value) c.args.place c.as_slice.result.now c.value_at.result steps found
