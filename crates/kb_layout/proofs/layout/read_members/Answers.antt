use Rattle.std.proofs.Common.{option_map, ap, ◌∙◌}
use Rattle.std.specs.FinMap.{empty}
use Rattle.serde_json.specs.View.{members_view}
use Rattle.kb_layout.specs.Layout.{key_of}
use Rattle.kb_jsonc.specs.Parts.{each, pairs_of}
use Rattle.kb_layout.proofs.KeysLemmas.{inserted, keys_in_order}
use Rattle.kb_layout.proofs.layout.read_members.Goals as goal

pub loop-name-init : goal.loop-name-init
loop-name-init c =
    let all = c.into_iter-name-iterator.ensures.into_iter_gives in
    ap (λ keys. option_map (inserted keys)
    (each key_of (pairs_of (members_view c.into_iter-name-iterator.result)))) c.new-keys.ensures
    ∙ ap (λ es. option_map (inserted empty) (each key_of (pairs_of (members_view es)))) all.0
    ∙ keys_in_order c.args.members.entries all.5
