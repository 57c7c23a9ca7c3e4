use Rattle.std.proofs.Common.{◌≡◌, is_some}
use Rattle.serde_json.specs.View.{members_view}
use Rattle.kb_jsonc.specs.Parts.{each, pairs_of}
use Rattle.kb_layout.specs.Layout.{key_of}
use Rattle.kb_layout.proofs.shape.wrong_key.Given as goal

-- those that are left decide
abbrev pub invariant-loop-name : goal.invariant-loop-name
invariant-loop-name l =
    is_some (each key_of (pairs_of (members_view l.name-iterator)))
    ≡ is_some (each key_of (pairs_of (members_view l.members.entries)))
