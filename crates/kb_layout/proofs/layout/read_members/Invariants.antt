use Rattle.std.proofs.Common.{◌≡◌, option_map}
use Rattle.serde_json.specs.Data.{object}
use Rattle.serde_json.specs.View.{members_view}
use Rattle.kb_layout.specs.Layout.{key_of, keys_of}
use Rattle.kb_jsonc.specs.Parts.{each, pairs_of}
use Rattle.kb_layout.proofs.KeysLemmas.{inserted}
use Rattle.kb_layout.proofs.layout.read_members.Given as goal

-- the keys so far, with those that are left put in
abbrev pub invariant-loop-name : goal.invariant-loop-name
invariant-loop-name l =
    option_map (inserted l.keys) (each key_of (pairs_of (members_view l.name-iterator)))
    ≡ keys_of (object (members_view l.fn.members.entries))
