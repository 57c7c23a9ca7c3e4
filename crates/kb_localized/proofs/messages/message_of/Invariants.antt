use Rattle.std.proofs.Common.{◌≡◌, drop, map}
use Rattle.serde_json.specs.View.{view}
use Rattle.kb_localized.specs.Messages.{message_of}
use Rattle.kb_localized.proofs.messages.message_of.Given as goal

-- the message in those that are left is that in all
abbrev pub invariant-loop-bundle : goal.invariant-loop-bundle
invariant-loop-bundle l =
    message_of l.key (map (λ b. view b.value) (drop l.bundle-index l.bundles))
    ≡ message_of l.key (map (λ b. view b.value) l.bundles)
