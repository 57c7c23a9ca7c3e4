use Rattle.std.proofs.Common.{◌∙◌}
use Rattle.kb_registry.specs.Among.{there_by}
use Rattle.kb_registry.proofs.MissingLemmas.{no_callees}
use Rattle.kb_registry.proofs.registry.Registry.missing_from.Goals as goal

pub returns-in-None : goal.returns-in-None
returns-in-None g c =
    no_callees (there_by c.args.among.now c.args.self.now) c.args.handlers.now c.args.callees.now
    c.loop-place.place c.in-None.ensures.lookup.3 ∙ c.loop-place.invariant
