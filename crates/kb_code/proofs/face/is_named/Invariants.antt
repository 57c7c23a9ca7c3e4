use Rattle.std.proofs.Common.{◌≡◌, drop}
use Rattle.kb_code.specs.Handler.{handler_named}
use Rattle.kb_code.proofs.face.is_named.Given as goal

abbrev pub invariant-loop-handler : goal.invariant-loop-handler
invariant-loop-handler l = handler_named l.name (drop l.handler-index l.handlers) ≡ handler_named l.name l.handlers
