-- The result of looking up a live command.
use Rattle.kb_code.specs.declared.commands.Found.{Found}
use Rattle.kb_code.specs.declared.commands.Found.TheVariants as found
use Rattle.kb_code.specs.Commands.{Callee, Plain, Coded}

abbrev pub callee_of : Found → Callee
callee_of (found.Plain native) = Plain native
callee_of (found.Coded handler) = Coded handler
