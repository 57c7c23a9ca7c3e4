use Rattle.std.proofs.Common.{◌≡◌, map, take}
use Rattle.kb_verify.specs.Provider.{provided}
use Rattle.kb_extension_code.specs.Callable.{provided_by}
use Rattle.kb_extension_code.proofs.callable.providers.Given as goal

abbrev pub invariant-loop-extension : goal.invariant-loop-extension
invariant-loop-extension g l =
    map provided l.providers.items ≡ map (provided_by l.registry) (take l.extension-index l.extensions)
