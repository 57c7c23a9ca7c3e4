use Rattle.std.proofs.Common.{◌≡◌, drop}
use Rattle.kb_extension_code.specs.Callable.{with_natives}
use Rattle.kb_extension_code.proofs.callable.add_all_live.Given as goal

-- those that are left give what all give
abbrev pub invariant-loop-native : goal.invariant-loop-native
invariant-loop-native g l =
    with_natives (drop l.native-index l.natives) l.registry l.live.items
    ≡ with_natives l.natives l.registry l.fn.live.items
