use Rattle.std.proofs.Common.{◌≡◌, drop}
use Rattle.kb_verify.specs.Provider.{with_natives}
use Rattle.kb_verify.proofs.provider.add_natives.Given as goal

-- those that are left give what all give
abbrev pub invariant-loop-native : goal.invariant-loop-native
invariant-loop-native l =
    with_natives (drop l.native-index l.natives) l.callable ≡ with_natives l.natives l.fn.callable
