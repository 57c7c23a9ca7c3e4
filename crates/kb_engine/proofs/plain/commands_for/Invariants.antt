use Rattle.std.proofs.Common.{◌≡◌, map, take}
use Rattle.kb_engine.proofs.plain.commands_for.Given as goal

abbrev pub invariant-loop-native : goal.invariant-loop-native
invariant-loop-native l = map (λ c. c.native) l.made.items ≡ take l.native-index l.natives
