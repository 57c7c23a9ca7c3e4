use Rattle.std.proofs.Common.{◌≡◌, ◌++◌, map, drop}
use Rattle.kb_check.proofs.loading.plain_natives.Given as goal

-- those so far, and then those that are left
abbrev pub invariant-loop-native : goal.invariant-loop-native
invariant-loop-native l = map (λ c. c.native) l.made.items ++ drop l.native-index l.list ≡ l.fn.list
