use Rattle.std.proofs.Common.{length}
use Rattle.kb_keys.proofs.KeystrokeLemmas.{Reads}
use Rattle.kb_keys.proofs.keystroke.split_modifiers.Given as goal

abbrev pub invariant-loop-modifier : goal.invariant-loop-modifier
invariant-loop-modifier l = Reads l.fn.text l.mods l.rest

abbrev pub decreases-loop-modifier : goal.decreases-loop-modifier
decreases-loop-modifier l = length l.rest
