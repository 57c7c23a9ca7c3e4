use Rattle.std.proofs.Common.{sym}
use Rattle.kb_keys.proofs.KeystrokeLemmas.{Reads-step, Reads-stop_mods, Reads-stop_rest}
use Rattle.kb_keys.proofs.keystroke.split_modifiers.Goals as goal

pub loop-modifier-preserved : goal.loop-modifier-preserved
loop-modifier-preserved c =
    rw c.with-mods.ensures
    (Reads-step _ _ _ _ _ c.loop-modifier.invariant (sym c.in-Some.ensures.first) c.in-Some.ensures.text)

pub returns-clause-mods : goal.returns-clause-mods
returns-clause-mods c = Reads-stop_mods _ _ _ c.loop-modifier.invariant (sym c.in_default.ensures.first)

pub returns-clause-rest : goal.returns-clause-rest
returns-clause-rest c = Reads-stop_rest _ _ _ c.loop-modifier.invariant (sym c.in_default.ensures.first)
