-- The result of a key press, with the rule itself instead of a reference.
use Rattle.kb_rules.specs.declared.rule.Rule.{Rule}
use Rattle.kb_resolve.specs.declared.pressed.Pressed.{Pressed}
use Rattle.kb_resolve.specs.declared.pressed.Pressed.TheVariants.{Start, More, Left, Unbound}

pub data Step : Type 0 where
  start : Rule → Step
  more : Step
  left : Step
  unbound : Step

abbrev pub step_of : Pressed → Step
step_of (Start rule) = start rule.now
step_of More = more
step_of Left = left
step_of Unbound = unbound
