-- The effect of a key press: a rule's command is started, or nothing is.
use Rattle.std.specs.Prelude.{ℕ, List, [], ◌∷◌, ◌++◌, Option, codes}
use Rattle.serde_json.specs.Data.{Data}
use Rattle.kb_core.specs.Core.{Core}
use Rattle.kb_registry.specs.Live.{Live}
use Rattle.kb_resolve.specs.Pressed as press
use Rattle.kb_resolve.specs.Pressed.{Step}
use Rattle.kb_execute.specs.Start.{Started, started, behind, start_of}
use Rattle.kb_execute.specs.declared.start.Finish.TheVariants.{Done}
use Rattle.kb_trace.specs.Lines as line

-- the start of a rule's command; the empty command starts nothing
abbrev pub rule_started : List ℕ → List ℕ → Option Data → Live → Core → Started
rule_started text [] given live core = started core ((text ++ codes ": no action") ∷ []) Done
rule_started text (b ∷ bs) given live core =
    behind (line.start_line text (b ∷ bs) ∷ []) (start_of (b ∷ bs) given live core)

-- the effect of a key press, whose first line begins with `text`
abbrev pub press_started : List ℕ → Step → Live → Core → Started
press_started text (press.start rule) live core = rule_started text rule.command rule.args live core
press_started text press.more live core = started core ((text ++ codes ": chord") ∷ []) Done
press_started text press.left live core = started core ((text ++ codes ": left") ∷ []) Done
press_started text press.unbound live core = started core ((text ++ codes ": unbound") ∷ []) Done
