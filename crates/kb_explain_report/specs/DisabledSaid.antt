-- What is said of a rule whose extension isn't enabled.
use Rattle.std.specs.Prelude.{◌≡◌, ◌++◌, ℕ, List, Some, codes}
use Rattle.std.specs.Borrow.{Bor}
use Rattle.serde_json.specs.Data.{Data, string}
use Rattle.serde_json.specs.Find.{get}
use Rattle.kb_bindings.specs.Sources.{source_of}
use Rattle.kb_rules.specs.declared.rule.Rule.{Rule}
use Rattle.kb_explain_report.specs.RemovedSaid.{place_in}
use Rattle.kb_explain_report.specs.RulesSaid.{IsRuleJson, IsRuleText}
use Rattle.kb_report.specs.Output.{IsJson}
use Rattle.kb_report.specs.declared.output.Form.{Form}
use Rattle.kb_report.specs.declared.output.Form.TheVariants as form
use Rattle.kb_explain_report.specs.declared.rule_said.Named.{Named}

-- a rule with its place, in words
abbrev pub IsDisabledText : Named → Rule → List ℕ → Type 0
IsDisabledText named rule said = (words : List ℕ) × IsRuleText rule words
    × (said ≡ place_in named rule.origin rule.place ++ (codes ": "
    ++ (source_of named.bindings.now rule.origin ++ (codes ": "
    ++ (words ++ codes ": its extension isn't enabled")))))

-- the same as JSON
abbrev pub IsDisabledJson : Rule → Data → Type 0
IsDisabledJson rule d = (said : Data) × IsRuleJson rule said × (get (codes "rule") d ≡ Some said)
    × (get (codes "verdict") d ≡ Some (string (codes "disabled")))

-- a line says that the extension of a rule isn't enabled
abbrev pub SaysDisabled : Form → Named → Rule → List ℕ → Type 0
SaysDisabled form.Text named rule said = IsDisabledText named rule said
SaysDisabled form.Json named rule said = (d : Data) × IsDisabledJson rule d × IsJson d said

-- the same of a rule that is lent
abbrev pub SaysIdle : Form → Named → Bor Rule → List ℕ → Type 0
SaysIdle f named rule = SaysDisabled f named rule.now
