-- What is said of a rule that a removal took: the rule, and where the removal stands.
use Rattle.std.specs.Prelude.{◌≡◌, ◌++◌, List, ℕ, Option, None, Some, codes, decimal}
use Rattle.serde_json.specs.Data.{Data, number, string, unsigned}
use Rattle.serde_json.specs.Find.{get}
use Rattle.kb_base.specs.declared.note.Origin.{Origin}
use Rattle.kb_bindings.specs.Sources.{source_of}
use Rattle.kb_explain.specs.declared.removed.Removed.{Removed}
use Rattle.kb_places.specs.declared.position.Position.{Position}
use Rattle.kb_rules.specs.declared.removal.Removal.{Removal}
use Rattle.kb_rules.specs.declared.rule.Rule.{Rule}
use Rattle.kb_source_files.specs.SourceFiles.{file_of_origin}
use Rattle.kb_source_files.specs.declared.source_files.SourceFile.{SourceFile}
use Rattle.kb_explain_report.specs.RulePlaces.{position_in}
use Rattle.kb_explain_report.specs.RulesSaid.{IsRuleJson, IsRuleText}
use Rattle.kb_report.specs.Output.{IsJson}
use Rattle.kb_report.specs.declared.output.Form.{Form}
use Rattle.kb_report.specs.declared.output.Form.TheVariants as form
use Rattle.kb_explain_report.specs.declared.rule_said.Named.{Named}

-- the path of the file of an element; an element of a script's reload is in no file
abbrev pub path_words : Option SourceFile → List ℕ
path_words None = codes "reload"
path_words (Some file) = file.path.now

abbrev pub path_in : Named → Origin → List ℕ
path_in named origin = path_words (file_of_origin named.files.now origin)

-- a path with a line and a column, if they are known
abbrev pub place_words : List ℕ → Option Position → List ℕ
place_words path None = path
place_words path (Some position) =
    path ++ (codes ":" ++ (decimal position.line ++ (codes ":" ++ decimal position.column)))

-- where the element at a place of a list stands
abbrev pub place_in : Named → Origin → ℕ → List ℕ
place_in named origin place = place_words (path_in named origin) (position_in named.places.now origin place)

abbrev pub IsPositionJson : Option Position → Data → Type 0
IsPositionJson None d = Unit {0}
IsPositionJson (Some position) d = (get (codes "line") d ≡ Some (number (unsigned position.line)))
    × (get (codes "column") d ≡ Some (number (unsigned position.column)))

abbrev pub IsPlaceJson : Named → Origin → ℕ → Data → Type 0
IsPlaceJson named origin place d =
    (get (codes "source") d ≡ Some (string (source_of named.bindings.now origin)))
    × (get (codes "path") d ≡ Some (string (path_in named origin)))
    × IsPositionJson (position_in named.places.now origin place) d

-- a rule with its place, and the place of the removal that took it, in words
abbrev pub IsRemovedText : Named → Rule → Removal → List ℕ → Type 0
IsRemovedText named rule by said = (words : List ℕ) × IsRuleText rule words
    × (said ≡ place_in named rule.origin rule.place ++ (codes ": "
    ++ (source_of named.bindings.now rule.origin ++ (codes ": "
    ++ (words ++ (codes ": is removed, by " ++ place_in named by.origin by.place))))))

-- the same as JSON
abbrev pub IsRemovedJson : Named → Rule → Removal → Data → Type 0
IsRemovedJson named rule by d = (said : Data) × IsRuleJson rule said × (get (codes "rule") d ≡ Some said)
    × (get (codes "verdict") d ≡ Some (string (codes "removed")))
    × ((taker : Data) × IsPlaceJson named by.origin by.place taker × (get (codes "by") d ≡ Some taker))

-- a line says that a removal took a rule
abbrev pub SaysRemoved : Form → Named → Rule × Removal → List ℕ → Type 0
SaysRemoved form.Text named (rule, by) said = IsRemovedText named rule by said
SaysRemoved form.Json named (rule, by) said =
    (d : Data) × IsRemovedJson named rule by d × IsJson d said

abbrev pub SaysOne : Form → Named → Removed → List ℕ → Type 0
SaysOne f named removed = SaysRemoved f named (removed.rule.now, removed.by.now)
