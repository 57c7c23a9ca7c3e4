-- How problems are written.
use Rattle.std.specs.Prelude.{ℕ, List, [], ◌∷◌, Option, codes, find, bytes_eq}
use Rattle.kb_report.specs.declared.output.Form.{Form}
use Rattle.kb_report.specs.declared.output.Form.TheVariants as form
use Rattle.kb_check_report.specs.declared.format.Format.{Format}
use Rattle.kb_check_report.specs.declared.format.Format.TheVariants.{Diff, Github, Json, Sarif, Text}

abbrev pub format_name : Format → List ℕ
format_name Text = codes "text"
format_name Json = codes "json"
format_name Github = codes "github"
format_name Sarif = codes "sarif"
format_name Diff = codes "diff"

abbrev pub format_named : List ℕ → Option Format
format_named name = find (λ f. bytes_eq name (format_name f)) (Text ∷ Json ∷ Github ∷ Sarif ∷ Diff ∷ [])

-- the format of reports that are written in a form
abbrev pub format_of : Form → Format
format_of form.Text = Text
format_of form.Json = Json
