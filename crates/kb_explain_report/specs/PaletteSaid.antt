-- What is said of commands of the palette.
use Rattle.std.specs.Prelude.{◌≡◌, ◌++◌, ℕ, List, Some, codes}
use Rattle.serde_json.specs.Data.{Data, string}
use Rattle.serde_json.specs.Find.{get}
use Rattle.kb_bindings.specs.Sources.{Sources}
use Rattle.kb_context.specs.Scopes.{Keys}
use Rattle.kb_explain.specs.Palette.{IsWhyUnlisted}
use Rattle.kb_explain.specs.declared.palette.Unlisted.{Unlisted}
use Rattle.kb_explain.specs.declared.palette.Unlisted.TheVariants as why
use Rattle.kb_palette.specs.Command.{CommandData}
use Rattle.kb_report.specs.Output.{IsJson}
use Rattle.kb_report.specs.declared.output.Form.{Form}
use Rattle.kb_report.specs.declared.output.Form.TheVariants as form

-- whether the palette lists a command, or why not, in words
abbrev pub IsWhyText : Unlisted → List ℕ → Type 0
IsWhyText why.Listed words = words ≡ codes "is listed"
IsWhyText why.NotContributed words = words ≡ codes "isn't listed: no extension contributes it"
IsWhyText (why.ExtensionDisabled id) words =
    words ≡ codes "isn't listed: the extension " ++ (id.now ++ codes " isn't enabled")
IsWhyText (why.NoItemHolds cause) words = (rest : List ℕ)
    × (words ≡ codes "isn't listed: no item of the palette that names it holds: " ++ rest)
IsWhyText (why.IsDisabled cause) words = (rest : List ℕ)
    × (words ≡ codes "isn't listed: its enablement fails: " ++ rest)
IsWhyText (why.NoWord label) words =
    words ≡ codes "isn't listed: a word of the query begins no word of " ++ label.now

-- the same in a word
abbrev pub why_word : Unlisted → List ℕ
why_word why.Listed = codes "listed"
why_word why.NotContributed = codes "not contributed"
why_word (why.ExtensionDisabled id) = codes "extension disabled"
why_word (why.NoItemHolds cause) = codes "hidden"
why_word (why.IsDisabled cause) = codes "disabled"
why_word (why.NoWord label) = codes "not found"

abbrev pub IsWhyJson : List ℕ → Unlisted → Data → Type 0
IsWhyJson name unlisted d = (get (codes "command") d ≡ Some (string name))
    × (get (codes "palette") d ≡ Some (string (why_word unlisted)))

abbrev pub SaysWhy : Form → List ℕ → Unlisted → List ℕ → Type 0
SaysWhy form.Text name unlisted said = (words : List ℕ)
    × IsWhyText unlisted words × (said ≡ name ++ (codes ": " ++ words))
SaysWhy form.Json name unlisted said = (d : Data) × IsWhyJson name unlisted d × IsJson d said

-- a line says of a command whether the palette lists it for a query, or why not, and that is so
abbrev pub SaysCommand : Form → Keys → List ℕ → Sources → List ℕ → List ℕ → Type 0
SaysCommand f keys query sources name said = (unlisted : Unlisted)
    × IsWhyUnlisted keys query name sources.extensions unlisted × SaysWhy f name unlisted said

-- the same of a command of the palette
abbrev pub SaysListing : Form → Keys → List ℕ → Sources → CommandData → List ℕ → Type 0
SaysListing f keys query sources c = SaysCommand f keys query sources c.command
