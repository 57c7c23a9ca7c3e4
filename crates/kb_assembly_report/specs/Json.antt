-- The text of a `handlers.json` for people and programs: one handler a block, one member a line.
use Rattle.std.specs.Prelude.{ℕ, Bool, true, false, if◌then◌else◌, List, [], ◌∷◌, ◌++◌, codes, decimal}
use Rattle.std.specs.Prelude.{flat_map}
use Rattle.std.specs.List.{list_any}
use Rattle.hex.specs.Hex.{encode_lower}
use Rattle.serde_json.specs.Data.{string}
use Rattle.serde_json.specs.Written.{compact_text}
use Rattle.kb_assembly.specs.Head.{kind_name}
use Rattle.kb_code.specs.Coding.{bytes_of}
use Rattle.kb_code.specs.declared.instr.Instr.{Instr}
use Rattle.kb_code.specs.declared.instr.Instr.TheVariants.{Repeat, End}
use Rattle.kb_core.specs.declared.parameter.Param.{Param}
use Rattle.kb_assembly_report.specs.declared.entry.Entry.{Entry}

abbrev pub json_string : List ℕ → List ℕ
json_string text = compact_text (string text)

-- a comma before further ones
abbrev pub comma : {A : Type 0} → List A → List ℕ
comma [] = []
comma (x ∷ xs) = codes ", "

-- the texts of things, with a comma between two
abbrev pub joined : {A : Type 0} → (A → List ℕ) → List A → List ℕ
joined text [] = []
joined text (x ∷ xs) = text x ++ (comma xs ++ joined text xs)

unfoldable pub param_json : Param → List ℕ
param_json param = codes "{ \"name\": " ++ (json_string param.name ++ (codes ", \"kind\": "
    ++ (json_string (kind_name param.kind) ++ codes " }")))

-- a member with its value and what stands behind it
abbrev pub member : List ℕ → List ℕ → List ℕ
member name value = codes "            \"" ++ (name ++ (codes "\": " ++ value))

-- a member with a list, which is left out if it is empty
unfoldable pub list_member : {A : Type 0} → List ℕ → (A → List ℕ) → List A → List ℕ
list_member name text [] = []
list_member name text (x ∷ xs) = member name (codes "[" ++ (joined text (x ∷ xs) ++ codes "],\n"))

unfoldable pub command_member : List ℕ → List ℕ
command_member command = member (codes "command") (json_string command ++ codes ",\n")

unfoldable pub number_member : List ℕ → ℕ → List ℕ
number_member name number = member name (decimal number ++ codes ",\n")

unfoldable pub code_member : List Instr → List ℕ
code_member code =
    member (codes "code") (codes "\"" ++ (encode_lower (flat_map bytes_of code) ++ codes "\",\n"))

unfoldable pub lines_member : List ℕ → List ℕ
lines_member lines = member (codes "lines") (codes "[" ++ (joined decimal lines ++ codes "]\n"))

-- what a handler declares: its budget and its depth stand beside what the text has of it
unfoldable pub declared_json : Entry → List ℕ
declared_json e = command_member e.draft.now.command
    ++ (list_member (codes "params") param_json e.draft.now.params
    ++ (number_member (codes "budget") e.budget ++ number_member (codes "depth") e.depth))

-- its tables, its code and the lines of its instructions
unfoldable pub written_json : Entry → List ℕ
written_json e = list_member (codes "texts") json_string e.draft.now.texts
    ++ (list_member (codes "calls") json_string e.draft.now.calls
    ++ (code_member e.draft.now.code ++ lines_member e.lines))

unfoldable pub handler_json : Entry → List ℕ
handler_json e = codes "        {\n" ++ (declared_json e ++ (written_json e ++ codes "        }"))

-- the end of a line before further handlers
abbrev pub gap : List Entry → List ℕ
gap [] = []
gap (e ∷ es) = codes ",\n"

abbrev pub handlers_json : List Entry → List ℕ
handlers_json [] = []
handlers_json (e ∷ es) = handler_json e ++ (gap es ++ handlers_json es)

-- only code of version 2 has blocks
abbrev pub is_of_block : Instr → Bool
is_of_block (Repeat n) = true
is_of_block End = true
is_of_block _ = false

abbrev pub has_blocks : Entry → Bool
has_blocks e = list_any is_of_block e.draft.now.code

abbrev pub version_of : List Entry → ℕ
version_of es = if list_any has_blocks es then 2 else 1

-- what stands before and behind the handlers
abbrev pub opening : List Entry → List ℕ
opening [] = []
opening (e ∷ es) = codes "\n"

abbrev pub closing : List Entry → List ℕ
closing [] = []
closing (e ∷ es) = codes "\n    "

unfoldable pub head_json : List Entry → List ℕ
head_json es = codes "{\n    \"version\": " ++ (decimal (version_of es) ++ codes ",\n    \"handlers\": [")

unfoldable pub list_json : List Entry → List ℕ
list_json es = opening es ++ (handlers_json es ++ (closing es ++ codes "]\n}\n"))

abbrev pub file_json : List Entry → List ℕ
file_json es = head_json es ++ list_json es
