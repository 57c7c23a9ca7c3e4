-- What a writer gets of what is said: lines, as sentences or as JSON. Its bytes are known (`Some`) for a
-- writer over memory, and unknown (`None`) for a file or a pipe.
use Rattle.std.specs.Prelude.{◌≡◌, ◌++◌, ◌∷◌, [], ℕ, List, Option, Some, All, codes, map}
use Rattle.std.specs.Io.KnownBytes.{Appends, Keeps}
use Rattle.serde_json.specs.Data.{Data, array, member, no_members, object, string}
use Rattle.serde_json.specs.Find.{get}
use Rattle.serde_json.specs.View.{items_of}
use Rattle.kb_explain.specs.Seen.{IsSeen}
use Rattle.kb_explain.specs.declared.seen.Seen.{Seen}
use Rattle.kb_context.specs.Scopes.{ScopesData}
use Rattle.kb_report.specs.Output.{IsJson, WritesLine}
use Rattle.kb_report.specs.declared.output.Form.{Form}
use Rattle.kb_report.specs.declared.output.Form.TheVariants as form

-- the writer got a line for each of these things, in their order
abbrev pub WritesEach : {A : Type 0} → (A → List ℕ → Type 0) → List A → Option (List ℕ) → Option (List ℕ)
    → Type 0
WritesEach Is [] old new = Keeps old new
WritesEach Is (one ∷ rest) old new =
    (between : Option (List ℕ)) × WritesLine (Is one) old between × WritesEach Is rest between new

-- the writer keeps what it has, and it may have got more
pub record WritesMore (old new : Option (List ℕ)) : Type 0 where
  pub more : List ℕ
  pub got : Appends old new more

-- ---- the trace

abbrev pub IsTraceLine : List ℕ → List ℕ → Type 0
IsTraceLine line said = said ≡ codes "trace: " ++ line

abbrev pub texts_json : List (List ℕ) → Data
texts_json texts = array (items_of (map string texts))

-- each line of the trace behind `trace: `, or all as one JSON object
abbrev pub SaysTrace : Form → List (List ℕ) → Option (List ℕ) → Option (List ℕ) → Type 0
SaysTrace form.Text lines old new = WritesEach IsTraceLine lines old new
SaysTrace form.Json lines old new =
    WritesLine (IsJson (object (member (codes "trace") (texts_json lines) no_members))) old new

-- ---- the context

-- a key, its value in some words, and its scope
abbrev pub IsSeenText : Seen → List ℕ → Type 0
IsSeenText seen said = (value : List ℕ)
    × (said ≡ seen.key.now ++ (codes ": " ++ (value ++ (codes " (" ++ (seen.scope.now ++ codes ")")))))

abbrev pub IsSeenJson : Seen → Data → Type 0
IsSeenJson seen d = (get (codes "key") d ≡ Some (string seen.key.now))
    × (get (codes "scope") d ≡ Some (string seen.scope.now))

-- a line says a key that the focus sees
abbrev pub SaysSeen : Form → Seen → List ℕ → Type 0
SaysSeen form.Text seen said = IsSeenText seen said
SaysSeen form.Json seen said = (d : Data) × IsSeenJson seen d × IsJson d said

-- a line for each of some keys, of which the focus sees each with its value, which is that of the scope
abbrev pub SaysContext : Form → ScopesData → Option (List ℕ) → Option (List ℕ) → Type 0
SaysContext f scopes old new =
    (keys : List Seen) × All (IsSeen scopes) keys × WritesEach (SaysSeen f) keys old new
