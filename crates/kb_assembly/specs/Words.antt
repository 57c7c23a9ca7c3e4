-- The words of a line, byte by byte.
use Rattle.std.specs.Prelude.{ℕ, ◌+◌, Bool, true, false, not, nat_lt, ◌==◌, ◌&&◌, if◌then◌else◌}
use Rattle.std.specs.Prelude.{List, [], ◌∷◌, ◌++◌, Option, Some, None, Result, Ok, Err}
use Rattle.std.specs.Str.{is_utf8}
use Rattle.kb_base.specs.Blank.{is_blank}
use Rattle.kb_base.specs.declared.failure.Failure.{Failure}
use Rattle.kb_base.specs.declared.failure.Failure.TheVariants.{NoMemory, Fault}
use Rattle.kb_base.specs.Reading.{◌>>=◌, seen, or_fault}
use Rattle.kb_assembly.specs.declared.fault.LineFault.{LineFault}
use Rattle.kb_assembly.specs.declared.fault.Mistake.{Mistake}
use Rattle.kb_assembly.specs.declared.fault.Mistake.TheVariants.{BadByte, MissingBlank, BadEscape, OpenQuotes}
use Rattle.kb_assembly.specs.declared.fault.Mistake.TheVariants.{NotUtf8}
use Rattle.kb_assembly.specs.declared.words.Word.{Word}
use Rattle.kb_assembly.specs.declared.words.Scan.{Scan}
use Rattle.kb_assembly.specs.declared.words.Mode.{Mode}
use Rattle.kb_assembly.specs.declared.words.Mode.TheVariants as m
use Rattle.kb_assembly.specs.declared.words.Action.{Action}
use Rattle.kb_assembly.specs.declared.words.Action.TheVariants as a

abbrev pub quote : ℕ
quote = 34

abbrev pub semicolon : ℕ
semicolon = 59

abbrev pub backslash : ℕ
backslash = 92

-- visible ASCII other than a quote and a semicolon
abbrev pub is_plain : ℕ → Bool
is_plain b = nat_lt 32 b && nat_lt b 127 && not (b == quote) && not (b == semicolon)

-- the byte that a byte after a backslash stands for
abbrev pub escaped : ℕ → Option ℕ
escaped b =
    if b == quote then Some quote
    else if b == backslash then Some backslash
    else if b == 110 then Some 10
    else if b == 114 then Some 13
    else if b == 116 then Some 9
    else None

-- what the next byte does
abbrev pub action_of : Mode → ℕ → Result Action Mistake
action_of m.Between b =
    if is_blank b then Ok (a.Pass m.Between)
    else if b == semicolon then Ok (a.Pass m.InComment)
    else if b == quote then Ok (a.Pass m.InQuotes)
    else if is_plain b then Ok (a.Keep b m.InWord)
    else Err BadByte
action_of m.InWord b =
    if is_blank b then Ok (a.Close false m.Between)
    else if b == semicolon then Ok (a.Close false m.InComment)
    else if b == quote then Err MissingBlank
    else if is_plain b then Ok (a.Keep b m.InWord)
    else Err BadByte
action_of m.InQuotes b =
    if b == quote then Ok (a.Close true m.AfterQuotes)
    else if b == backslash then Ok (a.Pass m.InEscape)
    else Ok (a.Keep b m.InQuotes)
action_of m.InEscape b = seen (λ c. a.Keep c m.InQuotes) (or_fault BadEscape (escaped b))
action_of m.AfterQuotes b =
    if is_blank b then Ok (a.Pass m.Between)
    else if b == semicolon then Ok (a.Pass m.InComment)
    else Err MissingBlank
action_of m.InComment b = Ok (a.Pass m.InComment)

-- the word of the bytes of an open one
unfoldable pub closed : Bool → List ℕ → Result Word Mistake
closed is_quoted bytes =
    if is_utf8 bytes then Ok (record { is_quoted = is_quoted; text = bytes }) else Err NotUtf8

abbrev pub start : Scan
start = record { words = []; held = []; mode = m.Between }

-- what an action makes of the words so far
abbrev pub applied : Action → Scan → Result Scan Mistake
applied (a.Pass mode) s = Ok (record s { mode = mode })
applied (a.Keep b mode) s = Ok (record { words = s.words; held = s.held ++ b ∷ []; mode = mode })
applied (a.Close is_quoted mode) s =
    seen (λ w. record { words = s.words ++ w ∷ []; held = []; mode = mode }) (closed is_quoted s.held)

abbrev pub step : Scan → ℕ → Result Scan Mistake
step s b = action_of s.mode b >>= λ action. applied action s

-- what the end of the line makes of them
abbrev pub ended_in : Mode → Scan → Result Scan Mistake
ended_in m.InWord s = applied (a.Close false m.Between) s
ended_in m.InQuotes s = Err OpenQuotes
ended_in m.InEscape s = Err OpenQuotes
ended_in _ s = Ok s

abbrev pub ended : Scan → Result Scan Mistake
ended s = ended_in s.mode s

-- a mistake has a place
abbrev pub placed : {A : Type 0} → ℕ → Result A Mistake → Result A LineFault
placed at (Ok x) = Ok x
placed at (Err mistake) = Err (record { at = at; mistake = mistake })

abbrev pub placed_failure : ℕ → Failure Mistake → Failure LineFault
placed_failure at NoMemory = NoMemory
placed_failure at (Fault mistake) = Fault (record { at = at; mistake = mistake })

-- the bytes from an index on
abbrev pub scan_from : ℕ → Scan → List ℕ → Result Scan LineFault
scan_from at s [] = placed at (ended s)
scan_from at s (b ∷ bs) = placed at (step s b) >>= λ t. scan_from (at + 1) t bs

-- the words of a line, or its first fault, at the index of a byte
unfoldable pub words_of : List ℕ → Result (List Word) LineFault
words_of line = seen (λ s. s.words) (scan_from 0 start line)
