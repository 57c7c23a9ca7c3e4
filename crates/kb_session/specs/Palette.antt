-- The lines of the palette, and the effect of a choice.
use Rattle.std.specs.Prelude.{ℕ, ◌+◌, zero, suc, List, [], ◌∷◌, Option, Some, None, length, slice_get}
use Rattle.kb_core.specs.Core.{Core}
use Rattle.kb_execute.specs.Start.{Started, behind, start_of}
use Rattle.kb_palette.specs.declared.listing.Entry.{Entry}
use Rattle.kb_registry.specs.Live.{Live}
use Rattle.kb_trace.specs.Lines as line

-- the lines of entries, numbered from this number on
abbrev pub entry_lines : ℕ → List Entry → List (List ℕ)
entry_lines number [] = []
entry_lines number (e ∷ es) = line.entry_line number e.label e.command ∷ entry_lines (number + 1) es

-- the lines of a palette: the number of entries, then each entry with its number from 1
abbrev pub palette_lines : List Entry → List (List ℕ)
palette_lines entries = line.palette_line (length entries) ∷ entry_lines 1 entries

-- the entry with a number, counted from 1, of the list of the palette, if there is one
abbrev pub entry_at : ℕ → Option (List Entry) → Option Entry
entry_at number None = None
entry_at zero (Some entries) = None
entry_at (suc place) (Some entries) = slice_get entries place

-- the start of a chosen command, without arguments
abbrev pub choice_started : ℕ → List ℕ → Live → Core → Started
choice_started number command live core =
    behind (line.start_line (line.choose_text number) command ∷ []) (start_of command None live core)
