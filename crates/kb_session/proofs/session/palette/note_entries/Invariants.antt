use Rattle.std.proofs.Common.{◌≡◌, ◌++◌, ◌+◌, drop}
use Rattle.kb_session.specs.Palette.{entry_lines}
use Rattle.kb_stream.specs.Lines.{Begins}
use Rattle.kb_session.proofs.session.palette.note_entries.Given as goal

-- the lines so far, and then those of the entries that are left
abbrev pub invariant-loop-place : goal.invariant-loop-place
invariant-loop-place l =
    Begins l.fn.trace l.trace
    × (l.trace ++ entry_lines (l.place + 1) (drop l.place l.entries) ≡ l.fn.trace ++ entry_lines 1 l.entries)
