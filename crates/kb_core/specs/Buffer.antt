-- The effect of each edit on the text before and after the caret.
use Rattle.std.specs.Prelude.{ℕ, List, [], ◌++◌}
use Rattle.kb_base.specs.Text.{without_last, only_last, without_first, only_first}
use Rattle.kb_core.specs.declared.buffer.Buffer.{Buffer}

abbrev pub empty : Buffer
empty = record { before = []; after = [] }

abbrev pub with_inserted : List ℕ → Buffer → Buffer
with_inserted text b = record { before = b.before ++ text; after = b.after }

abbrev pub without_left : Buffer → Buffer
without_left b = record { before = without_last b.before; after = b.after }

abbrev pub without_right : Buffer → Buffer
without_right b = record { before = b.before; after = without_first b.after }

abbrev pub moved_left : Buffer → Buffer
moved_left b = record { before = without_last b.before; after = only_last b.before ++ b.after }

abbrev pub moved_right : Buffer → Buffer
moved_right b = record { before = b.before ++ only_first b.after; after = without_first b.after }

abbrev pub at_top : Buffer → Buffer
at_top b = record { before = []; after = b.before ++ b.after }

abbrev pub at_bottom : Buffer → Buffer
at_bottom b = record { before = b.before ++ b.after; after = [] }
