-- Which rules a removal takes.
use Rattle.std.specs.Prelude.{◌≡◌, List, Bool, true, false, ◌&&◌, Option, Some, None, bytes_eq}
use Rattle.kb_keys.specs.declared.keystroke.Keystroke.{Keystroke}
use Rattle.kb_keys.specs.Chord.{same_keys}
use Rattle.kb_when.specs.Clause.{Clause}
use Rattle.kb_when.specs.Marks.{MarkedClause}
use Rattle.kb_when.specs.Same.{same}
use Rattle.kb_rules.specs.declared.removal.Removal.{Removal}
use Rattle.kb_rules.specs.declared.rule.Rule.{Rule}
use Rattle.kb_rules.specs.Unread.{tree_in}

-- its command, with the keystrokes and the tree of the clause that it has
pub record Takes (removal : Removal) (rule : Rule) : Type 0 where
  pub command : removal.command ≡ rule.command
  pub keystrokes : (keys : List Keystroke) → removal.chord ≡ Some keys → rule.chord ≡ keys
  pub clause : (tree : Clause) → tree_in removal.when ≡ Some tree → tree_in rule.when ≡ Some tree

-- ---- the same as a test

-- no keystrokes, or the same
abbrev pub fits_keys : Option (List Keystroke) → List Keystroke → Bool
fits_keys None chord = true
fits_keys (Some keys) chord = same_keys keys chord

-- no clause, or the same tree
abbrev pub fits_clause : Option MarkedClause → Option MarkedClause → Bool
fits_clause None when = true
fits_clause (Some clause) None = false
fits_clause (Some clause) (Some when) = same clause.tree when.tree

abbrev pub takes : Removal → Rule → Bool
takes removal rule =
    bytes_eq removal.command rule.command
    && (fits_keys removal.chord rule.chord && fits_clause removal.when rule.when)
