use Rattle.std.proofs.Common.{◌≡◌, ◌++◌, drop, string_bytes, false}
use Rattle.kb_when.specs.Characters.{bytes_of}
use Rattle.kb_when.specs.Tokenizer.{pattern_text}
use Rattle.kb_when.proofs.piece.pattern_of.Given as goal

abbrev pub invariant-loop-character : goal.invariant-loop-character
invariant-loop-character l =
    string_bytes l.text ++ bytes_of (pattern_text l.escaped (drop l.character-index l.characters))
    ≡ bytes_of (pattern_text false l.characters)
