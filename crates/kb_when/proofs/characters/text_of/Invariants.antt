use Rattle.std.proofs.Common.{◌≡◌, ◌++◌, drop, string_bytes}
use Rattle.kb_when.specs.Characters.{bytes_of}
use Rattle.kb_when.proofs.characters.text_of.Given as goal

abbrev pub invariant-loop-character : goal.invariant-loop-character
invariant-loop-character l =
    string_bytes l.text ++ bytes_of (drop l.character-index l.characters) ≡ bytes_of l.characters
