use Rattle.std.proofs.Common.{◌≡◌, ◌<◌, ◌≤◌, ◌++◌, drop}
use Rattle.std.specs.Prelude.{slice_range}
use Rattle.std.specs.Str.{IsCharBoundary}
use Rattle.kb_keyboard.specs.Respelling.{respelled, respelled_from}
use Rattle.kb_keyboard.proofs.respelling.respell.Given as goal

-- the text so far, the word that was begun and the rest give the whole
abbrev pub invariant-loop-at : goal.invariant-loop-at
invariant-loop-at l = record {
  made : l.made ++ respelled_from l.layout l.shifted (slice_range l.text l.begin l.at) (drop l.at l.text)
      ≡ respelled l.layout l.text;
  begins : 0 < l.begin → IsCharBoundary l.text l.begin;
  before : l.begin ≤ l.at;
}
