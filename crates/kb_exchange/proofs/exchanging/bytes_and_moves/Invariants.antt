use Rattle.std.proofs.Common.{◌≡◌, ◌++◌, drop, length}
use Rattle.kb_exchange.specs.Exchange.{exchanged, exchanged_from}
use Rattle.kb_exchange.specs.Moves.{moves_from, moves_of}
use Rattle.kb_exchange.proofs.exchanging.bytes_and_moves.Given as goal

-- the text so far and what is made of the others give the whole, and so do the moves
abbrev pub invariant-loop-exchange : goal.invariant-loop-exchange
invariant-loop-exchange l = record {
  bytes : l.bytes.items ++ exchanged_from l.text l.at (drop l.exchange-index l.exchanges)
      ≡ exchanged l.text l.exchanges;
  moves : l.moves.items ++ moves_from l.text l.at (length l.bytes.items) (drop l.exchange-index l.exchanges)
      ≡ moves_of l.text l.exchanges;
}
