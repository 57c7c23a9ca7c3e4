use Rattle.std.proofs.Common.{◌∙◌}
use Rattle.kb_exchange.proofs.MovesLemmas.{are_sorted, others_kept}
use Rattle.kb_exchange.proofs.exchanging.exchange_all.Goals as goal

pub from_vec-requires-2 : goal.from_vec-requires-2
from_vec-requires-2 c =
    are_sorted c.args.text.now c.in_ok-bytes.moves.items c.args.exchanges.now c.in_ok-bytes.ensures.moves

pub returns-clause-kept : goal.returns-clause-kept
returns-clause-kept c =
    others_kept c.args.text.now c.from_vec.result c.from_vec-2.result c.args.exchanges.now
    (c.from_vec.ensures ∙ c.in_ok-bytes.ensures.bytes) (c.from_vec-2.ensures ∙ c.in_ok-bytes.ensures.moves)
