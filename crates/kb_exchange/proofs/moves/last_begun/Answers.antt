use Rattle.std.proofs.Common.{rules, leb}
use Rattle.std.proofs.lemmas.List.Sorted.{IsPartitionPoint-from_clause, IsPartitionedBy-leb}
use Rattle.kb_exchange.proofs.MovesLemmas.{none_begun, some_begun}
use Rattle.kb_exchange.proofs.moves.last_begun.Goals as goal

pub returns-then-count-eq0 : goal.returns-then-count-eq0
returns-then-count-eq0 c =
    let parted = IsPartitionedBy-leb (λ m. m.new.begin) c.args.moves.now c.args.index c.requires in
    let parts = IsPartitionPoint-from_clause (λ m. leb m.new.begin c.args.index) _ _
    c.partition_point-count.ensures.partitioned parted (λ a r q k. search rules) in
    none_begun c.args.moves.now c.args.index c.partition_point-count.result c.if-count-eq0.true
    c.partition_point-count.ensures.bound parts

pub returns : goal.returns
returns c =
    let parted = IsPartitionedBy-leb (λ m. m.new.begin) c.args.moves.now c.args.index c.requires in
    let parts = IsPartitionPoint-from_clause (λ m. leb m.new.begin c.args.index) _ _
    c.partition_point-count.ensures.partitioned parted (λ a r q k. search rules) in
    some_begun c.args.moves.now c.args.index c.partition_point-count.result _ c.if-count-eq0.false
    c.partition_point-count.ensures.bound parts
