use Rattle.std.proofs.Common.{rules, ◌≡◌, ◌≤◌, ap, arith, false, leb, length, subst, sym, true}
use Rattle.std.specs.List.Sorted.{IsNonDecreasingBy, IsPartitionPoint}
use Rattle.std.proofs.lemmas.List.Sorted.{IsPartitionPoint-from_clause, IsPartitionedBy-leb}
use Rattle.kb_places.specs.Lines.{begins_below}
use Rattle.kb_places.proofs.LineTableLemmas.{point_is, rising}
use Rattle.kb_places.proofs.line_table.LineTable.line.Goals as goal

pub returns : goal.returns
returns c = λ text is within.
    let index = c.args.index in
    let point = c.partition_point.result in
    let starts = c.as_slice.result.now in
    let same : starts ≡ begins_below text (length text) = search (is, rules) in
    let fits : point ≤ length starts = search rules in
    let parted = IsPartitionedBy-leb (λ s. s) starts index
    (subst (IsNonDecreasingBy (λ s. s)) (sym same) (rising text (length text))) in
    let parts = IsPartitionPoint-from_clause (λ s. leb s index) _ _ c.partition_point.ensures.partitioned parted
    (λ a r q k. search rules) in
    let count = point_is text index point within (omega (arith, fits, ap length same))
    (subst (λ l. IsPartitionPoint (λ s. leb s index ≡ true) (λ s. leb s index ≡ false) l point) same parts) in
    search (arith, count, rules)
