use Rattle.std.proofs.Common.{rules, ◌≡◌, ◌+◌, ◌≤◌, ap, arith, false, leb, length, subst, sym, true}
use Rattle.std.specs.List.Sorted.{IsNonDecreasingBy, IsPartitionPoint}
use Rattle.std.proofs.lemmas.List.Sorted.{IsPartitionPoint-from_clause, IsPartitionedBy-leb}
use Rattle.kb_documents.proofs.LineLemmas.{is_line_of, point_is, rising}
use Rattle.kb_documents.proofs.document.line_of.Goals as goal

pub returns : goal.returns
returns c = λ text is within.
    let index = c.args.index in
    let point = c.partition_point.result in
    let starts = c.args.starts.now in
    let fits : point ≤ length starts = search rules in
    let parted = IsPartitionedBy-leb (λ s. s) starts index
    (subst (IsNonDecreasingBy (λ s. s)) (sym is) (rising text (length text + 1))) in
    let parts = IsPartitionPoint-from_clause (λ s. leb s index) _ _ c.partition_point.ensures.partitioned parted
    (λ a r q k. search rules) in
    let count = point_is text index point within (omega (arith, fits, ap length is))
    (subst (λ l. IsPartitionPoint (λ s. leb s index ≡ true) (λ s. leb s index ≡ false) l point) is parts) in
    is_line_of text index _ within (search (arith, count, rules))
