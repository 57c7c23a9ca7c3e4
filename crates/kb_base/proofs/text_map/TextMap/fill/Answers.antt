use Rattle.std.proofs.Common.{ℕ, List, String, Global, is_some, string_bytes, ap, sym, ◌∙◌}
use Rattle.std.specs.Str.{bytes_eq}
use Rattle.std.specs.Map.{lookup}
use Rattle.std.specs.Ordering.{nat_cmp}
use Rattle.std.specs.Cmp.Lexicographic.{slice_cmp}
use Rattle.std.specs.FinMap as map
use Rattle.kb_base.specs.TextMap.{filled}
use Rattle.kb_base.proofs.TextMapLemmas.{get_seen, filled_more, filled_same}
use Rattle.kb_base.proofs.text_map.TextMap.fill.Goals as goal
use Rattle.kb_base.proofs.text_map.TextMap.fill.Goals.{then-not-contains_key+in_ok-set, else-not-contains_key}

pub loop-key-init : goal.loop-key-init
loop-key-init g c = λ q.
    ap (λ es. filled (map.get c.args.other.now q)
    (is_some (lookup (λ s. bytes_eq q (string_bytes s)) es)) c.args.number)
    c.into_iter-key-iterator.ensures.into_iter_gives.0
    ∙ ap (λ o. filled (map.get c.args.other.now q) (is_some o) c.args.number)
    (sym (get_seen c.self.inside.table.entries q))
    ∙ ap (λ m. filled (map.get c.args.other.now q) (map.contains_key m q) c.args.number) c.self.view_is

pub loop-key-preserved : goal.loop-key-preserved
loop-key-preserved g c = λ q.
    let fills = λ (m : map.FinMap (slice_cmp nat_cmp) ℕ) (es : List (String Global × g.row.V.Denot)).
    filled (map.get m q) (is_some (lookup (λ s. bytes_eq q (string_bytes s)) es)) c.args.number in
    elim c.if-not-contains_key.branch [
      | then-not-contains_key+in_ok-set w ↦
          ap (λ m. fills m c.next.new.self) w.other-is
          ∙ filled_more c.loop-key.other w.set.new.self c.in-Some.key.now c.in-Some.field-0-1.now c.next.new.self
          c.args.number
          (ap (map.contains_key c.loop-key.other) (sym c.as_str.ensures.value)
          ∙ sym c.contains_key.ensures ∙ w.if-not-contains_key.true)
          (w.in_ok-set.ensures.ok
          ∙ ap (λ k. map.insert c.loop-key.other k c.args.number) w.as_str-then-not-contains_key.ensures.value) q
          ∙ ap (fills c.loop-key.other) (sym c.in-Some.ensures.steps)
          ∙ c.loop-key.invariant q
      | else-not-contains_key w ↦
          ap (λ m. fills m c.next.new.self) w.other-is
          ∙ filled_same c.loop-key.other c.in-Some.key.now c.in-Some.field-0-1.now c.next.new.self c.args.number
          (ap (map.contains_key c.loop-key.other) (sym c.as_str.ensures.value)
          ∙ sym c.contains_key.ensures ∙ w.if-not-contains_key.false) q
          ∙ ap (fills c.loop-key.other) (sym c.in-Some.ensures.steps)
          ∙ c.loop-key.invariant q
    ]
