use Rattle.std.proofs.Common.{ap, sym, ◌∙◌, is_some, map, string_bytes, List, ℕ, Bor}
use Rattle.std.specs.Prelude.{◌||◌}
use Rattle.std.specs.FinMap as finite
use Rattle.std.specs.List.{list_any}
use Rattle.std.specs.Map.{lookup}
use Rattle.std.specs.Str.{bytes_eq}
use Rattle.kb_base.proofs.TextMapLemmas.{get_seen, one_taken}
use Rattle.kb_base.proofs.text_map.TextMap.keys.Goals as goal

pub loop-key-init : goal.loop-key-init
loop-key-init g c = λ q.
    ap (λ (ks : List (Bor (List ℕ))). list_any (bytes_eq q) (map (λ (b : Bor (List ℕ)). b.now) ks)
    || is_some (lookup (λ s. bytes_eq q (string_bytes s)) c.into_iter-key-iterator.result)) c.new-keys.ensures.items
    ∙ ap (λ es. is_some (lookup (λ s. bytes_eq q (string_bytes s)) es))
    c.into_iter-key-iterator.ensures.into_iter_gives.0
    ∙ ap is_some (sym (get_seen c.self.inside.table.entries q))
    ∙ ap (λ m. finite.contains_key m q) c.self.view_is

pub loop-key-preserved : goal.loop-key-preserved
loop-key-preserved g c = λ q.
    ap (λ (ks : List (Bor (List ℕ))). list_any (bytes_eq q) (map (λ (b : Bor (List ℕ)). b.now) ks)
    || is_some (lookup (λ s. bytes_eq q (string_bytes s)) c.next.new.self)) c.in_ok-push.ensures.items
    ∙ one_taken c.loop-key.keys.items c.as_str.result c.in-Some.key.now c.in-Some.field-0-1.now c.next.new.self q
    c.as_str.ensures.value
    ∙ ap (λ es. list_any (bytes_eq q) (map (λ (b : Bor (List ℕ)). b.now) c.loop-key.keys.items)
    || is_some (lookup (λ s. bytes_eq q (string_bytes s)) es)) (sym c.in-Some.ensures.steps)
    ∙ c.loop-key.invariant q
