use Rattle.std.proofs.Common.{◌≡◌, sym, ap, ◌∙◌, string_bytes}
use Rattle.std.specs.FinMap as map
use Rattle.std.specs.Map.{lookup}
use Rattle.std.specs.Str.{bytes_eq}
use Rattle.std.proofs.lemmas.Slice.Eq.{bytes_eq-Decides}
use Rattle.kb_base.proofs.TextMapLemmas.{get_seen}
use Rattle.kb_base.proofs.text_map.TextMap.get_near.Goals as goal

pub returns-then-eq : goal.returns-then-eq
returns-then-eq g c =
    let same : string_bytes c.in-Some.found.now ≡ c.args.key.now =
    sym c.as_str.ensures.value
    ∙ (bytes_eq-Decides c.as_str.result.now c.args.key.now).0 (sym c.eq.ensures ∙ c.if-eq.true) in
    sym c.in-Some.ensures.value
    ∙ ap (λ q. lookup (λ y. bytes_eq q (string_bytes y)) c.self.inside.table.entries) same
    ∙ sym (get_seen c.self.inside.table.entries c.args.key.now)
    ∙ ap (λ m. map.get m c.args.key.now) c.self.view_is

pub returns : goal.returns
returns g c = c.get.ensures.value ∙ sym (get_seen c.self.inside.table.entries c.args.key.now)
    ∙ ap (λ m. map.get m c.args.key.now) c.self.view_is
