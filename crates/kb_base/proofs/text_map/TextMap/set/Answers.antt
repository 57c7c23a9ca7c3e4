use Rattle.std.proofs.Common.{string_bytes, sym, ap, ◌∙◌, rules}
use Rattle.std.specs.FinMap as map
use Rattle.kb_base.proofs.TextMapLemmas.{seen, seen_inserted, absent_seen, OnErr-holds}
use Rattle.kb_base.proofs.text_map.TextMap.set.Goals as goal

pub returns-in-Some-clause-ok : goal.returns-in-Some-clause-ok
returns-in-Some-clause-ok g c =
    seen_inserted c.self.inside.table (c.get_mut.follows.lender c.args.value) c.args.key.now c.args.value
    ((c.get_mut.follows.holds c.args.value).3 (search rules))
    ∙ ap (λ m. map.insert m c.args.key.now c.args.value) c.self.view_is

pub returns-in_err-from_str-clause-absent : goal.returns-in_err-from_str-clause-absent
returns-in_err-from_str-clause-absent g c =
    OnErr-holds _ (ap (λ m. map.contains_key m c.args.key.now) (sym c.self.view_is)
    ∙ absent_seen c.self.inside.table c.args.key.now (sym c.in_default.ensures.value))

pub returns-in_err-insert-clause-absent : goal.returns-in_err-insert-clause-absent
returns-in_err-insert-clause-absent g c =
    OnErr-holds _ (ap (λ m. map.contains_key m c.args.key.now) (sym c.self.view_is)
    ∙ absent_seen c.self.inside.table c.args.key.now (sym c.in_default.ensures.value))

pub returns-clause-ok : goal.returns-clause-ok
returns-clause-ok g c =
    let old = c.get_mut.follows.lender-at-none in
    seen_inserted old c.insert.new.self
    (string_bytes c.in_ok-from_str.field-0) c.args.value c.in_ok-insert.ensures.updates
    ∙ ap (λ k. map.insert (seen old.entries) k c.args.value) c.in_ok-from_str.ensures.ok
    ∙ ap (λ m. map.insert m c.args.key.now c.args.value) (rw c.get_mut.follows.holds-at-none c.self.view_is)
