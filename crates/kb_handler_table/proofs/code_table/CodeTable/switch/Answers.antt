use Rattle.std.proofs.Common.{◌∙◌, refl, ap, set}
use Rattle.std.specs.Vec.{with_item}
use Rattle.kb_handler_table.specs.Live.{switched}
use Rattle.kb_handler_table.proofs.Apart.{switch_stays}
use Rattle.kb_handler_table.proofs.Groups.{changed_at}
use Rattle.kb_handler_table.proofs.code_table.CodeTable.switch.Goals as goal

pub invariant_of-self : goal.invariant_of-self
invariant_of-self c =
    let gs = c.self.inside.groups.items in
    switch_stays c.args.extension c.args.live gs
    ((with_item c.self.inside.groups c.in-Some.place c.switch.new.self).items) c.self.invariant
    (ap (set gs c.in-Some.place) c.switch.ensures
    ∙ changed_at c.args.extension c.args.extension c.as_slice.result.now gs c.in-Some.place c.index_mut.result.now
    (λ g. record g { live = c.args.live }) refl c.as_slice.ensures.value c.in-Some.ensures c.index_mut.ensures.value)

pub returns-in-Some : goal.returns-in-Some
returns-in-Some c =
    let gs = c.self.inside.groups.items in
    ap (set gs c.in-Some.place) c.switch.ensures
    ∙ changed_at c.args.extension c.args.extension c.as_slice.result.now gs c.in-Some.place c.index_mut.result.now
    (λ g. record g { live = c.args.live }) refl c.as_slice.ensures.value c.in-Some.ensures c.index_mut.ensures.value
    ∙ ap (switched c.args.extension c.args.live) c.self.view_is
