use Rattle.std.proofs.Common.{◌∙◌, ◌<◌, List, Some, refl, sym, ap, subst, length, option_map, slice_get}
use Rattle.std.proofs.Common.{set}
use Rattle.std.proofs.lemmas.Option.{slice_get_read}
use Rattle.std.specs.Vec.{with_item}
use Rattle.kb_handler_table.specs.Live.{Group, exchanged, group_of, handlers_of}
use Rattle.kb_code.specs.Face.{same_face}
use Rattle.kb_handler_table.proofs.Apart.{exchange_stays}
use Rattle.kb_handler_table.proofs.Groups.{changed_at}
use Rattle.kb_handler_table.proofs.code_table.CodeTable.exchange.Goals as goal

pub invariant_of-self : goal.invariant_of-self
invariant_of-self c =
    let gs = c.self.inside.groups.items in
    let number = c.args.group.extension in
    let codes = c.args.group.codes in
    let face = ap (λ gs. same_face (handlers_of number gs) codes.handlers) c.self.view_is ∙ c.requires in
    exchange_stays number codes gs
    ((with_item c.self.inside.groups c.in-Some.place c.take_code.new.self).items) face c.self.invariant
    (ap (set gs c.in-Some.place) c.take_code.ensures.group
    ∙ changed_at number c.extension.result c.as_slice.result.now gs c.in-Some.place c.index_mut.result.now
    (λ g. record g { codes = codes }) c.extension.ensures c.as_slice.ensures.value c.in-Some.ensures
    c.index_mut.ensures.value)

pub returns-in-Some-clause-table : goal.returns-in-Some-clause-table
returns-in-Some-clause-table c =
    let gs = c.self.inside.groups.items in
    let number = c.args.group.extension in
    let codes = c.args.group.codes in
    ap (set gs c.in-Some.place) c.take_code.ensures.group
    ∙ changed_at number c.extension.result c.as_slice.result.now gs c.in-Some.place c.index_mut.result.now
    (λ g. record g { codes = codes }) c.extension.ensures c.as_slice.ensures.value c.in-Some.ensures
    c.index_mut.ensures.value
    ∙ ap (exchanged number codes) c.self.view_is

pub returns-in-Some-clause-codes : goal.returns-in-Some-clause-codes
returns-in-Some-clause-codes c =
    let gs = c.self.inside.groups.items in
    let same = c.as_slice.ensures.value in
    let at = c.in-Some.ensures in
    let there = slice_get_read gs (length gs) c.in-Some.place c.index_mut.result.now refl
    (subst (λ (gs : List Group). c.in-Some.place < length gs) same at.within) c.index_mut.ensures.value in
    sym (ap (λ e. group_of e c.args.self.now) (sym c.extension.ensures)
    ∙ ap (group_of c.extension.result) (sym (same ∙ c.self.view_is))
    ∙ at.its ∙ ap (λ (gs : List Group). option_map (λ (g : Group). g.codes) (slice_get gs c.in-Some.place)) same
    ∙ ap (option_map (λ (g : Group). g.codes)) there
    ∙ ap Some (sym c.take_code.ensures.codes))

pub returns-in-None-clause-table : goal.returns-in-None-clause-table
returns-in-None-clause-table c =
    let number = c.args.group.extension in
    let codes = c.args.group.codes in
    sym c.self.view_is ∙ sym c.as_slice.ensures.value ∙ sym (c.in-None.ensures.same (λ g. record g { codes = codes }))
    ∙ ap (λ n. exchanged n codes c.as_slice.result.now) c.extension.ensures
    ∙ ap (exchanged number codes) (c.as_slice.ensures.value ∙ c.self.view_is)
