use Rattle.std.proofs.Common.{◌∙◌, ◌<◌, List, Some, sym, ap, subst, refl, length, slice_get, option_map}
use Rattle.std.specs.Prelude.{remove}
use Rattle.std.proofs.lemmas.Option.{slice_get_read}
use Rattle.kb_handler_table.specs.Live.{Group, group_of, without_group}
use Rattle.kb_handler_table.proofs.Apart.{without_stays}
use Rattle.kb_handler_table.proofs.code_table.CodeTable.dispose.Goals as goal

pub invariant_of-self : goal.invariant_of-self
invariant_of-self c =
    let same = c.as_slice.ensures.value in
    without_stays c.args.extension c.self.inside.groups.items c.remove.new.self.items c.self.invariant
    (c.remove.ensures.items ∙ ap (λ (gs : List Group). remove gs c.in-Some.place) (sym same)
    ∙ sym c.in-Some.ensures.others ∙ ap (without_group c.args.extension) same)

pub returns-in-Some-clause-codes : goal.returns-in-Some-clause-codes
returns-in-Some-clause-codes c =
    let same = c.as_slice.ensures.value in
    let place = c.in-Some.place in
    let at = slice_get_read c.self.inside.groups.items _ place c.remove.result refl
    (subst (λ (gs : List Group). place < length gs) same c.in-Some.ensures.within) c.remove.ensures.value in
    ap (λ codes. Some codes) c.into_codes.ensures
    ∙ sym (ap (option_map (λ (g : Group). g.codes)) (ap (λ (gs : List Group). slice_get gs place) same ∙ at))
    ∙ sym c.in-Some.ensures.its ∙ ap (group_of c.args.extension) (same ∙ c.self.view_is)
