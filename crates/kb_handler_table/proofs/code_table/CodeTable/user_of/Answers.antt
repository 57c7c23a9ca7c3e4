use Rattle.std.proofs.Common.{◌≡◌, ◌∙◌, ◌+◌, suc, sym, ap, drop, find, arith}
use Rattle.std.proofs.lemmas.List.{take_rest}
use Rattle.std.specs.Option.{option_or}
use Rattle.kb_handler_table.specs.Live.{calls_one, checked_handlers, user_of}
use Rattle.kb_handler_table.proofs.Groups.{user_is, user_of_none}
use Rattle.kb_handler_table.proofs.code_table.CodeTable.user_of.Goals as goal

pub returns-in-Some-user_among : goal.returns-in-Some-user_among
returns-in-Some-user_among c =
    let groups = c.as_slice-groups.result.now in
    let own = c.index-groups-place.result.codes.handlers in
    let later = find (calls_one own) (checked_handlers (drop (suc c.in-Some.place) groups)) in
    ap (λ o. option_or o later) c.in-Some-user_among.ensures
    ∙ sym (user_is c.args.extension groups c.in-Some.place c.index-groups-place.result c.in-Some.ensures
    c.index-groups-place.is)
    ∙ ap (user_of c.args.extension) (c.as_slice-groups.ensures.value ∙ c.self.view_is)

pub returns-in-None : goal.returns-in-None
returns-in-None c =
    let groups = c.as_slice-groups.result.now in
    let own = c.index-groups-place.result.codes.handlers in
    let next : c.in-Some.place + 1 ≡ suc c.in-Some.place = omega arith in
    let later = find (calls_one own) (checked_handlers (drop (suc c.in-Some.place) groups)) in
    c.user_among-in-None.ensures
    ∙ ap (λ gs. find (calls_one own) (checked_handlers gs)) (take_rest groups (c.in-Some.place + 1))
    ∙ ap (λ n. find (calls_one own) (checked_handlers (drop n groups))) next
    ∙ ap (λ o. option_or o later) c.in-None.ensures
    ∙ sym (user_is c.args.extension groups c.in-Some.place c.index-groups-place.result c.in-Some.ensures
    c.index-groups-place.is)
    ∙ ap (user_of c.args.extension) (c.as_slice-groups.ensures.value ∙ c.self.view_is)

pub returns-in_default : goal.returns-in_default
returns-in_default c =
    user_of_none c.args.extension c.as_slice-groups.result.now c.in_default.ensures.none
    ∙ ap (user_of c.args.extension) (c.as_slice-groups.ensures.value ∙ c.self.view_is)
