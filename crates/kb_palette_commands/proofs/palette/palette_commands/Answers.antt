use Rattle.std.proofs.Common.{◌≡◌, ◌∙◌, [], ap, map}
use Rattle.std.proofs.lemmas.Result.{IfOk-weaker}
use Rattle.kb_manifest.specs.CommandTable.{firsts_behind}
use Rattle.kb_palette_commands.specs.Contributed.{named_of}
use Rattle.kb_palette_commands.specs.Items.{clauses_in}
use Rattle.kb_palette_commands.specs.Palette.{palette_commands, with_clauses}
use Rattle.kb_palette_commands.proofs.PaletteLemmas.{with_table}
use Rattle.kb_palette_commands.proofs.palette.palette_commands.Goals as goal

pub returns : goal.returns
returns c =
    let table = c.in_ok-items.items in
    let all = map named_of c.in_ok-all.all.items in
    let firsts = c.in_ok-firsts.firsts.items in
    IfOk-weaker c.listed.result
    (λ made. made.items ≡ map (λ c. with_clauses (clauses_in table) (named_of c)) c.as_slice-2.result.now)
    (λ made. made.items ≡ palette_commands c.args.extensions.now)
    (λ made is. with_table table c.args.extensions.now all firsts made.items c.in_ok-items.ensures
    c.in_ok-all.ensures
    (c.in_ok-firsts.ensures ∙ ap (λ items. firsts_behind [] (map named_of items)) c.as_slice.ensures.value)
    (is ∙ ap (map (λ c. with_clauses (clauses_in table) (named_of c))) c.as_slice-2.ensures.value))
    c.listed.ensures
