use Rattle.std.proofs.Common.{rules, ◌≤◌, option_copied}
use Rattle.kb_context.proofs.SightLemmas.{key_tells}
use Rattle.kb_context.proofs.sight.Sight.of_numbers.Goals as goal

pub returns-then-is_exact : goal.returns-then-is_exact
returns-then-is_exact c = λ keys text hash is bytes has.
    let few : c.args.key.length ≤ 32 = search rules in
    key_tells keys text hash c.args.key (option_copied c.args.value) c.of.result few is bytes has c.of.ensures
