use Rattle.std.proofs.Common.{ap₂, ◌∙◌}
use Rattle.std.proofs.lemmas.Result.{IfOk-weaker}
use Rattle.clap.specs.Words.{with_rule}
use Rattle.kb_cli.proofs.command_line.command_of.Goals as goal

pub returns : goal.returns
returns c =
    let layout = c.in_ok-command-2.ensures ∙ ap₂ with_rule c.in_ok-command.ensures c.file_option.ensures.rule in
    let defaults = c.in_ok-command-3.ensures ∙ ap₂ with_rule layout c.file_option-2.ensures.rule in
    let user = c.in_ok-command-4.ensures ∙ ap₂ with_rule defaults c.file_option-3.ensures.rule in
    let platform = c.in_ok-command-5.ensures ∙ ap₂ with_rule user c.platform_option.ensures.rule in
    let script = c.in_ok-command-6.ensures ∙ ap₂ with_rule platform c.file_option-4.ensures.rule in
    IfOk-weaker c.with-6.result _ _ (λ made h. h ∙ ap₂ with_rule script c.dirs_argument.ensures.rule) c.with-6.ensures
