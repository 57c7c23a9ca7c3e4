use Rattle.std.proofs.lemmas.Result.{IfOk-weaker}
use Rattle.kb_keycheck.proofs.words.check.Goals as goal

pub returns : goal.returns
returns c =
    let only = c.in_ok-with.ensures _ _ c.command-command.ensures c.only_option.ensures.rule in
    let level = c.in_ok-command.ensures _ _ only c.level_option.ensures.rule in
    let allow = c.in_ok-with-2.ensures _ _ level c.lints_option-allow.ensures.rule in
    let warn = c.in_ok-command-2.ensures _ _ allow c.lints_option-warn.ensures.rule in
    let commands = c.in_ok-with-3.ensures _ _ warn c.file_option-commands.ensures.rule in
    IfOk-weaker c.with_files.result _ _
    (λ made h. h _ (c.in_ok-command-3.ensures _ _ commands c.format_option.ensures.rule)) c.with_files.ensures
