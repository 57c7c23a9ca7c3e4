use Rattle.std.proofs.lemmas.Result.{IfOk-weaker}
use Rattle.kb_keycheck.proofs.words.with_files.Goals as goal

pub returns : goal.returns
returns c = IfOk-weaker c.with-6.result _ _ (λ made h a is.
    let layout = c.in_ok-command.ensures a _ is c.file_option.ensures.rule in
    let defaults = c.in_ok-command-2.ensures _ _ layout c.file_option-2.ensures.rule in
    let user = c.in_ok-command-3.ensures _ _ defaults c.file_option-3.ensures.rule in
    let platform = c.in_ok-command-4.ensures _ _ user c.platform_option.ensures.rule in
    let json = c.in_ok-command-5.ensures _ _ platform c.json_option.ensures.rule in
    h _ _ json c.dirs_argument.ensures.rule) c.with-6.ensures
