use Rattle.std.proofs.lemmas.Result.{IfOk-weaker}
use Rattle.kb_keycheck.proofs.words.handlers.Goals as goal

pub returns : goal.returns
returns c =
    let json = c.in_ok-with.ensures _ _ c.command-command.ensures c.json_option.ensures.rule in
    IfOk-weaker c.with-2.result _ _ (λ made h. h _ _ json c.some_dirs.ensures.rule) c.with-2.ensures
