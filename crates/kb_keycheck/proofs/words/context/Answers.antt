use Rattle.std.proofs.lemmas.Result.{IfOk-weaker}
use Rattle.kb_keycheck.proofs.words.context.Goals as goal

pub returns : goal.returns
returns c =
    IfOk-weaker c.with_script.result _ _ (λ made h. h _ c.command-command.ensures) c.with_script.ensures
