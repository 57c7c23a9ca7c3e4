use Rattle.std.proofs.lemmas.Result.{IfOk-weaker}
use Rattle.kb_keycheck.proofs.words.assemble.Goals as goal

pub returns : goal.returns
returns c =
    IfOk-weaker c.with.result _ _ (λ made h. h _ _ c.command-command.ensures c.word-file.ensures.rule)
    c.with.ensures
