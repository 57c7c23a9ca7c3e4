use Rattle.std.proofs.lemmas.Result.{IfOk-weaker}
use Rattle.kb_keycheck.proofs.words.log.Goals as goal

pub returns : goal.returns
returns c = IfOk-weaker c.with_files.result _ _
    (λ made h. h _ (c.in_ok-with.ensures _ _ c.command-command.ensures c.word-script.ensures.rule))
    c.with_files.ensures
