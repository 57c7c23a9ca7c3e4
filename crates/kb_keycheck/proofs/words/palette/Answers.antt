use Rattle.std.proofs.lemmas.Result.{IfOk-weaker}
use Rattle.kb_keycheck.proofs.words.palette.Goals as goal

pub returns : goal.returns
returns c =
    let query = c.in_ok-with.ensures _ _ c.command-command.ensures c.word-query.ensures.rule in
    IfOk-weaker c.with_script.result _ _
    (λ made h. h _ (c.in_ok-with-2.ensures _ _ query c.valued_option-id.ensures.rule)) c.with_script.ensures
