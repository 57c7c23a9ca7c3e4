use Rattle.std.proofs.lemmas.Result.{IfOk-weaker}
use Rattle.kb_keycheck.proofs.words.list.Goals as goal

pub returns : goal.returns
returns c =
    let key = c.in_ok-with.ensures _ _ c.command-command.ensures c.valued_option-key.ensures.rule in
    let id = c.in_ok-with-2.ensures _ _ key c.valued_option-id.ensures.rule in
    IfOk-weaker c.with_script.result _ _
    (λ made h. h _ (c.in_ok-command.ensures _ _ id c.unbound_option.ensures.rule)) c.with_script.ensures
