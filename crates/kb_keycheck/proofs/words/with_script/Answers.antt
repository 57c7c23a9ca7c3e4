use Rattle.std.proofs.lemmas.Result.{IfOk-weaker}
use Rattle.kb_keycheck.proofs.words.with_script.Goals as goal

pub returns : goal.returns
returns c = IfOk-weaker c.with_files.result _ _
    (λ made h a is. h _ (c.in_ok-with.ensures a _ is c.file_option-script.ensures.rule)) c.with_files.ensures
