use Rattle.std.proofs.Common.{arith}
use Rattle.std.proofs.lemmas.Bool.Decides.{nat_tests}
use Rattle.kb_when.proofs.TokenizerLemmas.{word_shorter}
use Rattle.kb_when.proofs.tokenizer.word.Goals as goal

pub returns-clause-shorter : goal.returns-clause-shorter
returns-clause-shorter c =
    word_shorter _ _ _ c.split_run.ensures.front c.split_run.ensures.rest
    (λ e. grind (arith, nat_tests, e, c.is_empty.ensures, c.if-is_empty.false))
