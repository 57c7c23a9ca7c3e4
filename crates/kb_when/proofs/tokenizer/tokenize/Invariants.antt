use Rattle.std.proofs.Common.{length}
use Rattle.kb_when.specs.Tokenizer.{tokens_of}
use Rattle.kb_when.proofs.TokenizerLemmas.{LexSoFar}
use Rattle.kb_when.proofs.tokenizer.tokenize.Given as goal

abbrev pub invariant-loop-rest : goal.invariant-loop-rest
invariant-loop-rest l = LexSoFar (tokens_of l.fn.text) l.tokens.items l.spaced l.behind_like l.rest

abbrev pub decreases-loop-rest : goal.decreases-loop-rest
decreases-loop-rest l = length l.rest
