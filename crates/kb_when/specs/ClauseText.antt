-- The clause that a text denotes, or the fault of the text.
use Rattle.std.specs.Prelude.{◌≡◌, ◌↔◌, ℕ, List, Result, Ok, Some}
use Rattle.kb_base.specs.Reading.{◌>>=◌}
use Rattle.kb_when.specs.declared.token.Token.{Token}
use Rattle.kb_when.specs.declared.fault.WhenFault.{WhenFault}
use Rattle.kb_when.specs.Clause.{Clause}
use Rattle.kb_when.specs.Tokenizer.{tokens_of, tokens_or_fault}
use Rattle.kb_when.specs.Grammar.{IsClause}
use Rattle.kb_when.specs.Reading.{clause_of_tokens}

-- the text has tokens, and by the grammar they denote the clause
pub record StandsFor (text : List ℕ) (t : Clause) : Type 0 where
  pub tokens : List Token
  pub read : tokens_of text ≡ Some tokens
  pub stands : IsClause tokens t

-- the clause of a text, or its fault: `BadToken` takes precedence over the faults of the parser
unfoldable pub clause_in : List ℕ → Result Clause WhenFault
clause_in text = tokens_or_fault text >>= clause_of_tokens

-- the parser returns a clause exactly if the text denotes it by the grammar
abbrev pub ReadsByGrammar : List ℕ → Type 0
ReadsByGrammar text = (t : Clause) → StandsFor text t ↔ (clause_in text ≡ Ok t)
