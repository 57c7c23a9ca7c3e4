-- From the clause of the tokens to the clause of the text.
use Rattle.std.proofs.Common.{◌≡◌, ℕ, List, Some, None, ◌∙◌, ap, Option, Ok, refl}
use Rattle.std.specs.Prelude.{Result}
use Rattle.kb_base.specs.Reading.{◌>>=◌, or_fault}
use Rattle.kb_when.specs.declared.token.Token.{Token}
use Rattle.kb_when.specs.declared.fault.WhenFault.{WhenFault}
use Rattle.kb_when.specs.declared.fault.WhenFault.TheVariants.{BadToken}
use Rattle.kb_when.specs.Clause.{Clause}
use Rattle.kb_when.specs.Tokenizer.{tokens_of}
use Rattle.kb_when.specs.Reading.{clause_of_tokens}
use Rattle.kb_when.specs.ClauseText.{StandsFor, clause_in, ReadsByGrammar}
use Rattle.kb_when.proofs.GrammarLemmas.{read_clause, found_clause, no_ok}

abbrev all : Option (List Token) → Result Clause WhenFault
all o = or_fault BadToken o >>= clause_of_tokens

pub is_read : (text : List ℕ) (t : Clause) → StandsFor text t → clause_in text ≡ Ok t
unfolding clause_in
is_read text t s = ap all s.read ∙ read_clause s.tokens t s.stands

stands_by : (text : List ℕ) (t : Clause) (o : Option (List Token)) → tokens_of text ≡ o → all o ≡ Ok t
    → StandsFor text t
stands_by text t (Some ts) e h = record { tokens = ts; read = e; stands = found_clause ts t h }
stands_by text t None e h = absurd (no_ok h)

pub stands : (text : List ℕ) (t : Clause) → clause_in text ≡ Ok t → StandsFor text t
unfolding clause_in
stands text t h = stands_by text t (tokens_of text) refl h

pub by_grammar : (text : List ℕ) → ReadsByGrammar text
by_grammar text t = (is_read text t, stands text t)

pub only : (text : List ℕ) (t u : Clause) → clause_in text ≡ Ok t → StandsFor text u → u ≡ t
only text t u h s = let p = is_read text u s in cc
