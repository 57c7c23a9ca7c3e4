-- Whether a text is a `handlers.json` of handlers as a text of assembly has them.
use Rattle.std.specs.Prelude.{◌≡◌, ℕ, List, [], ◌∷◌, Option, Some, None, Ok, length}
use Rattle.kb_assembly.specs.declared.draft.Draft.{Draft}
use Rattle.kb_assembly.specs.Draft.{handler_draft}
use Rattle.kb_code.specs.Handler.{HandlerData}
use Rattle.kb_files.specs.HandlerFile.{handlers_in}
use Rattle.kb_verify.specs.Accepted.{IsAccepted}
use Rattle.kb_verify.specs.Callable.{Commands}
use Rattle.kb_verify.specs.Paths.{IsDearestCost}
use Rattle.kb_assembly_report.specs.Choice.{IsLeastDepth, IsSettled, commands_of}

-- a number, unless it was left out
abbrev pub kept : Option ℕ → ℕ → Option ℕ
kept None number = None
kept (Some given) number = Some number

-- a handler as a text has it that leaves out what another one leaves out
abbrev pub like : Draft → HandlerData → Draft
like given h = record (handler_draft h) {
  budget = kept given.budget h.signature.budget;
  depth = kept given.depth h.signature.depth;
}

abbrev pub all_like : List Draft → List HandlerData → List Draft
all_like [] hs = []
all_like (given ∷ ds) [] = []
all_like (given ∷ ds) (h ∷ hs) = like given h ∷ all_like ds hs

-- handlers, one for each of a text, have all that the text doesn't leave out
pub record IsReadAs (drafts : List Draft) (hs : List HandlerData) : Type 0 where
  pub count : length drafts ≡ length hs
  pub same : drafts ≡ all_like drafts hs

-- what a text leaves out of each handler is as small as may be
abbrev pub AreSettled : Commands → List Draft → List HandlerData → Type 0
AreSettled commands [] hs = Unit {0}
AreSettled commands (given ∷ ds) [] = Unit {0}
AreSettled commands (given ∷ ds) (h ∷ hs) = IsSettled commands given h × AreSettled commands ds hs

-- Handlers are those of a text. Those whose budget was left out are accepted by a load of an extension
-- without dependencies, and with no smaller budget; no smaller depth would do for those whose depth was left
-- out.
pub record AreRight (drafts : List Draft) (hs : List HandlerData) : Type 0 where
  pub same : IsReadAs drafts hs
  pub settled : AreSettled (commands_of hs) drafts hs

-- a file is read as handlers that are right
pub record IsFileOf (drafts : List Draft) (text : List ℕ) : Type 0 where
  pub handlers : List HandlerData
  pub read : handlers_in text ≡ Ok handlers
  pub right : AreRight drafts handlers

-- ---- for private functions

-- a handler whose budget was left out is accepted, and with no smaller one
pub record IsCheapest (commands : Commands) (given : Draft) (h : HandlerData) : Type 0 where
  pub accepted : given.budget ≡ None → IsAccepted commands h
  pub dearest : given.budget ≡ None → IsDearestCost commands h h.signature.budget

-- no smaller depth would do for a handler whose depth was left out
abbrev pub IsShallowest : Commands → Draft → HandlerData → Type 0
IsShallowest commands given h = given.depth ≡ None → IsLeastDepth commands h h.signature.depth
