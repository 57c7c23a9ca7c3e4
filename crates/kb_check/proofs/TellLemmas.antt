-- What the problems of some files tell, by how their load ends.
use Rattle.std.proofs.Common.{◌≡◌, ℕ, List, inl, inr}
use Rattle.std.specs.Prelude.{Ok, Err}
use Rattle.std.specs.List.{filter_map}
use Rattle.kb_base.specs.declared.failure.Failure.TheVariants.{Fault}
use Rattle.kb_files.specs.Inputs.{Files}
use Rattle.kb_bindings.specs.Sources.{enablement, rules_of}
use Rattle.kb_bindings.specs.Warning.{warnings_of}
use Rattle.kb_core.specs.Native.{natives}
use Rattle.kb_files.specs.declared.fault.LoadFault.{LoadFault}
use Rattle.kb_session.specs.Session.{Loads, Seen}
use Rattle.kb_problems.specs.declared.problem.Problem.{Problem}
use Rattle.kb_check.specs.Problems.{IsRefusal, Tells, ids_in, warning_in}
use Rattle.kb_rules.specs.declared.rule.Rule.{Rule}
use Rattle.kb_check.specs.Sound.{AreSound}

pub tells_refusal : (at_rule : Rule → Problem → Type 0) (files : Files) (fault : LoadFault) (ids : List (List ℕ))
    (problems : List Problem) → Loads files natives (Err (Fault fault)) → IsRefusal fault problems
    → Tells at_rule files ids problems
tells_refusal at_rule files fault ids problems refuses only = inl (record {
  fault = fault;
  refuses = refuses;
  only = only;
})

pub tells_warnings : (at_rule : Rule → Problem → Type 0) (files : Files) (session : Seen) (ids : List (List ℕ))
    (problems : List Problem) → Loads files natives (Ok session) → ids ≡ ids_in session.state.sources
    → filter_map warning_in problems ≡ warnings_of session.state.sources
    → AreSound at_rule (enablement session.state.sources) (rules_of session.state.sources) problems
    → Tells at_rule files ids problems
tells_warnings at_rule files session ids problems accepts named warnings sound = inr (record {
  session = session;
  accepts = accepts;
  named = named;
  warnings = warnings;
  sound = sound;
})
