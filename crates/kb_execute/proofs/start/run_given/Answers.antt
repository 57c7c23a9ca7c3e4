use Rattle.std.proofs.Common.{◌≡◌, ◌∙◌, ap, sym, subst, List, Option, IfOk, Some, option_map}
use Rattle.serde_json.specs.View.{view}
use Rattle.kb_code.specs.Commands.{Plain}
use Rattle.kb_core.specs.Native.{parameters_of}
use Rattle.kb_core.specs.Reading.{arguments_for}
use Rattle.kb_core.specs.declared.arg.Arg.{Arg}
use Rattle.kb_core.specs.declared.native.Native.{Native}
use Rattle.kb_execute.proofs.start.run_given.Goals as goal
use Rattle.kb_execute.specs.Start.{behind, started, started_with}

pub returns-clause-ok : goal.returns-clause-ok
returns-clause-ok g c table =
    let given = option_map (λ v. view v.now) c.args.given in
    let read : Some c.in-Some.args ≡ arguments_for (parameters_of c.args.closure.now) given =
    sym c.in-Some.is ∙ c.in_ok-args.ensures.value
    ∙ ap (λ (native : Native). arguments_for (parameters_of native) given) c.native.ensures in
    subst
    (λ (args : Option (List Arg)). IfOk c.run_with.result (λ finish. started c.run_with.new.core c.run_with.new.trace finish
    ≡ behind c.args.trace.now
    (started_with table c.args.command.now (Plain c.args.closure.now) args c.args.core.now))) read
    (c.run_with.ensures.ok table c.args.command.now)
