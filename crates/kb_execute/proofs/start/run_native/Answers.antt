use Rattle.std.proofs.Common.{◌≡◌, ◌∙◌, ap, sym, refl, subst, List, [], Option, IfOk, Some, option_map}
use Rattle.serde_json.specs.View.{view}
use Rattle.kb_code.specs.Commands.{Plain}
use Rattle.kb_core.specs.Native.{parameters_of}
use Rattle.kb_core.specs.Reading.{arguments_for}
use Rattle.kb_core.specs.declared.arg.Arg.{Arg}
use Rattle.kb_core.specs.declared.native.Native.{Native}
use Rattle.kb_core.specs.declared.parameter.Param.{Param}
use Rattle.kb_execute.proofs.start.run_native.Goals as goal
use Rattle.kb_execute.specs.Start.{behind, started, started_with}

-- no parameters take no arguments, whatever is given
pub returns-then-is_bare-clause-ok : goal.returns-then-is_bare-clause-ok
returns-then-is_bare-clause-ok g c table =
    let given = option_map (λ v. view v.now) c.args.given in
    let bare : parameters_of c.args.closure.now ≡ [] =
    ap (λ (native : Native). parameters_of native) (sym c.native.ensures) ∙ c.if-is_bare.ensures refl in
    let read : Some c.new.result ≡ arguments_for (parameters_of c.args.closure.now) given =
    ap Some c.new.ensures ∙ sym (ap (λ (params : List Param). arguments_for params given) bare) in
    subst
    (λ (args : Option (List Arg)). IfOk c.run_with.result (λ finish. started c.run_with.new.core c.run_with.new.trace finish
    ≡ behind c.args.trace.now
    (started_with table c.args.command.now (Plain c.args.closure.now) args c.args.core.now))) read
    (c.run_with.ensures.ok table c.args.command.now)
