use Rattle.std.proofs.Common.{◌≡◌, ◌∙◌, ap, sym, subst, IfOk, Some, None, option_map}
use Rattle.serde_json.specs.View.{view}
use Rattle.kb_registry.specs.Live.{table_of}
use Rattle.kb_execute.proofs.StartLemmas.{native_callee}
use Rattle.kb_execute.proofs.start.start_native.Goals as goal
use Rattle.kb_execute.specs.Start.{behind, started, started_as}

pub returns-in-Some-clause-ok : goal.returns-in-Some-clause-ok
returns-in-Some-clause-ok g c =
    let native = c.in-Some.closure in
    let is = native_callee c.args.command.now c.args.registry.now c.args.native native c.requires
    (sym c.in-Some.ensures.native) in
    subst
    (λ k. IfOk c.run_native.result (λ finish. started c.run_native.new.core c.run_native.new.trace finish
    ≡ behind c.args.trace.now (started_as (table_of c.args.registry.now) c.args.command.now k
    (option_map (λ v. view v.now) c.args.given) c.args.core.now))) (sym is)
    (c.run_native.ensures.ok (table_of c.args.registry.now))
