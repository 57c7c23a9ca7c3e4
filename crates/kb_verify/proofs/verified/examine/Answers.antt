use Rattle.std.proofs.Common.{◌<◌, length, rules, subst}
use Rattle.kb_code.specs.Blocks.{IsFormed}
use Rattle.kb_verify.proofs.Passes.{all_looked}
use Rattle.kb_verify.proofs.verified.examine.Goals as goal

pub cost_within_budget-requires-clause-shapes : goal.cost_within_budget-requires-clause-shapes
cost_within_budget-requires-clause-shapes c = all_looked c.args.callable.now c.args.handler.now c.in_ok-marks.marks.items c.in_ok-marks.ensures

pub shallow_callees-requires-clause-shapes : goal.shallow_callees-requires-clause-shapes
shallow_callees-requires-clause-shapes c = all_looked c.args.callable.now c.args.handler.now c.in_ok-marks.marks.items c.in_ok-marks.ensures

pub returns : goal.returns
returns c =
    let some : 0 < length c.args.handler.now.code = search rules in (
      record {
        formed = subst IsFormed c.code.ensures c.instrs-instrs.ensures.formed;
        some_code = some;
        shapes = all_looked c.args.callable.now c.args.handler.now c.in_ok-marks.marks.items c.in_ok-marks.ensures;
        within_budget = c.in_ok-cost.ensures.0;
        within_depth = c.in_ok-callees.ensures.1;
      },
      c.in_ok-cost.ensures.1,
      c.in_ok-callees.ensures.0,
    )
