use Rattle.std.proofs.Common.{◌≡◌, ◌∙◌, inr, sym, subst, arith, rules}
use Rattle.kb_verify.specs.Marks.{FlowsFrom, ComesRound, GoesWrong}
use Rattle.kb_verify.proofs.Edges.{at_place}
use Rattle.kb_verify.proofs.Passes.{skipped, differs_first, round_first, fails_first, looked_on, read_as}
use Rattle.kb_verify.proofs.forward.look.Goals as goal

pub returns-in-Unreached-clause-marked : goal.returns-in-Unreached-clause-marked
returns-in-Unreached-clause-marked c = λ marked.
    let ms = c.args.marks.now.items in
    let has = read_as ms c.args.place c.index.result.now _ (omega (arith, c.requires.size, c.requires.within)) c.index.ensures c.in-Unreached.is in
    skipped c.args.callable.now c.args.handler.now c.args.place ms marked has

pub returns-in-Differs-clause-marked : goal.returns-in-Differs-clause-marked
returns-in-Differs-clause-marked c = λ marked.
    let ms = c.args.marks.now.items in
    let has = read_as ms c.args.place c.index.result.now _ (omega (arith, c.requires.size, c.requires.within)) c.index.ensures c.in-Differs.is in
    inr (differs_first c.args.callable.now c.args.handler.now c.args.place ms marked has)

pub returns-then-not-comes_round-clause-marked : goal.returns-then-not-comes_round-clause-marked
returns-then-not-comes_round-clause-marked c = λ marked.
    let ms = c.args.marks.now.items in
    let h = c.args.handler.now in
    let has = read_as ms c.args.place c.index.result.now _ (omega (arith, c.requires.size, c.requires.within)) c.index.ensures c.in-Has.is in
    inr (round_first c.args.callable.now h c.args.place ms c.in-Has.before marked has
    (subst (λ xs. GoesWrong xs ms c.args.place c.in-Has.before) c.code-code.ensures
    (subst (λ m. GoesWrong c.code-code.result.now m c.args.place c.in-Has.before) c.as_slice.ensures.value
    (c.comes_round.ensures.wrong c.if-not-comes_round.true))))

pub returns-in-Err-clause-marked : goal.returns-in-Err-clause-marked
returns-in-Err-clause-marked c = λ marked.
    let ms = c.args.marks.now.items in
    let h = c.args.handler.now in
    let has = read_as ms c.args.place c.index.result.now _ (omega (arith, c.requires.size, c.requires.within)) c.index.ensures c.in-Has.is in
    let at = at_place h.code c.instrs.result.now c.args.place (c.instrs.ensures.same ∙ c.code-code.ensures) c.requires.within in
    let round = subst (λ xs. ComesRound xs ms c.args.place c.in-Has.before) c.code-code.ensures
    (subst (λ m. ComesRound c.code-code.result.now m c.args.place c.in-Has.before) c.as_slice.ensures.value
    (c.comes_round.ensures.round c.if-not-comes_round.false)) in
    inr (fails_first c.args.callable.now h c.args.place ms c.in-Has.before _ c.in-Err.defect marked has at round (sym c.in-Err.ensures))

pub returns-in-Ok-clause-marked : goal.returns-in-Ok-clause-marked
returns-in-Ok-clause-marked c = λ marked.
    let ms = c.args.marks.now.items in
    let ns = c.flow_from.new.marks.items in
    let h = c.args.handler.now in
    let has = read_as ms c.args.place c.index.result.now _ (omega (arith, c.requires.size, c.requires.within)) c.index.ensures c.in-Has.is in
    let at = at_place h.code c.instrs.result.now c.args.place (c.instrs.ensures.same ∙ c.code-code.ensures) c.requires.within in
    let round = subst (λ xs. ComesRound xs ms c.args.place c.in-Has.before) c.code-code.ensures
    (subst (λ m. ComesRound c.code-code.result.now m c.args.place c.in-Has.before) c.as_slice.ensures.value
    (c.comes_round.ensures.round c.if-not-comes_round.false)) in
    let flows = subst (λ x. FlowsFrom x ms c.in-Ok.after ns) c.exits_at.ensures c.flow_from.ensures.flows in
    looked_on c.args.callable.now h c.args.place ms ns c.in-Has.before c.in-Ok.after _ marked has at round (sym c.in-Ok.ensures) (c.flow_from.ensures.size ∙ c.requires.size) flows
