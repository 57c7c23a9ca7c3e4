use Rattle.std.proofs.Common.{sym, ◌∙◌, rules}
use Rattle.kb_palette.proofs.HistoryLemmas.{after-found, after-absent, after-put-text}
use Rattle.kb_palette.proofs.history.History.note.Goals as goal

pub invariant_of-self : goal.invariant_of-self
invariant_of-self c =
    let there = sym c.promote.ensures.value ∙ c.if-promote.true in
    (after-found c.args.command.now _ _ c.promote.ensures.entries c.self.invariant there).0

pub returns-then-promote-clause-ok : goal.returns-then-promote-clause-ok
returns-then-promote-clause-ok c =
    let there = sym c.promote.ensures.value ∙ c.if-promote.true in
    rw (← c.self.view_is)
    ((after-found c.args.command.now _ _ c.promote.ensures.entries c.self.invariant there).1)

pub invariant_of-self-in_err-choice : goal.invariant_of-self-in_err-choice
invariant_of-self-in_err-choice c =
    let absent = sym c.promote.ensures.value ∙ c.if-promote.false in
    rw (after-absent c.args.command.now _ _ c.promote.ensures.entries absent) c.self.invariant

pub returns-in_err-choice-clause-err : goal.returns-in_err-choice-clause-err
returns-in_err-choice-clause-err c =
    let absent = sym c.promote.ensures.value ∙ c.if-promote.false in
    rw (after-absent c.args.command.now _ _ c.promote.ensures.entries absent, c.self.view_is) (search rules)

pub invariant_of-self-in_err-put : goal.invariant_of-self-in_err-put
invariant_of-self-in_err-put c =
    let absent = sym c.promote.ensures.value ∙ c.if-promote.false in
    let same = after-absent c.args.command.now _ _ c.promote.ensures.entries absent in
    rw (c.in_err-put.ensures.err, same) c.self.invariant

pub returns-in_err-put-clause-err : goal.returns-in_err-put-clause-err
returns-in_err-put-clause-err c =
    let absent = sym c.promote.ensures.value ∙ c.if-promote.false in
    let same = after-absent c.args.command.now _ _ c.promote.ensures.entries absent in
    rw (c.in_err-put.ensures.err, same, c.self.view_is) (search rules)

pub invariant_of-self-2 : goal.invariant_of-self-2
invariant_of-self-2 c =
    let absent = sym c.promote.ensures.value ∙ c.if-promote.false in
    let same = after-absent c.args.command.now _ _ c.promote.ensures.entries absent in
    (after-put-text c.args.command.now c.in_ok-choice.choice _ _ _ c.in_ok-choice.ensures.ok
    c.in_ok-put.ensures.entries (rw same c.self.invariant) (rw same absent)).0

pub returns-clause-ok : goal.returns-clause-ok
returns-clause-ok c =
    let absent = sym c.promote.ensures.value ∙ c.if-promote.false in
    let same = after-absent c.args.command.now _ _ c.promote.ensures.entries absent in
    let put = (after-put-text c.args.command.now c.in_ok-choice.choice _ _ _ c.in_ok-choice.ensures.ok
    c.in_ok-put.ensures.entries (rw same c.self.invariant) (rw same absent)).1 in
    rw (same, c.self.view_is) at put
