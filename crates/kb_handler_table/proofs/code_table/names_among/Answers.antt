use Rattle.std.proofs.Common.{◌∙◌, ◌+◌, [], sym, ap, is_some, take, subst}
use Rattle.kb_code.specs.Handler.{handler_named}
use Rattle.kb_handler_table.specs.Group.{FindsFirst}
use Rattle.kb_handler_table.proofs.Taken.{kept_here, skipped_here}
use Rattle.kb_handler_table.proofs.code_table.names_among.Goals as goal
use Rattle.kb_handler_table.proofs.code_table.names_among.Goals.{then-not-is_kept+in_ok-copied+in_ok-keep}
use Rattle.kb_handler_table.proofs.code_table.names_among.Goals.{else-not-is_kept}

pub loop-place-preserved : goal.loop-place-preserved
loop-place-preserved c =
    let hs = c.args.handlers.now in
    let i = c.loop-place.place in
    let h = c.index-handlers-place.result in
    let name = c.as_str.result.now in
    let own = c.as_str.ensures ∙ c.command-name.ensures in
    let is_there = sym (ap is_some (c.loop-place.invariant name)) ∙ sym c.is_kept.ensures in
    elim c.if-not-is_kept.branch [
      | then-not-is_kept+in_ok-copied+in_ok-keep w ↦
          subst (λ names. FindsFirst names hs (take (i + 1) hs)) (sym w.names-is)
          (kept_here [] hs i h c.loop-place-test.true c.index-handlers-place.is w.in_ok-copied.field-0
          (w.in_ok-copied.ensures ∙ c.command-name.ensures) c.loop-place.names w.keep.new.self
          c.loop-place.invariant w.in_ok-keep.ensures
          (ap (λ n. is_some (handler_named n (take i hs))) (w.in_ok-copied.ensures ∙ sym c.as_str.ensures)
          ∙ is_there ∙ w.if-not-is_kept.true))
      | else-not-is_kept w ↦
          subst (λ names. FindsFirst names hs (take (i + 1) hs)) (sym w.names-is)
          (skipped_here [] hs i h c.loop-place-test.true c.index-handlers-place.is name own c.loop-place.names
          c.loop-place.invariant (is_there ∙ w.if-not-is_kept.false))
    ]
