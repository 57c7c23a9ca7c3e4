use Rattle.std.proofs.Common.{◌∙◌, sym, ap, cond, Some, None, take, is_some, ◌||◌}
use Rattle.kb_handler_table.specs.declared.fault.CodesFault.TheVariants.{AlreadyExists}
use Rattle.kb_handler_table.specs.Live.{handlers_in, is_reserved}
use Rattle.kb_code.specs.Handler.{handler_named}
use Rattle.kb_handler_table.proofs.Taken.{live_here, above_here, free_here, kept_here}
use Rattle.kb_handler_table.proofs.code_table.CodeTable.names_of.Goals as goal
use Rattle.kb_handler_table.proofs.code_table.CodeTable.names_of.Goals.{then-has-via-then-has}
use Rattle.kb_handler_table.proofs.code_table.CodeTable.names_of.Goals.{then-has-via-else-has+then-is_kept}

pub returns-then-has-clause-err : goal.returns-then-has-clause-err
returns-then-has-clause-err c =
    let live = handlers_in c.args.self.now in
    let hs = c.args.handlers.now in
    let i = c.loop-place.place in
    let h = c.index-handlers-place.result in
    let own = c.as_str.ensures ∙ c.command-name.ensures in
    let at = c.index-handlers-place.is in
    ap (λ b. cond b (Some AlreadyExists) None) (sym c.loop-place.invariant.0 ∙
    elim c.then-has.branch [
      | then-has-via-then-has w ↦
          live_here live hs i h c.loop-place-test.true at c.as_str.result.now own (sym c.has.ensures ∙ w.if-has.true)
      | then-has-via-else-has+then-is_kept w ↦
          let own' = w.as_str-else-has.ensures ∙ c.command-name.ensures in
          above_here live hs i h c.loop-place-test.true at w.as_str-else-has.result.now own'
          (sym (ap is_some (c.loop-place.invariant.1 w.as_str-else-has.result.now)) ∙ sym w.is_kept.ensures
          ∙ w.if-is_kept.true)
    ])

pub loop-place-preserved : goal.loop-place-preserved
loop-place-preserved c =
    let live = handlers_in c.args.self.now in
    let hs = c.args.handlers.now in
    let i = c.loop-place.place in
    let h = c.index-handlers-place.result in
    let below = c.loop-place-test.true in
    let at = c.index-handlers-place.is in
    let own = c.as_str-else-has.ensures ∙ c.command-name.ensures in
    let name = c.as_str-else-has.result.now in
    let told = ap (λ n. is_reserved n || is_some (handler_named n live))
    (c.as_str-else-has.ensures ∙ sym c.as_str.ensures)
    ∙ sym c.has.ensures ∙ c.if-has.false in
    let free = sym (ap is_some (c.loop-place.invariant.1 name)) ∙ sym c.is_kept.ensures ∙ c.if-is_kept.false in (
      free_here live hs i h below at name own told free ∙ c.loop-place.invariant.0,
      kept_here live hs i h below at c.in_ok-copied.field-0 (c.in_ok-copied.ensures ∙ c.command-name.ensures)
          c.loop-place.names c.keep.new.self c.loop-place.invariant.1 c.in_ok-keep.ensures
          (ap (λ n. is_some (handler_named n (take i hs))) (c.in_ok-copied.ensures ∙ sym c.as_str-else-has.ensures)
          ∙ free),
    )
