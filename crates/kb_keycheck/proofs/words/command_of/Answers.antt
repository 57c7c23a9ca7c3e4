use Rattle.std.proofs.lemmas.Result.{IfOk-weaker}
use Rattle.kb_keycheck.proofs.words.command_of.Goals as goal

pub returns : goal.returns
returns c =
    let check = c.in_ok-command.ensures _ _ c.in_ok-bare.ensures c.in_ok-check.ensures in
    let explain = c.in_ok-command-2.ensures _ _ check c.in_ok-explain.ensures in
    let list = c.in_ok-command-3.ensures _ _ explain c.in_ok-list.ensures in
    let context = c.in_ok-command-4.ensures _ _ list c.in_ok-context.ensures in
    let palette = c.in_ok-command-5.ensures _ _ context c.in_ok-palette.ensures in
    let log = c.in_ok-command-6.ensures _ _ palette c.in_ok-log.ensures in
    let handlers = c.in_ok-command-7.ensures _ _ log c.in_ok-handlers.ensures in
    let assemble = c.in_ok-command-8.ensures _ _ handlers c.in_ok-assemble.ensures in
    IfOk-weaker c.with_subcommand-9.result _ _ (λ made h. h _ _ assemble c.in_ok-disassemble.ensures)
    c.with_subcommand-9.ensures
