use Rattle.std.proofs.Common.{sym, arith}
use Rattle.std.proofs.lemmas.List.{take_rest}
use Rattle.kb_jsonc.proofs.PiecesLemmas.{line_comment, block_comment, open_block, lone_slash}
use Rattle.kb_jsonc.proofs.pieces.comment_len.Goals as goal

pub returns-in-47-clause-ok : goal.returns-in-47-clause-ok
returns-in-47-clause-ok c =
    line_comment c.args.bytes.now c.line_len.result c.in-47.len_at_least c.requires (omega arith)
    (sym (simp take_rest at c.line_len.ensures.value)) (simp take_rest at c.line_len.ensures.within)
    (simp take_rest at c.line_len.ensures.end)

pub returns-in-Some-clause-ok : goal.returns-in-Some-clause-ok
returns-in-Some-clause-ok c =
    block_comment c.args.bytes.now c.in-Some.len c.in-42.len_at_least c.requires (omega arith)
    (simp take_rest at (sym c.in-Some.ensures.value)) (simp take_rest at c.in-Some.ensures.within)
    (simp take_rest at c.in-Some.ensures.mark)

pub returns-in_default-block_len-clause-err : goal.returns-in_default-block_len-clause-err
returns-in_default-block_len-clause-err c =
    open_block c.args.bytes.now c.in-42.len_at_least c.requires (omega arith)
    (simp take_rest at (sym c.in_default-block_len.ensures.value))

pub returns-in_default-clause-ok : goal.returns-in_default-clause-ok
returns-in_default-clause-ok c =
    lone_slash c.args.bytes.now c.requires (λ l. absurd (omega arith)) (λ l. absurd (omega arith))

pub returns-in_default-2-clause-ok : goal.returns-in_default-2-clause-ok
returns-in_default-2-clause-ok c =
    lone_slash c.args.bytes.now c.requires (λ l. (omega arith)) (λ l. (omega arith))
