use Rattle.std.proofs.Common.{arith}
use Rattle.std.proofs.lemmas.Result.{err_from_is_err_and}
use Rattle.kb_files.proofs.ExtensionsLemmas.{files_next, files_fail}
use Rattle.kb_files.proofs.extensions.read_each.Goals as goal

pub returns-in_err-extension-clause-read : goal.returns-in_err-extension-clause-read
returns-in_err-extension-clause-read c =
    let p = err_from_is_err_and c.from_residual.result c.from_residual.ensures.1 in
    rw (p.1, p.2)
    (files_fail c.args.platform c.args.extensions.now c.loop-bytes.bytes-index _ _ _ _
    (omega arith) c.loop-bytes.invariant.0 c.in_err-extension.ensures.read)

pub loop-bytes-preserved : goal.loop-bytes-preserved
loop-bytes-preserved c = (
  rw c.in_ok-push.ensures
      (files_next c.args.platform c.args.extensions.now c.loop-bytes.bytes-index _ _ _ _ _
      (omega arith) c.loop-bytes.invariant.0 c.in_ok-extension.ensures.read
      c.in_ok-extension.ensures.right),
  omega (arith, c.loop-bytes.invariant.1),
)
