use Rattle.std.proofs.lemmas.Result.{err_from_is_err_and}
use Rattle.kb_files.proofs.ExtensionLemmas.{extension_read, extension_fails, right_still}
use Rattle.kb_files.proofs.extension_file.read_extension.Goals as goal

pub returns-in_err-contents-clause-read : goal.returns-in_err-contents-clause-read
returns-in_err-contents-clause-read c =
    let p = err_from_is_err_and c.from_residual.result c.from_residual.ensures.1 in
    rw (p.1, p.2) (extension_fails c.args.number c.args.platform c.args.bytes.now
    c.in_err-contents.field-0.0 c.in_err-contents.ensures.read)

pub returns-clause-read : goal.returns-clause-read
returns-clause-read c =
    extension_read c.args.number c.args.platform c.args.bytes.now c.in_ok-contents.contents
    c.in_ok-extension.extension c.in_ok-contents.ensures.read c.in_ok-extension.ensures.read

pub returns-clause-right : goal.returns-clause-right
returns-clause-right c = (
  c.in_ok-extension.ensures.right,
  right_still c.args.number c.args.platform c.args.bytes.now c.in_ok-contents.contents
      c.in_ok-extension.extension c.in_ok-contents.ensures.read c.in_ok-extension.ensures.read
      c.in_ok-contents.ensures.right,
)
