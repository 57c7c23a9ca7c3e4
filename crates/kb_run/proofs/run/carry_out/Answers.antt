use Rattle.std.proofs.Common.{inl, rules}
use Rattle.std.proofs.lemmas.Result.{err_from_is_err_and}
use Rattle.kb_files.specs.SourceFiles.{files_in}
use Rattle.kb_run.proofs.RunLemmas.{files_missing, script_missing}
use Rattle.kb_run.proofs.run.carry_out.Goals as goal

pub returns-in_err-read : goal.returns-in_err-read
returns-in_err-read g c =
    let p = err_from_is_err_and c.from_residual.result c.from_residual.ensures.1 in
    inl (files_missing (g.F.FileSource.held c.args.files.now) c.args.given _ _ p.0 c.in_err-read.field-0.0
    c.in_err-read.ensures.err p.1 p.2 (search rules))

pub returns-in_err-script : goal.returns-in_err-script
returns-in_err-script g c =
    let p = err_from_is_err_and c.from_residual-in_err-script.result c.from_residual-in_err-script.ensures.1 in
    inl (script_missing (g.F.FileSource.held c.args.files.now) g.F.File.Read.remaining c.args.given
    (files_in c.in_ok-read.read) _ _ p.0 c.in_err-script.field-0.0 c.in_ok-read.ensures.ok
    c.in_err-script.ensures p.1 p.2 (search rules))
