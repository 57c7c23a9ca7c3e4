use Rattle.std.proofs.Common.{sym, subst}
use Rattle.serde_json.specs.View.{view}
use Rattle.kb_base.specs.Failure.{Fails}
use Rattle.kb_base.specs.declared.failure.Failure.{Failure}
use Rattle.kb_base.specs.declared.refusal.Refusal.{Refusal}
use Rattle.kb_manifest.specs.Manifest.{Told, seen_package, told_by}
use Rattle.kb_files.specs.Extension.{package_in}
use Rattle.kb_files.proofs.ExtensionLemmas.{package_read, package_fails}
use Rattle.kb_files.proofs.extension_file.read_package.Goals as goal

pub returns-in-Ok-clause-read : goal.returns-in-Ok-clause-read
returns-in-Ok-clause-read c =
    package_read c.args.origin (told_by c.args.origin c.in-Ok.contents.manifest) c.args.bytes.now
    (view c.in_ok-value.value) (seen_package c.in-Ok.contents) c.in_ok-value.ensures c.in-Ok.ensures.read

pub returns-in-Err-clause-read : goal.returns-in-Err-clause-read
returns-in-Err-clause-read c =
    subst (λ (failure : Failure Refusal). (told : Told)
    → Fails failure (package_in c.args.origin told c.args.bytes.now))
    (sym c.shape_failure.ensures)
    (package_fails c.args.origin c.args.bytes.now (view c.in_ok-value.value) c.in-Err.failure
    c.in_ok-value.ensures c.in-Err.ensures.read)
