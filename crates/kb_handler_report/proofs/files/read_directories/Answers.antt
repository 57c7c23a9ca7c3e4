use Rattle.std.proofs.Common.{◌≡◌, ◌++◌, ◌∷◌, [], ◌+◌, List, arith, rules, drop, subst, sym}
use Rattle.kb_handler_report.specs.Files.{HasExtensions}
use Rattle.kb_handler_report.specs.declared.extension.ExtensionCode.{ExtensionCode}
use Rattle.kb_handler_report.proofs.FilesLemmas.{extensions_end, extensions_more}
use Rattle.kb_handler_report.proofs.StoppingLemmas.{stops_later}
use Rattle.kb_handler_report.proofs.files.read_directories.Goals as goal

pub loop-dir-preserved : goal.loop-dir-preserved
loop-dir-preserved g c =
    let held = g.F.FileSource.held c.args.files.now in
    let dirs = c.args.dirs.now in
    let i = c.loop-dir.dir-index in
    let before = c.loop-dir.extensions.items in
    let e = c.in_ok-extension.extension in
    let more : c.push.new.self.items ≡ before ++ e ∷ [] = search rules in
    let all = extensions_more held dirs i _ before e (omega arith) c.in_ok-extension.ensures.read
    c.loop-dir.invariant.0 in (
      subst (λ xs. (rest : List ExtensionCode) → HasExtensions held (drop (i + 1) dirs) rest
          → HasExtensions held dirs (xs ++ rest)) (sym more) all,
      λ stop stops. c.loop-dir.invariant.1 stop
          (stops_later held dirs i _ e stop (omega arith) c.in_ok-extension.ensures.read stops),
    )

pub returns-clause-read : goal.returns-clause-read
returns-clause-read g c =
    extensions_end (g.F.FileSource.held c.args.files.now) c.args.dirs.now c.loop-dir.dir-index _
    (omega arith) c.loop-dir.invariant.0
