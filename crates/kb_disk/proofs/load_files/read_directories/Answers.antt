use Rattle.std.proofs.Common.{◌≡◌, ◌++◌, ◌∷◌, [], ◌+◌, List, arith, rules, drop, map, subst, sym}
use Rattle.kb_files.specs.Extensions.{ExtensionBytes}
use Rattle.kb_disk.specs.Directory.{HasDirectories}
use Rattle.kb_files.specs.SourceFiles.{bytes_of_extension}
use Rattle.kb_disk.proofs.DirectoryLemmas.{directories_more, directories_end, fails_later}
use Rattle.kb_disk.proofs.load_files.read_directories.Goals as goal

pub loop-dir-preserved : goal.loop-dir-preserved
loop-dir-preserved g c =
    let held = g.F.FileSource.held c.args.files.now in
    let dirs = c.args.dirs.now in
    let i = c.loop-dir.dir-index in
    let before = c.loop-dir.sources.items in
    let got = c.in_ok-read.read in
    let more : c.push.new.self.items ≡ before ++ got ∷ [] = search rules in
    let all = directories_more held bytes_of_extension dirs i _ before got (omega arith) c.in_ok-read.ensures.ok
    c.loop-dir.invariant.0 in (
      subst (λ xs. (rest : List ExtensionBytes) → HasDirectories held (drop (i + 1) dirs) rest
          → HasDirectories held dirs (map bytes_of_extension xs ++ rest)) (sym more) all,
      λ failure why. c.loop-dir.invariant.1 failure
          (fails_later held bytes_of_extension dirs i _ got failure (omega arith) c.in_ok-read.ensures.ok why),
    )

pub returns-clause-ok : goal.returns-clause-ok
returns-clause-ok g c =
    directories_end (g.F.FileSource.held c.args.files.now) c.args.dirs.now c.loop-dir.dir-index _
    (omega arith) c.loop-dir.invariant.0
