use Rattle.std.proofs.Common.{◌≡◌, ◌++◌, map, drop}
use Rattle.kb_source_files.specs.declared.source_files.SourceFiles.{SourceFiles}
use Rattle.kb_problems.specs.Opened.{AreOpened}
use Rattle.kb_problems.specs.Placed.{ArePlaced}
use Rattle.kb_problems.specs.declared.cause.Cause.TheVariants.{Warned}
use Rattle.kb_problems.proofs.warnings.warned.Given as goal

-- those so far, and then the warnings that are left; those so far are placed
abbrev pub invariant-loop-warning : goal.invariant-loop-warning
invariant-loop-warning l = record {
  causes : map (λ p. p.cause) l.problems.items ++ map Warned (drop l.warning-index l.warnings)
      ≡ map Warned l.fn.warnings;
  placed : (sources : SourceFiles) → AreOpened sources l.files → ArePlaced sources l.problems.items;
}
