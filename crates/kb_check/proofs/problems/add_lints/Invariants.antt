use Rattle.std.proofs.Common.{◌≡◌, List}
use Rattle.std.specs.List.{filter_map}
use Rattle.std.specs.Vec.Iter.{into_iter_items}
use Rattle.kb_resolve.specs.Enablements.{Enabling}
use Rattle.kb_rules.specs.declared.rule.Rule.{Rule}
use Rattle.kb_source_files.specs.declared.source_files.SourceFiles.{SourceFiles}
use Rattle.kb_problems.specs.Placed.{ArePlaced, IsAtRule}
use Rattle.kb_check.specs.Problems.{AreWanted, warning_in}
use Rattle.kb_check.specs.Sound.{AreSound}
use Rattle.kb_check.proofs.problems.add_lints.Given as goal

-- the same warnings as before, lints that are looked for, places as before, and rules that can never start if those
-- left and those before are such
abbrev pub invariant-loop-lint : goal.invariant-loop-lint
invariant-loop-lint l = record {
  warnings : filter_map warning_in l.problems.items ≡ filter_map warning_in l.fn.problems.items;
  wanted : AreWanted l.choices l.fn.problems.items → AreWanted l.choices l.problems.items;
  placed : (files : SourceFiles) → ArePlaced files l.fn.problems.items → ArePlaced files l.problems.items;
  left : (files : SourceFiles) (enablement : Enabling) (rules : List Rule)
      → AreSound (IsAtRule files) enablement rules l.fn.lints.items
      → AreSound (IsAtRule files) enablement rules (into_iter_items l.lint-iterator);
  sound : (files : SourceFiles) (enablement : Enabling) (rules : List Rule)
      → AreSound (IsAtRule files) enablement rules l.fn.lints.items
      → AreSound (IsAtRule files) enablement rules l.fn.problems.items
      → AreSound (IsAtRule files) enablement rules l.problems.items;
}
