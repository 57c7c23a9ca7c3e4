-- Extensions one by one.
use Rattle.std.proofs.Common.{◌≡◌, ◌-◌, ◌<◌, ◌∙◌, ℕ, suc, List, Bool, false, ap, sym, arith}
use Rattle.std.specs.Prelude.{◌||◌}
use Rattle.kb_check_report.specs.Whose.{is_of_extension, is_of_one}
use Rattle.kb_source_files.specs.declared.source_files.SourceFiles.{SourceFiles}

skipped_one : (files : SourceFiles) (ids : List (List ℕ)) (name : List ℕ) (n left : ℕ) (found : Bool) → suc n ≡ left
    → found ≡ is_of_one files ids name n → found ≡ false
    → is_of_extension files ids name n ≡ is_of_extension files ids name left
skipped_one files ids name n left found next is not =
    sym (ap (λ b. b || is_of_extension files ids name n) (sym is ∙ not))
    ∙ ap (is_of_extension files ids name) next

pub skipped : (files : SourceFiles) (ids : List (List ℕ)) (name : List ℕ) (left : ℕ) (found : Bool) → 0 < left
    → found ≡ is_of_one files ids name (left - 1) → found ≡ false
    → is_of_extension files ids name (left - 1) ≡ is_of_extension files ids name left
skipped files ids name left found some is not = skipped_one files ids name (left - 1) left found (grind (arith)) is not

pub ruleset whose = (skipped)
