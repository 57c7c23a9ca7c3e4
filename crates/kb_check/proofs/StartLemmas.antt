-- One more problem that says that a rule can never start.
use Rattle.std.proofs.Common.{◌≡◌, ◌∙◌, ap, refl, sym, subst, List, [], ◌∷◌, ◌++◌, Bool, true, false, cond, ℕ, arith}
use Rattle.std.proofs.Common.{append-nil, get_or, map, suc}
use Rattle.std.specs.Prelude.{All, Some, slice_get}
use Rattle.std.proofs.lemmas.List.Elements.{All-push, filter-append}
use Rattle.kb_base.specs.declared.note.Warning.{Warning}
use Rattle.kb_lints.specs.Hidden.{Hides}
use Rattle.kb_lints.specs.declared.hidden.Hiding.{Hiding}
use Rattle.kb_resolve.specs.Enablements.{Enabling}
use Rattle.kb_rules.specs.declared.rule.Rule.{Rule}
use Rattle.kb_problems.specs.declared.cause.Cause.TheVariants.{Warned}
use Rattle.kb_problems.specs.declared.problem.Problem.{Problem}
use Rattle.kb_problems.specs.Opened.{AreOpened, IsAtOpened}
use Rattle.kb_problems.specs.Placed.{IsAtRule}
use Rattle.kb_problems.specs.declared.opened.OpenedFiles.{OpenedFiles}
use Rattle.kb_source_files.specs.declared.source_files.SourceFiles.{SourceFiles}
use Rattle.kb_problems.specs.Starts.{never_said, says_never}
use Rattle.kb_check.specs.Sound.{AreSound, NeverStarts}
use Rattle.kb_check.proofs.CauseLemmas.{warnings_told, warnings_wanted}

-- one that may say so, of a rule that can never start
module _ (at_rule : Rule → Problem → Type 0) (enablement : Enabling) (in_force : List Rule) where
  onto : (b : Bool) (said : List Problem) (p : Problem) → All (NeverStarts at_rule enablement in_force) said
      → NeverStarts at_rule enablement in_force p → All (NeverStarts at_rule enablement in_force) (said ++ cond b (p ∷ []) [])
  onto true said p all one = All-push (NeverStarts at_rule enablement in_force) said p all one
  onto false said p all one = subst (All (NeverStarts at_rule enablement in_force)) (sym (append-nil said)) all

  pub never_adds : (ps : List Problem) (p : Problem) → AreSound at_rule enablement in_force ps
      → NeverStarts at_rule enablement in_force p → AreSound at_rule enablement in_force (ps ++ p ∷ [])
  never_adds ps p all one =
      subst (All (NeverStarts at_rule enablement in_force)) (sym (filter-append (λ q. says_never q.cause) ps (p ∷ [])))
      (onto (says_never p.cause) (never_said ps) p all one)

  pub hidden_adds : (how : Hiding) (ps : List Problem) (p : Problem) (position by : ℕ) (rule : Rule)
      → Hides how enablement in_force position by → AreSound at_rule enablement in_force ps
      → slice_get in_force position ≡ Some rule → at_rule rule p
      → AreSound at_rule enablement in_force (ps ++ p ∷ [])
  hidden_adds how ps p position by rule hides all at placed = never_adds ps p all (record {
    how = how;
    position = position;
    by = by;
    rule = rule;
    at = at;
    placed = placed;
    never = hides;
  })

  -- the problems behind the first
  pub others_sound : (p : Problem) (ps : List Problem) → AreSound at_rule enablement in_force (p ∷ ps)
      → AreSound at_rule enablement in_force ps
  others_sound p ps all = rest (says_never p.cause) (never_said ps) all
    where
      rest : (b : Bool) (said : List Problem) → All (NeverStarts at_rule enablement in_force) (cond b (p ∷ said) said)
          → All (NeverStarts at_rule enablement in_force) said
      rest true said all = λ k d below. all (suc k) d (omega (arith, below))
      rest false said all = all

  -- the first of some sound problems behind others
  pub sound_adds : (ps : List Problem) (p : Problem) (rest : List Problem)
      → AreSound at_rule enablement in_force (p ∷ rest) → AreSound at_rule enablement in_force ps
      → AreSound at_rule enablement in_force (ps ++ p ∷ [])
  sound_adds ps p rest left all =
      subst (All (NeverStarts at_rule enablement in_force)) (sym (filter-append (λ q. says_never q.cause) ps (p ∷ [])))
      (joined (says_never p.cause) (never_said rest) (never_said ps) left all)
    where
      joined : (b : Bool) (said front : List Problem) → All (NeverStarts at_rule enablement in_force) (cond b (p ∷ said) said)
          → All (NeverStarts at_rule enablement in_force) front → All (NeverStarts at_rule enablement in_force) (front ++ cond b (p ∷ []) [])
      joined true said front left all =
          All-push (NeverStarts at_rule enablement in_force) front p all (left 0 p (omega arith))
      joined false said front left all = subst (All (NeverStarts at_rule enablement in_force)) (sym (append-nil front)) all

  -- warnings say nothing of rules
  warned_said : (ws : List Warning) (ps : List Problem) → map (λ p. p.cause) ps ≡ map Warned ws
      → never_said ps ≡ []
  warned_said [] [] e = refl
  warned_said [] (p ∷ ps) e = cc
  warned_said (w ∷ ws) [] e = cc
  warned_said (w ∷ ws) (p ∷ ps) e =
      let first : p.cause ≡ Warned w = cc in
      let others : map (λ p. p.cause) ps ≡ map Warned ws = cc in
      ap (λ (b : Bool). cond b (p ∷ never_said ps) (never_said ps)) (ap says_never first)
      ∙ warned_said ws ps others

  pub warnings_sound : (ps : List Problem) (ws : List Warning) → map (λ p. p.cause) ps ≡ map Warned ws
      → AreSound at_rule enablement in_force ps
  warnings_sound ps ws e =
      subst (All (NeverStarts at_rule enablement in_force)) (sym (warned_said ws ps e)) none_of
    where
      none_of : All (NeverStarts at_rule enablement in_force) []
      none_of k d below = absurd (omega (arith, below))

  -- none says so
  pub none_said : AreSound at_rule enablement in_force []
  none_said k d below = absurd (omega (arith, below))

-- the same rules in the files of which those that were opened are
pub sound_in_files : (files : SourceFiles) (opened : OpenedFiles) (enablement : Enabling) (in_force : List Rule)
    (ps : List Problem) → AreOpened files opened → AreSound (IsAtOpened opened) enablement in_force ps
    → AreSound (IsAtRule files) enablement in_force ps
sound_in_files files opened enablement in_force ps are all = λ k d below. moved (get_or (never_said ps) k d) (all k d below)
  where
    moved : (p : Problem) → NeverStarts (IsAtOpened opened) enablement in_force p
        → NeverStarts (IsAtRule files) enablement in_force p
    moved p one = record {
      how = one.how;
      position = one.position;
      by = one.by;
      rule = one.rule;
      at = one.at;
      placed = one.placed.of_files files are;
      never = one.never;
    }

pub ruleset warning = (warnings_told, warnings_wanted, warnings_sound)
