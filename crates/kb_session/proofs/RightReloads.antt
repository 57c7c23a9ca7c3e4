-- The marks of the rules that a reload brings.
use Rattle.std.proofs.Common.{◌≡◌, ℕ, List, [], None, Result, Ok, Err, sym, subst}
use Rattle.std.specs.Prelude.{IfOk}
use Rattle.serde_json.specs.Data.{Data}
use Rattle.kb_base.specs.Reading.{seen}
use Rattle.kb_base.specs.declared.note.EntryPattern.{EntryPattern}
use Rattle.kb_base.specs.declared.note.Origin.TheVariants.{User}
use Rattle.kb_base.specs.declared.refusal.Refusal.{Refusal}
use Rattle.kb_files.specs.RuleFile.{elements_held, rules_by, rules_in}
use Rattle.kb_rules.proofs.RightMarks.{right_marks}
use Rattle.kb_rules.specs.RuleList.{AreRightlyMarked, Listed}
use Rattle.kb_session.specs.State.{IsRightlyTold, reload}

-- what was read is marked as its patterns are
pub told_rightly : (bytes : List ℕ) (user : Listed) → rules_in user.unread User bytes ≡ Ok user
    → AreRightlyMarked user → IsRightlyTold (reload bytes user.unread)
told_rightly bytes user is right = subst (λ (r : Result Listed Refusal). IfOk r AreRightlyMarked) (sym is) right

-- a file that is refused has no patterns
pub told_refused : (bytes : List ℕ) (marks : List EntryPattern) (refusal : Refusal)
    → rules_in marks User bytes ≡ Err refusal → IsRightlyTold (reload bytes marks)
told_refused bytes marks refusal is = subst (λ (r : Result Listed Refusal). IfOk r AreRightlyMarked) (sym is) tt

pub ruleset marking = (told_rightly, told_refused)

-- each file has right marks
right_held : (held : Result (List Data) Refusal)
    → (marks : List EntryPattern) × IfOk (seen (rules_by marks User) held) AreRightlyMarked
right_held (Ok elements) = right_marks User None elements
right_held (Err refusal) = ([], tt)

pub right_reload : (bytes : List ℕ) → (marks : List EntryPattern) × IsRightlyTold (reload bytes marks)
unfolding rules_in
right_reload bytes = right_held (elements_held bytes)
