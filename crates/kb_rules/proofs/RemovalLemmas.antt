-- The test of a removal says exactly which rules it takes.
use Rattle.std.proofs.Common.{◌≡◌, List, Bool, ◌&&◌, Option, Some, None, Decides, refl, ap, sym}
use Rattle.std.proofs.Common.{◌∙◌, is_some, unwrap_or}
use Rattle.std.specs.Str.{bytes_eq}
use Rattle.std.proofs.lemmas.Bool.{false≢true}
use Rattle.std.proofs.lemmas.Bool.Decides.{Decides-and}
use Rattle.std.proofs.lemmas.Slice.Eq.{bytes_eq-Decides, slice_eq-Decides}
use Rattle.kb_keys.specs.declared.keystroke.Keystroke.{Keystroke}
use Rattle.kb_keys.specs.Chord.{same_keys}
use Rattle.kb_keys.proofs.KeystrokeLemmas.{same_stroke-Decides}
use Rattle.kb_when.specs.Clause.{Clause}
use Rattle.kb_when.specs.Marks.{MarkedClause}
use Rattle.kb_when.proofs.SameLemmas.{same-Decides}
use Rattle.kb_rules.specs.declared.removal.Removal.{Removal}
use Rattle.kb_rules.specs.declared.rule.Rule.{Rule}
use Rattle.kb_rules.specs.Unread.{tree_in}
use Rattle.kb_rules.specs.Removal.{Takes, takes, fits_keys, fits_clause}

none_is_some : {A : Type 0} {x : A} → None ≡ Some x → ⊥
none_is_some e = false≢true (ap is_some e)

of_some : {A : Type 0} (x y : A) → Some x ≡ Some y → x ≡ y
of_some x y e = ap (λ o. unwrap_or o x) e

same_keys-Decides : (one other : List Keystroke) → Decides (same_keys one other) (one ≡ other)
same_keys-Decides one other = slice_eq-Decides same_stroke-Decides one other (same_keys one other) refl

fits_keys-Decides : (named : Option (List Keystroke)) (chord : List Keystroke)
    → Decides (fits_keys named chord) ((keys : List Keystroke) → named ≡ Some keys → chord ≡ keys)
fits_keys-Decides None chord = (λ h keys e. absurd (none_is_some e), λ f. refl)
fits_keys-Decides (Some own) chord = (
  λ h keys e. sym ((same_keys-Decides own chord).0 h) ∙ of_some own keys e,
  λ f. (same_keys-Decides own chord).1 (sym (f own refl)),
)

fits_clause-Decides : (named : Option MarkedClause) (when : Option MarkedClause)
    → Decides (fits_clause named when)
    ((tree : Clause) → tree_in named ≡ Some tree → tree_in when ≡ Some tree)
fits_clause-Decides None when = (λ h tree e. absurd (none_is_some e), λ f. refl)
fits_clause-Decides (Some own) None =
    (λ h tree e. absurd (false≢true h), λ f. absurd (none_is_some (f own.tree refl)))
fits_clause-Decides (Some own) (Some when) = (
  λ h tree e. ap Some (sym ((same-Decides own.tree when.tree).0 h) ∙ of_some own.tree tree e),
  λ f. (same-Decides own.tree when.tree).1 (sym (of_some when.tree own.tree (f own.tree refl))),
)

-- the test of a removal says exactly which rules it takes
pub takes-Decides : (removal : Removal) (rule : Rule) → Decides (takes removal rule) (Takes removal rule)
takes-Decides removal rule =
    let d = Decides-and (bytes_eq removal.command rule.command)
    (fits_keys removal.chord rule.chord && fits_clause removal.when rule.when)
    (bytes_eq-Decides removal.command rule.command)
    (Decides-and (fits_keys removal.chord rule.chord) (fits_clause removal.when rule.when)
    (fits_keys-Decides removal.chord rule.chord) (fits_clause-Decides removal.when rule.when)) in (
      λ h. record { command = (d.0 h).0; keystrokes = (d.0 h).1.0; clause = (d.0 h).1.1 },
      λ t. d.1 (t.command, (t.keystrokes, t.clause)),
    )

-- an answer that is the test's
pub takes_exact : (b : Bool) (removal : Removal) (rule : Rule) → b ≡ takes removal rule
    → Decides b (Takes removal rule)
takes_exact b removal rule e =
    (λ h. (takes-Decides removal rule).0 (sym e ∙ h), λ t. e ∙ (takes-Decides removal rule).1 t)
