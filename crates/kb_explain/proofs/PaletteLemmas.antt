-- Why the palette doesn't list a command.
use Rattle.std.proofs.Common.{◌≡◌, ℕ, List, [], ◌∷◌, Option, None, Some, refl, sym, ap, ◌∙◌, subst}
use Rattle.std.specs.Prelude.{option_map}
use Rattle.std.specs.Option.{unwrap_or}
use Rattle.kb_explain.specs.Cause.{cause_data, literal, never, shown, CauseData, IsCauseOf}
use Rattle.kb_explain.specs.declared.cause.Cause.{Cause}
use Rattle.kb_explain.specs.declared.cause.Cause.TheVariants.{Never}
use Rattle.kb_context.specs.Scopes.{Keys}
use Rattle.kb_explain.specs.Palette.{first_named, led, named_alone, IsCauseOfItems, IsWhy, IsWhyAbsent, IsWhyUnfound}
use Rattle.kb_explain.specs.declared.palette.Unlisted.{Unlisted}
use Rattle.kb_files.specs.declared.extension_file.Extension.{Extension}
use Rattle.kb_palette.specs.Command.{CommandData}
use Rattle.kb_when.specs.Marks.{MarkedClause}

-- ---- the command of the palette

module _ (keys : Keys) (query name : List ℕ) (commands : List CommandData) (extension : Option Extension)
    (unlisted : Unlisted) where
  pub why_of_one : (c : CommandData) → named_alone name commands ≡ c ∷ []
      → IsWhyUnfound keys query c unlisted → IsWhy keys query (named_alone name commands) extension unlisted
  why_of_one c e why = subst (λ (alone : List CommandData). IsWhy keys query alone extension unlisted) (sym e) why

  pub why_of_none : named_alone name commands ≡ []
      → IsWhyAbsent extension unlisted → IsWhy keys query (named_alone name commands) extension unlisted
  why_of_none e why = subst (λ (alone : List CommandData). IsWhy keys query alone extension unlisted) (sym e) why

-- ---- causes of items

led_by_two : (first : Option CauseData) (c d : CauseData) → led (shown first (Some c)) d ≡ led first (first_named c d)
led_by_two None c d = refl
led_by_two (Some never) c d = refl
led_by_two (Some (literal atom wanted)) c d = refl

led_never : (c : CauseData) → first_named c never ≡ c
led_never never = refl
led_never (literal atom wanted) = refl

-- one more item that fails
pub one_cause_more : (keys : Keys) (items : List (Option MarkedClause)) (item : Option MarkedClause)
    (rest : List (Option MarkedClause)) (first : Option CauseData) (c : CauseData) (o : Option CauseData)
    → ((e : CauseData) → IsCauseOfItems keys (item ∷ rest) e → IsCauseOfItems keys items (led first e))
    → IsCauseOf keys item (Some c) → o ≡ shown first (Some c)
    → (d : CauseData) → IsCauseOfItems keys rest d → IsCauseOfItems keys items (led o d)
one_cause_more keys items item rest first c o so_far is_cause e d behind =
    subst (λ (l : CauseData). IsCauseOfItems keys items l) (sym (ap (λ x. led x d) e ∙ led_by_two first c d))
    (so_far (first_named c d) (c, d, is_cause, behind, refl))

-- the cause of all items, where none is left
pub all_causes : (keys : Keys) (items : List (Option MarkedClause)) (first : Option Cause) (result : Cause)
    → ((e : CauseData) → IsCauseOfItems keys [] e → IsCauseOfItems keys items (led (option_map cause_data first) e))
    → result ≡ unwrap_or first Never → IsCauseOfItems keys items (cause_data result)
all_causes keys items None result so_far e =
    subst (λ (c : Cause). IsCauseOfItems keys items (cause_data c)) (sym e) (so_far never refl)
all_causes keys items (Some c) result so_far e =
    subst (λ (c : Cause). IsCauseOfItems keys items (cause_data c)) (sym e)
    (subst (λ (d : CauseData). IsCauseOfItems keys items d) (led_never (cause_data c)) (so_far never refl))
