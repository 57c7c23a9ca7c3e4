-- What is behind the beginning of a text.
use Rattle.std.proofs.Common.{◌≡◌, ◌∙◌, ℕ, List, Bor, Bool, true, false, Option, Some, None, ap, cond, drop, length, subst, sym}
use Rattle.std.specs.Prelude.{MatchOption, nat_eq, option_map}
use Rattle.std.specs.List.{starts_with}
use Rattle.std.specs.Str.{IsCharBoundary}
use Rattle.std.specs.Str.Pattern.{FindsTextPrefix, StripsPrefix}
use Rattle.std.proofs.lemmas.Str.Pattern.{starts_text}
use Rattle.kb_keyboard.specs.Naming.{behind}

pub behind_is : (text beginning : List ℕ) (r : Option (Bor (List ℕ)))
    → MatchOption r (FindsTextPrefix beginning text None)
    (λ x. StripsPrefix (FindsTextPrefix beginning) text x.now)
    → option_map (λ x. x.now) r ≡ behind text beginning
unfolding behind
behind_is text beginning None h =
    let none : false ≡ starts_with nat_eq text beginning = starts_text false beginning text h in
    ap (λ (b : Bool). cond b (Some (drop (length beginning) text)) None) none
behind_is text beginning (Some x) h =
    let boundary : IsCharBoundary text h.0 = subst (IsCharBoundary text) (sym h.1.0) h.1.2 in
    let some : true ≡ starts_with nat_eq text beginning =
    starts_text true beginning text (h.0, h.1, boundary) in
    ap (λ (s : List ℕ). Some s) (h.2 ∙ ap (λ k. drop k text) h.1.0)
    ∙ ap (λ (b : Bool). cond b (Some (drop (length beginning) text)) None) some
