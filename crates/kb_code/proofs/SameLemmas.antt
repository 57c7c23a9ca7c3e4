-- Declarations that `same_declaration` accepts are equal.
use Rattle.std.proofs.Common.{◌≡◌, ◌∙◌, refl, sym, ap, Bool, true, false, ◌&&◌, List, [], ◌∷◌, true≢false}
use Rattle.std.specs.Prelude.{bytes_eq, nat_eq}
use Rattle.std.proofs.lemmas.Slice.Eq.{bytes_eq-Decides}
use Rattle.std.proofs.lemmas.Bool.Decides.{Decides-eqb}
use Rattle.kb_core.specs.declared.arg.Kind.{Kind}
use Rattle.kb_core.specs.declared.arg.Kind.TheVariants as kind
use Rattle.kb_core.specs.declared.parameter.Param.{Param}
use Rattle.kb_core.specs.Declaration.{Declaration}
use Rattle.kb_code.specs.Same.{same_kind, same_params, same_declaration, SameIsEqual}

both : (a b : Bool) → a && b ≡ true → (a ≡ true) × (b ≡ true)
both true b h = (refl, h)
both false b h = absurd (true≢false (sym h))

each : (a b : Bool) → a ≡ true → b ≡ true → a && b ≡ true
each true b h k = k
each false b h k = absurd (true≢false (sym h))

pub kind_is : (a b : Kind) → same_kind a b ≡ true → a ≡ b
kind_is kind.Text kind.Text h = refl
kind_is kind.Text kind.Number h = absurd (true≢false (sym h))
kind_is kind.Text kind.Truth h = absurd (true≢false (sym h))
kind_is kind.Text kind.Any h = absurd (true≢false (sym h))
kind_is kind.Number kind.Text h = absurd (true≢false (sym h))
kind_is kind.Number kind.Number h = refl
kind_is kind.Number kind.Truth h = absurd (true≢false (sym h))
kind_is kind.Number kind.Any h = absurd (true≢false (sym h))
kind_is kind.Truth kind.Text h = absurd (true≢false (sym h))
kind_is kind.Truth kind.Number h = absurd (true≢false (sym h))
kind_is kind.Truth kind.Truth h = refl
kind_is kind.Truth kind.Any h = absurd (true≢false (sym h))
kind_is kind.Any kind.Text h = absurd (true≢false (sym h))
kind_is kind.Any kind.Number h = absurd (true≢false (sym h))
kind_is kind.Any kind.Truth h = absurd (true≢false (sym h))
kind_is kind.Any kind.Any h = refl

pub kind_same : (a : Kind) → same_kind a a ≡ true
kind_same kind.Text = refl
kind_same kind.Number = refl
kind_same kind.Truth = refl
kind_same kind.Any = refl

params_are : (ps qs : List Param) → same_params ps qs ≡ true → ps ≡ qs
params_are [] [] h = refl
params_are [] (q ∷ qs) h = absurd (true≢false (sym h))
params_are (p ∷ ps) [] h = absurd (true≢false (sym h))
params_are (p ∷ ps) (q ∷ qs) h =
    let split = both (bytes_eq p.name q.name && same_kind p.kind q.kind) (same_params ps qs) h in
    let first = both (bytes_eq p.name q.name) (same_kind p.kind q.kind) split.0 in
    let name : p.name ≡ q.name = (bytes_eq-Decides p.name q.name).0 first.0 in
    let kind : p.kind ≡ q.kind = kind_is p.kind q.kind first.1 in
    let rest : ps ≡ qs = params_are ps qs split.1 in
    ap (λ n. record { name = n; kind = p.kind } ∷ ps) name
    ∙ ap (λ k. record { name = q.name; kind = k } ∷ ps) kind
    ∙ ap (λ rest. q ∷ rest) rest

params_same : (ps : List Param) → same_params ps ps ≡ true
params_same [] = refl
params_same (p ∷ ps) =
    each (bytes_eq p.name p.name && same_kind p.kind p.kind) (same_params ps ps)
    (each (bytes_eq p.name p.name) (same_kind p.kind p.kind) ((bytes_eq-Decides p.name p.name).1 refl)
    (kind_same p.kind)) (params_same ps)

declaration_same : (d : Declaration) → same_declaration d d ≡ true
declaration_same d =
    each (nat_eq d.budget d.budget && nat_eq d.depth d.depth) (same_params d.params d.params)
    (each (nat_eq d.budget d.budget) (nat_eq d.depth d.depth) ((Decides-eqb d.budget d.budget).1 refl)
    ((Decides-eqb d.depth d.depth).1 refl)) (params_same d.params)

declaration_is : (d e : Declaration) → same_declaration d e ≡ true → d ≡ e
declaration_is d e h =
    let split = both (nat_eq d.budget e.budget && nat_eq d.depth e.depth) (same_params d.params e.params) h in
    let first = both (nat_eq d.budget e.budget) (nat_eq d.depth e.depth) split.0 in
    let budget : d.budget ≡ e.budget = (Decides-eqb d.budget e.budget).0 first.0 in
    let depth : d.depth ≡ e.depth = (Decides-eqb d.depth e.depth).0 first.1 in
    let params : d.params ≡ e.params = params_are d.params e.params split.1 in
    ap (λ n. record { params = d.params; budget = n; depth = d.depth }) budget
    ∙ ap (λ n. record { params = d.params; budget = e.budget; depth = n }) depth
    ∙ ap (λ ps. record { params = ps; budget = e.budget; depth = e.depth }) params

pub same_is_equal : SameIsEqual
same_is_equal d e = (
  declaration_is d e,
  λ same. ap (same_declaration d) (sym same) ∙ declaration_same d,
)
