use Rattle.std.proofs.Common.{◌≡◌, ◌∙◌, ap, length, refl, rules, sym, Some}
use Rattle.std.specs.Prelude.{slice_get}
use Rattle.std.proofs.lemmas.Option.{slice_get_read}
use Rattle.kb_problems.proofs.opened.OpenedFiles.of.Goals as goal

pub returns-in-Some-Some : goal.returns-in-Some-Some
returns-in-Some-Some c = λ files opens.
    let packages = c.args.self.now.packages.items in
    let lent = c.deref.result.now in
    let number = c.in-Extension.number in
    let found = c.in-Some-Some.field-0.now in
    let same : lent ≡ packages = search rules in
    let is : found ≡ Some c.in-Some-Some.opened = search rules in
    let at = c.in-Some-Some.ensures.lookup.3 in
    let there : slice_get packages number ≡ Some (Some c.in-Some-Some.opened) =
    ap (λ l. slice_get l number) (sym same)
    ∙ slice_get_read lent (length lent) number found refl at.0 (at.1 found) ∙ ap (λ o. Some o) is in
    rw c.in-Extension.is (opens.packages number c.in-Some-Some.opened there)
