use Rattle.std.proofs.Common.{◌≡◌, length, ap, sym, ◌∙◌, arith}
use Rattle.std.specs.Prelude.{string_len}
use Rattle.std.proofs.lemmas.Bool.Decides.{nat_tests}
use Rattle.std.proofs.lemmas.Str.{IsUtf8-string_bytes}
use Rattle.kb_base.proofs.TextLemmas.{only_first-past, without_first-past, HasNone-empty, HasNone}
use Rattle.kb_base.proofs.text.Text.pop_front.Goals as goal

none : (c : goal.Then-is_empty) → HasNone c.args.self.now
none c =
    let e : string_len c.self.inside.string ≡ 0 = let h = c.is_empty.ensures in let t = c.if-is_empty.true in
    grind (arith, nat_tests) in
    HasNone-empty c.args.self.now (ap length (sym c.self.view_is) ∙ sym c.self.inside.string.bytes.ok.0 ∙ e)

pub returns-then-is_empty-clause-rest : goal.returns-then-is_empty-clause-rest
returns-then-is_empty-clause-rest c = sym (none c).same_first

pub returns-then-is_empty-clause-cases : goal.returns-then-is_empty-clause-cases
returns-then-is_empty-clause-cases c = (none c).no_first

pub returns-clause-rest : goal.returns-clause-rest
returns-clause-rest c =
    let b = c.remove.ensures.bytes in
    rw (← c.self.view_is)
    (b.2 ∙ sym (without_first-past _ _ c.remove.result (IsUtf8-string_bytes c.self.inside.string) b.1))

pub returns-clause-cases : goal.returns-clause-cases
returns-clause-cases c =
    let b = c.remove.ensures.bytes in
    rw (← c.self.view_is) (only_first-past _ _ c.remove.result (IsUtf8-string_bytes c.self.inside.string) b.1)
