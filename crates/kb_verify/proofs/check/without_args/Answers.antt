use Rattle.std.proofs.Common.{◌≡◌, ◌<◌, ◌≤◌, ◌-◌, ◌∷◌, ◌∙◌, [], Some, suc, false, true, sym, ap, subst}
use Rattle.std.proofs.Common.{arith, length, get_or, drop, take}
use Rattle.std.specs.Prelude.{reverse, MatchOption, option_copied}
use Rattle.kb_verify.specs.Check.{takes, takes_each, without_args}
use Rattle.kb_verify.proofs.Lists.{takes_none, takes_rest, wrong_argument}
use Rattle.kb_verify.proofs.check.without_args.Goals as goal

pub returns-then-not-takes : goal.returns-then-not-takes
returns-then-not-takes c =
    let d = c.in-Some.signature.now in
    let ps = c.params-params.result.now in
    let rest = c.loop-i.rest in
    let i = c.loop-i.i - 1 in
    let kind = c.unwrap-kind.result.0 in
    let below = c.unwrap-kind.result.1 in
    let is : rest ≡ kind ∷ below = subst (λ o. MatchOption o (rest ≡ []) (λ parts. rest ≡ parts.0 ∷ parts.1)) c.unwrap-kind.ensures c.split.ensures in
    let n : suc i ≡ c.loop-i.i = omega (arith, c.loop-i-test.true) in
    let lt : i < length ps = omega (arith, c.loop-i.auto.i, c.loop-i-test.true) in
    let le : i ≤ length below = omega (arith, c.loop-i.invariant.room, n, ap length is) in
    let differ : takes (get_or ps i c.index-params-i.result).kind kind ≡ false = sym c.takes.ensures ∙ c.if-not-takes.true in
    let none = subst (λ m. takes_each (take m ps) (reverse (take m rest)) ≡ false) n (takes_none ps i c.index-params-i.result kind rest below lt le differ is) in
    let same : ps ≡ d.params = c.params-params.ensures.params ∙ ap (λ s. s.params) c.as_signature.ensures in
    let all : takes_each ps (reverse (take (length ps) c.args.shape)) ≡ false = c.loop-i.invariant.same ∙ none in
    let le' : length d.params ≤ length c.args.shape = omega (arith, c.if-len-params.false, c.len.ensures.len, ap length same) in
    let e : option_copied c.args.signature ≡ Some d = ap option_copied c.in-Some.is in
    wrong_argument d c.args.shape le' (subst (λ ps. takes_each ps (reverse (take (length ps) c.args.shape)) ≡ false) same all)
    ∙ ap (λ o. without_args o c.args.shape) (sym e)

pub loop-i-preserved : goal.loop-i-preserved
loop-i-preserved c =
    let ps = c.params-params.result.now in
    let rest = c.loop-i.rest in
    let i = c.loop-i.i - 1 in
    let kind = c.unwrap-kind.result.0 in
    let below = c.unwrap-kind.result.1 in
    let is : rest ≡ kind ∷ below = subst (λ o. MatchOption o (rest ≡ []) (λ parts. rest ≡ parts.0 ∷ parts.1)) c.unwrap-kind.ensures c.split.ensures in
    let n : suc i ≡ c.loop-i.i = omega (arith, c.loop-i-test.true) in
    let lt : i < length ps = omega (arith, c.loop-i.auto.i, c.loop-i-test.true) in
    let le : i ≤ length below = omega (arith, c.loop-i.invariant.room, n, ap length is) in
    let agree : takes (get_or ps i c.index-params-i.result).kind kind ≡ true = sym c.takes.ensures ∙ c.if-not-takes.false in
    record {
      room = le;
      left = c.loop-i.invariant.left ∙ ap (λ m. drop m rest) (sym n) ∙ ap (drop (suc i)) is;
      same = c.loop-i.invariant.same ∙ subst (λ m. takes_each (take m ps) (reverse (take m rest)) ≡ takes_each (take i ps) (reverse (take i below))) n (takes_rest ps i c.index-params-i.result kind rest below lt le agree is);
    }
