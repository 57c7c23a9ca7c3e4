use Rattle.std.proofs.Common.{rules}
use Rattle.kb_keys.proofs.ModifierLemmas.{IsAt, IsNotAt, at_three, at_four, at_five, nowhere}
use Rattle.kb_keys.proofs.modifier.sign_at.Goals as goal

pub returns-then-has_sign-clause-word : goal.returns-then-has_sign-clause-word
returns-then-has_sign-clause-word c =
    let here : IsAt c.args.text.now 3 = search rules in
    at_three c.args.text.now here

pub returns-then-has_sign-2-clause-word : goal.returns-then-has_sign-2-clause-word
returns-then-has_sign-2-clause-word c =
    let three : IsNotAt c.args.text.now 3 = search rules in
    let here : IsAt c.args.text.now 4 = search rules in
    at_four c.args.text.now three here

pub returns-then-has_sign-3-clause-word : goal.returns-then-has_sign-3-clause-word
returns-then-has_sign-3-clause-word c =
    let three : IsNotAt c.args.text.now 3 = search rules in
    let four : IsNotAt c.args.text.now 4 = search rules in
    let here : IsAt c.args.text.now 5 = search rules in
    at_five c.args.text.now three four here

pub returns-else-has_sign-3-clause-word : goal.returns-else-has_sign-3-clause-word
returns-else-has_sign-3-clause-word c =
    let three : IsNotAt c.args.text.now 3 = search rules in
    let four : IsNotAt c.args.text.now 4 = search rules in
    let five : IsNotAt c.args.text.now 5 = search rules in
    nowhere c.args.text.now three four five
