use Rattle.std.proofs.Common.{◌∙◌, ap}
use Rattle.std.proofs.Common.{is_some}
use Rattle.regex.specs.Patterns.{Re, find_str}
use Rattle.regex.specs.Strings.{regex_pattern}
use Rattle.regex.specs.declared.string.regex.Regex.{Regex}
use Rattle.kb_pattern.proofs.PatternLemmas.{held_apart}
use Rattle.kb_pattern.proofs.pattern.Pattern.matches.Goals as goal

pub returns-in_ok-matcher-in-Some-clause-value : goal.returns-in_ok-matcher-in-Some-clause-value
returns-in_ok-matcher-in-Some-clause-value c =
    c.is_match.ensures.found
    ∙ ap (λ (re : Re). is_some (find_str re c.args.text.now 0)) c.in_ok-matcher-in-Some.ensures.pattern
    ∙ ap (λ (r : Regex). is_some (find_str (regex_pattern r) c.args.text.now 0)) c.deref.ensures
    ∙ held_apart (λ b. b.value) _ _ c.args.self.now c.self.inside.compiled c.in-Some.regex c.args.text.now
    c.self.invariant c.in-Some.is c.self.view_is (λ k. (c.type_inv.text k).fits)
