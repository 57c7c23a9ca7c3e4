use Rattle.std.proofs.Common.{◌≡◌, rules}
use Rattle.kb_rules.specs.Removal.{takes}
use Rattle.kb_rules.proofs.RemovalLemmas.{takes_exact}
use Rattle.kb_rules.proofs.removal.Removal.takes.Goals as goal

pub returns-then-fits_keys-clause-meaning : goal.returns-then-fits_keys-clause-meaning
returns-then-fits_keys-clause-meaning c =
    let value : c.fits_clause.result ≡ takes c.args.self.now c.args.rule.now = search rules in
    takes_exact c.fits_clause.result c.args.self.now c.args.rule.now value

pub returns-else-fits_keys-clause-meaning : goal.returns-else-fits_keys-clause-meaning
returns-else-fits_keys-clause-meaning c =
    let value : c.if-eq.value ≡ takes c.args.self.now c.args.rule.now = search rules in
    takes_exact c.if-eq.value c.args.self.now c.args.rule.now value
