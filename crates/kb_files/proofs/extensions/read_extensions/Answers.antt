use Rattle.std.proofs.Common.{◌≤◌, length, rules}
use Rattle.kb_files.proofs.ExtensionsLemmas.{identifiers_fail, identifiers_pass}
use Rattle.kb_files.proofs.extensions.read_extensions.Goals as goal

pub returns-in-Some-clause-read : goal.returns-in-Some-clause-read
returns-in-Some-clause-read c =
    let few : length c.args.extensions.now ≤ 100 = search rules in
    identifiers_fail c.args.platform c.args.extensions.now c.in_ok-all.all c.in-Some.fault few
    c.in_ok-all.ensures.read (search rules)

pub returns-in-None-clause-read : goal.returns-in-None-clause-read
returns-in-None-clause-read c =
    let few : length c.args.extensions.now ≤ 100 = search rules in
    identifiers_pass c.args.platform c.args.extensions.now c.in_ok-all.all few
    c.in_ok-all.ensures.read (search rules)
