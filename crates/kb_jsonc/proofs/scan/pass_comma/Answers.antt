use Rattle.std.proofs.Common.{sym}
use Rattle.kb_jsonc.proofs.PassLemmas.{past_comma, ordinary_comma}
use Rattle.kb_jsonc.proofs.scan.pass_comma.Goals as goal

pub pass_byte-requires-clause-ordinary : goal.pass_byte-requires-clause-ordinary
pass_byte-requires-clause-ordinary c = ordinary_comma c.requires.first (sym c.if-not-ends_value.ensures)

pub returns : goal.returns
returns c = past_comma c.requires.stands c.requires.within c.requires.first (sym c.if-not-ends_value.ensures)
